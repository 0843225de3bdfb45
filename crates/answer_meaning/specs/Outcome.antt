-- The outcome of a stage of a command, and sequencing of stages.
use Rattle.std.specs.Prelude.{◌≡◌, ℕ, List, [], ◌++◌, Result, Ok, Err}
use Rattle.answer_meaning.specs.declared.answer.Answer.{Answer}
use Rattle.command_words.specs.declared.status.Status.TheVariants as status

-- a value, or the answer that ends the command
abbrev pub Out : Type 0 → Type 0
Out A = Result A Answer

-- the answer where a file is missing
abbrev pub not_held : Answer
not_held = record { status = status.Read; text = [] }

-- the value, or the answer for the fault
abbrev pub or_refused : {A F : Type 0} → (F → Answer) → Result A F → Out A
or_refused by (Ok a) = Ok a
or_refused by (Err f) = Err (by f)

-- the next stage on the value; an answer is passed on
abbrev pub goes_on : {A B : Type 0} → Out A → (A → Out B) → Out B
goes_on (Ok a) go = go a
goes_on (Err r) go = Err r

-- an answer with this text before its own
abbrev pub headed_by : List ℕ → Answer → Answer
headed_by text a = record { status = a.status; text = text ++ a.text }

-- the same for a next stage that is a relation
abbrev pub ComesOf : {A : Type 0} → Out A → (A → Out Answer → Type 0) → Out Answer → Type 0
ComesOf (Ok a) Go o = Go a o
ComesOf (Err r) Go o = Err r ≡ o

-- the outcome is an answer that satisfies `Is`
abbrev pub IsAnAnswer : (Answer → Type 0) → Out Answer → Type 0
IsAnAnswer Is (Ok a) = Is a
IsAnAnswer Is (Err r) = ⊥
