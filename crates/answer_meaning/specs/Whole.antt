-- The contract of the top call with in-memory devices that never fail.
use Rattle.std.specs.Prelude.{◌≡◌, ℕ, ◌+◌, ◌≤◌, List, ◌++◌, length}
use Rattle.plex_io.specs.Steady.{SteadyState}
use Rattle.answer_meaning.specs.declared.answer.Answer.{Answer}
use Rattle.command_words.specs.declared.status.Status.{Status}

-- the sink has room for the text of each answer that satisfies `Is`
abbrev pub HasRoom : (Answer → Type 0) → SteadyState → Type 0
HasRoom Is sink = (a : Answer) → Is a → length sink.bytes + length a.text ≤ sink.size

-- an answer that satisfies `Is`: its whole text was written, and its status was returned
pub record IsWhole (Is : Answer → Type 0) (before after : List ℕ) (s : Status) : Type 0 where
  pub answer : Answer
  pub is : Is answer
  pub status : s ≡ answer.status
  pub text : after ≡ before ++ answer.text
