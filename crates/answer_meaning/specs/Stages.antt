-- The outcome of a stage that reads from a shelf, or why it stops.
use Rattle.std.specs.Prelude.{◌≡◌, ℕ, ◌≤◌, List, Option, Result, Ok, Err, IfOk, IfErr, IfSome}
use Rattle.std.specs.Prelude.{IsSomeAnd}
use Rattle.plex_io.specs.Causes.{Rose}
use Rattle.plex_io.specs.Files.{Files}
use Rattle.plex_num.specs.declared.seq.Memory.{Memory}
use Rattle.answer_meaning.specs.declared.answer.Answer.{Answer}
use Rattle.answer_meaning.specs.declared.answer.Stop.{Stop}
use Rattle.answer_meaning.specs.declared.answer.Stop.TheVariants as stop
use Rattle.command_words.specs.declared.status.Status.{Status}
use Rattle.command_words.specs.declared.status.Status.TheVariants as status
use Rattle.answer_meaning.specs.Outcome.{Out, not_held}
use Rattle.answer_meaning.specs.Text.{IsRefusalOf}
use Rattle.answer_meaning.specs.declared.fault.FileFault.{FileFault}

-- the status of a file's fault
abbrev pub IsRefusal : Status → Type 0
IsRefusal status.Source = Unit {0}
IsRefusal status.Signals = Unit {0}
IsRefusal status.Certificate = Unit {0}
IsRefusal status.Table = Unit {0}
IsRefusal status.Change = Unit {0}
IsRefusal status.Filter = Unit {0}
IsRefusal s = ⊥

-- why a stage stops
abbrev pub StopsBy : {A : Type 0} → Option Files → (Files → Out A → Type 0) → ℕ → ℕ → Stop → Type 0
StopsBy held work before after (stop.Told a f) =
    IsRefusalOf f a × IfSome held (λ files. work files (Err a))
StopsBy held work before after stop.NotHeld = IsSomeAnd held (λ files. work files (Err not_held))
StopsBy held work before after stop.Failed = Rose before after
StopsBy held work before after stop.Memory = Unit {0}

-- a command, or a stage of it, has an outcome or stops for a reason; `before` and `after` count the
-- shelf's faults
pub record Performs {A : Type 0} (held : Option Files) (work : Files → Out A → Type 0)
    (before after : ℕ) (result : Result A Stop) : Type 0 where
  pub ok : IfOk result (λ a. IfSome held (λ files. work files (Ok a)))
  pub stops : IfErr result (StopsBy held work before after)
  pub later : before ≤ after

-- the outcome of a stage is the one defined
abbrev pub Comes : {A : Type 0} → Option Files → (Files → Out A) → ℕ → ℕ → Result A Stop → Type 0
Comes held stage before after result =
    Performs held (λ files o. stage files ≡ o) before after result

-- the outcome satisfies `Is`, or out of memory; no file is read
abbrev pub TellsOutcome : {A : Type 0} → (Out A → Type 0) → Result A Stop → Type 0
TellsOutcome Is (Ok a) = Is (Ok a)
TellsOutcome Is (Err (stop.Told a f)) = IsRefusalOf f a × Is (Err a)
TellsOutcome Is (Err stop.NotHeld) = ⊥
TellsOutcome Is (Err stop.Failed) = ⊥
TellsOutcome Is (Err stop.Memory) = Unit {0}

-- the outcome is this one, or out of memory
abbrev pub ReadAs : {A : Type 0} → Out A → Result A Stop → Type 0
ReadAs said result = TellsOutcome (λ o. said ≡ o) result

-- the stop for this refusal, with its fault
abbrev pub IsStopOf : Answer → Stop → Type 0
IsStopOf a (stop.Told b f) = IsRefusalOf f b × (a ≡ b)
IsStopOf a stop.NotHeld = ⊥
IsStopOf a stop.Failed = ⊥
IsStopOf a stop.Memory = Unit {0}

-- the stop for this fault, with this status and line, or out of memory for the line
abbrev pub IsStopWith : FileFault → Status → Result (List ℕ) Memory → Stop → Type 0
IsStopWith f s (Ok line) t = t ≡ stop.Told (record { status = s; text = line }) f
IsStopWith f s (Err m) t = t ≡ stop.Memory
