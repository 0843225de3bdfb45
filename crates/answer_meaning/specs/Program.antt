-- The contract of the top call.
use Rattle.std.specs.Prelude.{◌≡◌, ℕ, List, Option, Some, None, Result, Ok, Err, IsSomeAnd, ◌⊎◌}
use Rattle.plex_io.specs.Causes.{Rose}
use Rattle.plex_io.specs.Files.{Files}
use Rattle.plex_io.specs.Written.{appended, WroteLess, IsFull}
use Rattle.answer_meaning.specs.Answer.{answer_of}
use Rattle.answer_meaning.specs.declared.answer.Answer.{Answer}
use Rattle.answer_meaning.specs.declared.answer.ProgramEnd.{ProgramEnd}
use Rattle.answer_meaning.specs.declared.answer.Stop.{Stop}
use Rattle.answer_meaning.specs.declared.answer.Stop.TheVariants as stop
use Rattle.answer_meaning.specs.declared.fault.FileFault.{FileFault}
use Rattle.answer_meaning.specs.Outcome.{not_held}
use Rattle.answer_meaning.specs.Stages.{IsRefusal, Performs}
use Rattle.answer_meaning.specs.Text.{IsRefusalOf}
use Rattle.command_words.specs.declared.status.Status.{Status}
use Rattle.command_words.specs.declared.status.Status.TheVariants as status

-- the whole text was written, and the status is the answer's
pub record IsWritten (a : Answer) (before after : Option (List ℕ)) (s : Status) : Type 0 where
  pub status : s ≡ a.status
  pub text : after ≡ appended before a.text

-- how the call ends with this status, where this is the answer
abbrev pub ProcessEnds : Answer → Option (List ℕ) → Option (List ℕ) → Status → Type 0
ProcessEnds a before after status.Read = Unit {0}
ProcessEnds a before after status.Memory = Unit {0}
ProcessEnds a before after status.Write = WroteLess before after a.text
ProcessEnds a before after s = IsWritten a before after s

-- the answer satisfies `Is`, and the call ends with this status
pub record EndsBy (Is : Answer → Type 0) (before after : Option (List ℕ)) (s : Status) : Type
    0 where
  pub answer : Answer
  pub is : Is answer
  pub ends : ProcessEnds answer before after s

-- how the call ends with this status, where the answer satisfies `Is`
abbrev pub ProcessEndsAs : (Answer → Type 0) → Option (List ℕ) → Option (List ℕ) → Status → Type 0
ProcessEndsAs Is before after status.Read = Unit {0}
ProcessEndsAs Is before after status.Memory = Unit {0}
ProcessEndsAs Is before after s = EndsBy Is before after s

-- why a read failed: a device's fault in this call, or a missing file; nothing was written
pub record ReadCause (Is : Files → Answer → Type 0) (held : Option Files) (faults faults' : ℕ)
    (before after : Option (List ℕ)) : Type 0 where
  pub cause : Rose faults faults' ⊎ IsSomeAnd held (λ files. Is files not_held)
  pub silent : after ≡ before

-- a write failed in this call, and a sink of known size is full
pub record WriteCause (size : Option ℕ) (written : Option (List ℕ)) (faults faults' : ℕ) : Type
    0 where
  pub cause : Rose faults faults'
  pub full : IsFull size written

-- an answer that satisfies `Is` has this status
pub record HasStatus (Is : Answer → Type 0) (s : Status) : Type 0 where
  pub answer : Answer
  pub is : Is answer
  pub status : s ≡ answer.status

-- if no read and no write failed, the status is the answer's, or out of memory
abbrev pub IsComplete : (Answer → Type 0) → ℕ → ℕ → ℕ → ℕ → Status → Type 0
IsComplete Is shelf shelf' sink sink' s =
    ¬ (Rose shelf shelf') → ¬ (Rose sink sink') → HasStatus Is s ⊎ (s ≡ status.Memory)

-- the refusal of this fault was written in full, with its status
pub record IsLineOf (f : FileFault) (before after : Option (List ℕ)) (s : Status) : Type 0 where
  pub answer : Answer
  pub is : IsRefusalOf f answer
  pub written : IsWritten answer before after s

-- a fault is reported exactly with the status of a refusal, and it is that of the line written
abbrev pub TellsFault : Option (List ℕ) → Option (List ℕ) → Status → Option FileFault → Type 0
TellsFault before after s None = ¬ (IsRefusal s)
TellsFault before after s (Some f) = IsLineOf f before after s

-- an answer is the refusal of this fault, or no refusal
abbrev pub FitsFault : Option FileFault → Answer → Type 0
FitsFault None a = ¬ (IsRefusal a.status)
FitsFault (Some f) a = IsRefusalOf f a

-- a status whose answer is written as a text
abbrev pub WritesText : Status → Type 0
WritesText status.Read = ⊥
WritesText status.Write = ⊥
WritesText status.Memory = ⊥
WritesText s = Unit {0}

-- the call results in an answer that satisfies `Is`, or in the reason why there is none
abbrev pub Answers : (Files → Answer → Type 0) → Option Files → (faults faults' : ℕ)
    → Result Answer Stop → Type 0
Answers Is held faults faults' result =
    Performs held (λ files o. Is files (answer_of o)) faults faults' result

-- an answer to write: arguments that are no command get the usage line and no others do; a refusal
-- comes with its fault
pub record IsMade (Unshaped : Type 0) (usage_line a : Answer) (f : Option FileFault) : Type 0 where
  pub plain : WritesText a.status
  pub usage : a.status ≡ status.Usage → Unshaped
  pub unshaped : Unshaped → a ≡ usage_line
  pub fits : FitsFault f a

-- the answer to write, if there is one, is of that form
abbrev pub Makes : Type 0 → Answer → Result Answer Stop → Type 0
Makes Unshaped usage_line (Ok a) = IsMade Unshaped usage_line a None
Makes Unshaped usage_line (Err (stop.Told a f)) = IsMade Unshaped usage_line a (Some f)
Makes Unshaped usage_line (Err stop.NotHeld) = Unit {0}
Makes Unshaped usage_line (Err stop.Failed) = Unit {0}
Makes Unshaped usage_line (Err stop.Memory) = Unit {0}

-- an answer may be written, and with it this fault is told
pub record IsWritable (a : Answer) (f : Option FileFault) : Type 0 where
  pub plain : WritesText a.status
  pub fits : FitsFault f a

-- what is to be written, if anything is, may be
abbrev pub MayEnd : Result Answer Stop → Type 0
MayEnd (Ok a) = IsWritable a None
MayEnd (Err (stop.Told a f)) = IsWritable a (Some f)
MayEnd (Err stop.NotHeld) = Unit {0}
MayEnd (Err stop.Failed) = Unit {0}
MayEnd (Err stop.Memory) = Unit {0}

-- the program ends with this answer, or with the failure of a write
pub record EndsWritten (a : Answer) (size : Option ℕ) (before after : Option (List ℕ))
    (faults faults' : ℕ) (end : ProgramEnd) : Type 0 where
  pub ends : ProcessEnds a before after end.status
  pub write : end.status ≡ status.Write → WriteCause size after faults faults'
  pub plain : (end.status ≡ status.Write) ⊎ (end.status ≡ a.status)
  pub fault : TellsFault before after end.status end.fault

-- the program ends with this status, and writes nothing
pub record EndsSilent (s : Status) (before after : Option (List ℕ)) (end : ProgramEnd) : Type
    0 where
  pub is : end ≡ record { status = s; fault = None }
  pub silent : after ≡ before

-- the end of the program with an answer, or by what stopped the work for it
abbrev pub EndsBecause : Result Answer Stop → (size : Option ℕ) → (before after : Option (List ℕ))
    → (faults faults' : ℕ) → ProgramEnd → Type 0
EndsBecause (Ok a) size before after faults faults' end =
    EndsWritten a size before after faults faults' end
EndsBecause (Err (stop.Told a f)) size before after faults faults' end =
    EndsWritten a size before after faults faults' end
EndsBecause (Err stop.NotHeld) size before after faults faults' end =
    EndsSilent status.Read before after end
EndsBecause (Err stop.Failed) size before after faults faults' end =
    EndsSilent status.Read before after end
EndsBecause (Err stop.Memory) size before after faults faults' end =
    EndsSilent status.Memory before after end

-- the status of a run
abbrev pub IsEnding : Status → Type 0
IsEnding status.Done = Unit {0}
IsEnding status.Restart = Unit {0}
IsEnding status.Limit = Unit {0}
IsEnding s = ⊥
