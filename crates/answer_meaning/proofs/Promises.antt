-- What a program promises, by how it ends with its answer or by what stopped the work for it.
use Rattle.std.proofs.Common.{◌≡◌, ℕ, List, Option, Some, None, Result, Ok, Err, IfSome, IsSomeAnd}
use Rattle.std.proofs.Common.{◌⊎◌, sym, subst, ◌∙◌, inl, inr}
use Rattle.plex_io.specs.Causes.{Rose}
use Rattle.plex_io.specs.Files.{Files}
use Rattle.answer_meaning.specs.Outcome.{not_held}
use Rattle.answer_meaning.specs.Program.{Answers, EndsBecause, EndsSilent, EndsWritten, IsComplete}
use Rattle.answer_meaning.specs.Program.{IsMade, Makes, MayEnd, ProcessEnds, ProcessEndsAs}
use Rattle.answer_meaning.specs.Program.{ReadCause, TellsFault, WriteCause, WritesText}
use Rattle.answer_meaning.specs.declared.answer.Answer.{Answer}
use Rattle.answer_meaning.specs.declared.answer.ProgramEnd.{ProgramEnd}
use Rattle.answer_meaning.specs.declared.answer.Stop.{Stop}
use Rattle.answer_meaning.specs.declared.answer.Stop.TheVariants as stop
use Rattle.answer_meaning.specs.declared.fault.FileFault.{FileFault}
use Rattle.command_words.specs.declared.status.Status.{Status}
use Rattle.command_words.specs.declared.status.Status.TheVariants as status
use Rattle.answer_meaning.proofs.Endings.{complete_absent, complete_failed, complete_memory}
use Rattle.answer_meaning.proofs.Endings.{complete_written, ends_held}

-- what a program promises of its end: the files that are held, if the shelf tells them, the faults
-- of the shelf and of the sink before and after, and what was written
pub record Promises (Is : Files → Answer → Type 0) (Unshaped : Type 0) (usage_line : Answer) (held : Option Files)
    (shelf shelf' : ℕ) (size : Option ℕ) (before after : Option (List ℕ)) (sink sink' : ℕ) (end : ProgramEnd) : Type 0 where
  pub answers : IfSome held (λ files. ProcessEndsAs (Is files) before after end.status)
  pub unshaped : Unshaped → ProcessEnds usage_line before after end.status
  pub usage : end.status ≡ status.Usage → Unshaped
  pub read : end.status ≡ status.Read → ReadCause Is held shelf shelf' before after
  pub write : end.status ≡ status.Write → WriteCause size after sink sink'
  pub memory : end.status ≡ status.Memory → after ≡ before
  pub complete : IfSome held (λ files. IsComplete (Is files) shelf shelf' sink sink' end.status)
  pub fault : TellsFault before after end.status end.fault

-- what is made may be written
pub made_may_end : (Unshaped : Type 0) (usage_line : Answer) (r : Result Answer Stop) → Makes Unshaped usage_line r → MayEnd r
made_may_end Unshaped usage_line (Ok a) made = record { plain = made.plain; fits = made.fits }
made_may_end Unshaped usage_line (Err (stop.Told a f)) made = record { plain = made.plain; fits = made.fits }
made_may_end Unshaped usage_line (Err stop.NotHeld) made = tt
made_may_end Unshaped usage_line (Err stop.Failed) made = tt
made_may_end Unshaped usage_line (Err stop.Memory) made = tt

-- the failure of a write has a status of its own
IsWrite : Status → Type 0
IsWrite status.Write = Unit {0}
IsWrite s = ⊥

IsMemory : Status → Type 0
IsMemory status.Memory = Unit {0}
IsMemory s = ⊥

not_read : status.Memory ≡ status.Read → ⊥
unfolding IsMemory
not_read is = subst IsMemory is tt

-- a status that is another one is that of the answer
of_answer : (s a t : Status) → (IsWrite t → ⊥) → (s ≡ status.Write) ⊎ (s ≡ a) → s ≡ t → a ≡ t
unfolding IsWrite
of_answer s a t other (inl write) is = absurd (other (subst IsWrite (sym write ∙ is) tt))
of_answer s a t other (inr same) is = sym same ∙ is

-- the answer was written, or a write failed
of_written : (Is : Files → Answer → Type 0) (Unshaped : Type 0) (usage_line : Answer) (held : Option Files)
    (shelf shelf' : ℕ) (size : Option ℕ) (before after : Option (List ℕ)) (sink sink' : ℕ) (a : Answer)
    (f : Option FileFault) (end : ProgramEnd) → IfSome held (λ files. Is files a) → IsMade Unshaped usage_line a f
    → EndsWritten a size before after sink sink' end
    → Promises Is Unshaped usage_line held shelf shelf' size before after sink sink' end
unfolding IsWrite
of_written Is Unshaped usage_line held shelf shelf' size before after sink sink' a f end is made w = record {
  answers = ends_held Is held a before after end.status is w.ends;
  unshaped = λ no_shape. subst (λ b. ProcessEnds b before after end.status) (made.unshaped no_shape) w.ends;
  usage = λ u. made.usage (of_answer end.status a.status status.Usage (λ x. x) w.plain u);
  read = λ r. absurd (subst WritesText (of_answer end.status a.status status.Read (λ x. x) w.plain r) made.plain);
  write = w.write;
  memory = λ m. absurd (subst WritesText (of_answer end.status a.status status.Memory (λ x. x) w.plain m) made.plain);
  complete = complete_written Is held a size after shelf shelf' sink sink' end.status is w.write w.plain;
  fault = w.fault;
}

-- an end with a status that says nothing of the answer
read_answers : (Is : Files → Answer → Type 0) (held : Option Files) (before after : Option (List ℕ))
    → IfSome held (λ files. ProcessEndsAs (Is files) before after status.Read)
read_answers Is None before after = tt
read_answers Is (Some files) before after = tt

memory_answers : (Is : Files → Answer → Type 0) (held : Option Files) (before after : Option (List ℕ))
    → IfSome held (λ files. ProcessEndsAs (Is files) before after status.Memory)
memory_answers Is None before after = tt
memory_answers Is (Some files) before after = tt

complete_unread : (Is : Files → Answer → Type 0) (held : Option Files) (shelf shelf' sink sink' : ℕ)
    → Rose shelf shelf' ⊎ IsSomeAnd held (λ files. Is files not_held)
    → IfSome held (λ files. IsComplete (Is files) shelf shelf' sink sink' status.Read)
complete_unread Is held shelf shelf' sink sink' (inl rose) = complete_failed Is held shelf shelf' sink sink' rose
complete_unread Is held shelf shelf' sink sink' (inr is) = complete_absent Is held shelf shelf' sink sink' is

-- a read failed, or a file is not held
of_unread : (Is : Files → Answer → Type 0) (Unshaped : Type 0) (usage_line : Answer) (held : Option Files)
    (shelf shelf' : ℕ) (size : Option ℕ) (before after : Option (List ℕ)) (sink sink' : ℕ) (end : ProgramEnd)
    → Rose shelf shelf' ⊎ IsSomeAnd held (λ files. Is files not_held) → EndsSilent status.Read before after end
    → Promises Is Unshaped usage_line held shelf shelf' size before after sink sink' end
unfolding IsWrite
of_unread Is Unshaped usage_line held shelf shelf' size before after sink sink' end cause q =
    subst (Promises Is Unshaped usage_line held shelf shelf' size before after sink sink') (sym q.is) (record {
      answers = read_answers Is held before after;
      unshaped = λ no_shape. tt;
      usage = λ u. absurd (subst WritesText (sym u) tt);
      read = λ r. record { cause = cause; silent = q.silent };
      write = λ w. absurd (subst IsWrite (sym w) tt);
      memory = λ m. q.silent;
      complete = complete_unread Is held shelf shelf' sink sink' cause;
      fault = λ r. r;
    })

-- memory was refused
of_memory : (Is : Files → Answer → Type 0) (Unshaped : Type 0) (usage_line : Answer) (held : Option Files)
    (shelf shelf' : ℕ) (size : Option ℕ) (before after : Option (List ℕ)) (sink sink' : ℕ) (end : ProgramEnd)
    → EndsSilent status.Memory before after end
    → Promises Is Unshaped usage_line held shelf shelf' size before after sink sink' end
unfolding IsWrite
of_memory Is Unshaped usage_line held shelf shelf' size before after sink sink' end q =
    subst (Promises Is Unshaped usage_line held shelf shelf' size before after sink sink') (sym q.is) (record {
      answers = memory_answers Is held before after;
      unshaped = λ no_shape. tt;
      usage = λ u. absurd (subst WritesText (sym u) tt);
      read = λ r. absurd (not_read r);
      write = λ w. absurd (subst IsWrite (sym w) tt);
      memory = λ m. q.silent;
      complete = complete_memory Is held shelf shelf' sink sink';
      fault = λ r. r;
    })

pub promised : (Is : Files → Answer → Type 0) (Unshaped : Type 0) (usage_line : Answer) (held : Option Files)
    (shelf shelf' : ℕ) (size : Option ℕ) (before after : Option (List ℕ)) (sink sink' : ℕ) (r : Result Answer Stop)
    (end : ProgramEnd) → Answers Is held shelf shelf' r → Makes Unshaped usage_line r
    → EndsBecause r size before after sink sink' end
    → Promises Is Unshaped usage_line held shelf shelf' size before after sink sink' end
promised Is Unshaped usage_line held shelf shelf' size before after sink sink' (Ok a) end answers made ends =
    of_written Is Unshaped usage_line held shelf shelf' size before after sink sink' a None end answers.ok made ends
promised Is Unshaped usage_line held shelf shelf' size before after sink sink' (Err (stop.Told a f)) end answers made ends =
    of_written Is Unshaped usage_line held shelf shelf' size before after sink sink' a (Some f) end answers.stops.1 made ends
promised Is Unshaped usage_line held shelf shelf' size before after sink sink' (Err stop.NotHeld) end answers made ends =
    of_unread Is Unshaped usage_line held shelf shelf' size before after sink sink' end (inr answers.stops) ends
promised Is Unshaped usage_line held shelf shelf' size before after sink sink' (Err stop.Failed) end answers made ends =
    of_unread Is Unshaped usage_line held shelf shelf' size before after sink sink' end (inl answers.stops) ends
promised Is Unshaped usage_line held shelf shelf' size before after sink sink' (Err stop.Memory) end answers made ends =
    of_memory Is Unshaped usage_line held shelf shelf' size before after sink sink' end ends
