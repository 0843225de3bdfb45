-- From the outcome of a command to its answer and the end of the program.
use Rattle.std.proofs.Common.{◌≡◌, ℕ, List, Option, Some, None, Result, Ok, Err, IfOk, IfSome}
use Rattle.std.proofs.Common.{IsSomeAnd, ◌⊎◌, ap, refl, sym, subst, ◌∙◌, inl, inr, ◌+◌, ◌<◌, ◌≤◌}
use Rattle.std.proofs.Common.{◌++◌, length, take, arith, min, append-nil}
use Rattle.std.specs.Result.{result_ok}
use Rattle.std.proofs.lemmas.Option.{none-some, same_Some}
use Rattle.plex_io.specs.Causes.{Rose}
use Rattle.plex_io.specs.Files.{Files}
use Rattle.command_words.specs.Words.{Word, shape}
use Rattle.answer_meaning.specs.Outcome.{Out, not_held}
use Rattle.answer_meaning.specs.Stages.{IsRefusal, Performs, ReadAs}
use Rattle.answer_meaning.specs.Answer.{IsAnswer, IsAnswerBy, answer_of, performed, usage_answer}
use Rattle.answer_meaning.specs.Program.{Answers, FitsFault, ProcessEnds, ProcessEndsAs, IsComplete}
use Rattle.answer_meaning.specs.Program.{IsEnding, IsMade, TellsFault, WritesText, Makes, ReadCause}
use Rattle.answer_meaning.specs.Program.{WriteCause, IsWritten}
use Rattle.answer_meaning.specs.Text.{IsRefusalOf, certificate_refusal, filter_refusal}
use Rattle.answer_meaning.specs.Text.{signals_refusal, source_refusal, table_refusal}
use Rattle.answer_meaning.specs.declared.fault.FileFault.{FileFault}
use Rattle.answer_meaning.specs.declared.fault.FileFault.TheVariants as file
use Rattle.command_words.specs.declared.command.Command.{Command}
use Rattle.answer_meaning.specs.declared.answer.Answer.{Answer}
use Rattle.answer_meaning.specs.declared.answer.Stop.{Stop}
use Rattle.answer_meaning.specs.declared.answer.Stop.TheVariants as stop
use Rattle.command_words.specs.declared.status.Status.{Status}
use Rattle.command_words.specs.declared.status.Status.TheVariants as status
use Rattle.answer_meaning.proofs.Stages.{performs_as, performs_told}
use Rattle.std.proofs.lemmas.List.{length-take, length-append}
use Rattle.plex_io.specs.Steady.{SteadyState}
use Rattle.plex_io.specs.Written.{WroteLess, appended}
use Rattle.answer_meaning.specs.Whole.{HasRoom, IsWhole}

IsSomething : Option Command → Type 0
IsSomething None = ⊥
IsSomething (Some c) = Unit {0}

some_none : (c : Command) → Some c ≡ None → ⊥
unfolding IsSomething
some_none c e = subst IsSomething e tt

-- an end with an answer that satisfies `Is`
ends_as : (Is : Answer → Type 0) (a : Answer) (before after : Option (List ℕ)) (s : Status) → Is a
    → ProcessEnds a before after s → ProcessEndsAs Is before after s
ends_as Is a before after status.Read is ends = tt
ends_as Is a before after status.Memory is ends = tt
ends_as Is a before after s is ends = record { answer = a; is = is; ends = ends }

pub ends_held : (Is : Files → Answer → Type 0) (held : Option Files) (a : Answer) (before after : Option (List ℕ))
    (s : Status) → IfSome held (λ files. Is files a) → ProcessEnds a before after s
    → IfSome held (λ files. ProcessEndsAs (Is files) before after s)
ends_held Is None a before after s is ends = tt
ends_held Is (Some files) a before after s is ends = ends_as (Is files) a before after s is ends

-- the answer was written, so its status is returned unless a write failed
pub complete_written : (Is : Files → Answer → Type 0) (held : Option Files) (a : Answer) (size : Option ℕ)
    (written : Option (List ℕ)) (shelf shelf' sink sink' : ℕ) (s : Status) → IfSome held (λ files. Is files a)
    → (s ≡ status.Write → WriteCause size written sink sink') → (s ≡ status.Write) ⊎ (s ≡ a.status)
    → IfSome held (λ files. IsComplete (Is files) shelf shelf' sink sink' s)
complete_written Is None a size written shelf shelf' sink sink' s is cause either = tt
complete_written Is (Some files) a size written shelf shelf' sink sink' s is cause (inl failed) = λ no_read no_write. absurd (no_write ((cause failed).cause))
complete_written Is (Some files) a size written shelf shelf' sink sink' s is cause (inr same) =
    λ no_read no_write. inl (record { answer = a; is = is; status = same })

-- a read failed, or a file is missing
pub complete_failed : (Is : Files → Answer → Type 0) (held : Option Files) (shelf shelf' sink sink' : ℕ)
    → Rose shelf shelf' → IfSome held (λ files. IsComplete (Is files) shelf shelf' sink sink' status.Read)
complete_failed Is None shelf shelf' sink sink' rose = tt
complete_failed Is (Some files) shelf shelf' sink sink' rose = λ no_read no_write. absurd (no_read rose)

pub complete_absent : (Is : Files → Answer → Type 0) (held : Option Files) (shelf shelf' sink sink' : ℕ)
    → IsSomeAnd held (λ files. Is files not_held)
    → IfSome held (λ files. IsComplete (Is files) shelf shelf' sink sink' status.Read)
complete_absent Is None shelf shelf' sink sink' is = tt
complete_absent Is (Some files) shelf shelf' sink sink' is = λ no_read no_write. inl (record { answer = not_held; is = is; status = refl })

pub complete_memory : (Is : Files → Answer → Type 0) (held : Option Files) (shelf shelf' sink sink' : ℕ)
    → IfSome held (λ files. IsComplete (Is files) shelf shelf' sink sink' status.Memory)
complete_memory Is None shelf shelf' sink sink' = tt
complete_memory Is (Some files) shelf shelf' sink sink' = λ no_read no_write. inr refl

-- the answer to these arguments, where they are a command with this outcome
answer_is : (words : List Word) (c : Command) (files : Files) (o : Out Answer) → Some c ≡ shape words → performed c files o → IsAnswer words files (answer_of o)
unfolding IsAnswer
answer_is words c files o e p = subst (λ s. IsAnswerBy s files (answer_of o)) e (record { outcome = o; comes = p; told = refl })

pub answers_command : (held : Option Files) (words : List Word) (c : Command) (b a : ℕ) (r : Result Answer Stop)
    → Some c ≡ shape words → Performs held (performed c) b a r → Answers (IsAnswer words) held b a r
answers_command held words c b a r e p = performs_as held (performed c) (λ files o. IsAnswer words files (answer_of o))
    b a r (λ files o comes. answer_is words c files o e comes) p

-- the arguments are no command
usage_is : (words : List Word) (files : Files) (a : Answer) → None ≡ shape words → usage_answer ≡ a → IsAnswer words files a
unfolding IsAnswer
usage_is words files a e is = subst (λ s. IsAnswerBy s files a) e is

pub answers_usage : (held : Option Files) (words : List Word) (n : ℕ) (r : Result Answer Stop) → None ≡ shape words
    → ReadAs (Ok usage_answer) r → Answers (IsAnswer words) held n n r
answers_usage held words n r e reads = performs_as held (λ files o. Ok usage_answer ≡ o)
    (λ files o. IsAnswer words files (answer_of o)) n n r
    (λ files o is. usage_is words files (answer_of o) e (ap answer_of is))
    (performs_told held (λ o. Ok usage_answer ≡ o) n r reads)

-- the status of a run is one with a text
plain_ending : (s : Status) → IsEnding s → WritesText s
plain_ending status.Done e = tt
plain_ending status.Restart e = tt
plain_ending status.Limit e = tt
plain_ending s e = absurd e

-- the status of a refusal is one with a text
plain_refusal : (s : Status) → IsRefusal s → WritesText s
plain_refusal status.Source e = tt
plain_refusal status.Signals e = tt
plain_refusal status.Certificate e = tt
plain_refusal status.Table e = tt
plain_refusal status.Filter e = tt
plain_refusal status.Change e = tt
plain_refusal s e = absurd e

-- the status of a run is not that of a refusal
no_refusal : (s : Status) → IsEnding s → ¬ (IsRefusal s)
no_refusal status.Done e = λ r. r
no_refusal status.Restart e = λ r. r
no_refusal status.Limit e = λ r. r
no_refusal s e = absurd e

-- the answer to a fault has the status of a refusal
refusal_status : (f : FileFault) (a : Answer) → IsRefusalOf f a → IsRefusal a.status
unfolding source_refusal signals_refusal certificate_refusal table_refusal filter_refusal
refusal_status (file.Source which f) a is = subst (λ (b : Answer). IsRefusal b.status) is tt
refusal_status (file.Signals f) a is = subst (λ (b : Answer). IsRefusal b.status) is tt
refusal_status (file.Certificate f) a is = subst (λ (b : Answer). IsRefusal b.status) is tt
refusal_status (file.Table f) a is = subst (λ (b : Answer). IsRefusal b.status) is tt
refusal_status (file.Filter f) a is = subst (λ (b : Answer). IsRefusal b.status) is tt
refusal_status (file.Change m) a is = subst (λ (b : Answer). IsRefusal b.status) is.1 tt

pub made_ending : (Unshaped : Type 0) (usage_line a : Answer) → (Unshaped → ⊥) → IsEnding a.status → IsMade Unshaped usage_line a None
made_ending Unshaped usage_line a shaped is = record {
  plain = plain_ending a.status is;
  usage = λ u. absurd (subst IsEnding u is);
  unshaped = λ no. absurd (shaped no);
  fits = no_refusal a.status is;
}

pub made_refusal : (Unshaped : Type 0) (usage_line a : Answer) (f : FileFault) → (Unshaped → ⊥) → IsRefusalOf f a → IsMade Unshaped usage_line a (Some f)
made_refusal Unshaped usage_line a f shaped is =
    let refused : IsRefusal a.status = refusal_status f a is in
    record {
      plain = plain_refusal a.status refused;
      usage = λ u. absurd (subst IsRefusal u refused);
      unshaped = λ no. absurd (shaped no);
      fits = is;
    }

-- the answer was written in full, and its fault is reported
pub fault_written : (f : Option FileFault) (a : Answer) (before after : Option (List ℕ)) → FitsFault f a
    → after ≡ appended before a.text → TellsFault before after a.status f
fault_written None a before after fits text = fits
fault_written (Some f) a before after fits text = record { answer = a; is = fits; written = record { status = refl; text = text } }

-- the answer of a stage is that of a run or of a refusal
pub makes_told : (Unshaped : Type 0) (usage_line : Answer) (held : Option Files) (work : Files → Out Answer → Type 0)
    (b a : ℕ) (r : Result Answer Stop) → (Unshaped → ⊥) → Performs held work b a r → IfOk r (λ a. IsEnding a.status)
    → Makes Unshaped usage_line r
makes_told Unshaped usage_line held work b a (Ok v) shaped p ends = made_ending Unshaped usage_line v shaped ends
makes_told Unshaped usage_line held work b a (Err (stop.Told v f)) shaped p ends = made_refusal Unshaped usage_line v f shaped p.stops.0
makes_told Unshaped usage_line held work b a (Err stop.NotHeld) shaped p ends = tt
makes_told Unshaped usage_line held work b a (Err stop.Failed) shaped p ends = tt
makes_told Unshaped usage_line held work b a (Err stop.Memory) shaped p ends = tt

pub makes_command : (held : Option Files) (words : List Word) (c : Command) (b a : ℕ) (r : Result Answer Stop)
    → Some c ≡ shape words → Performs held (performed c) b a r → IfOk r (λ a. IsEnding a.status)
    → Makes (shape words ≡ None) usage_answer r
makes_command held words c b a r e p ends = makes_told (shape words ≡ None) usage_answer held (performed c) b a r (λ none. some_none c (e ∙ none)) p ends

pub makes_usage : (Unshaped : Type 0) (a : Answer) (r : Result Answer Stop) → Unshaped → a.status ≡ status.Usage → ReadAs (Ok a) r → Makes Unshaped a r
makes_usage Unshaped a (Ok v) none usage reads =
    let same : a ≡ v = same_Some a v (ap result_ok reads) in
    let status_is : v.status ≡ status.Usage = sym (ap (λ (x : Answer). x.status) same) ∙ usage in
    record {
      plain = subst WritesText (sym status_is) tt;
      usage = λ u. none;
      unshaped = λ n. sym same;
      fits = λ r. subst IsRefusal status_is r;
    }
makes_usage Unshaped a (Err (stop.Told v f)) none usage reads = absurd (none-some a (ap result_ok (sym reads.1)))
makes_usage Unshaped a (Err stop.NotHeld) none usage reads = tt
makes_usage Unshaped a (Err stop.Failed) none usage reads = tt
makes_usage Unshaped a (Err stop.Memory) none usage reads = tt

pub ruleset answering = (answers_command, answers_usage, makes_command, makes_usage)

-- ## Devices that never fail
--
-- If there is room for the answer's text, each end is that of the answer, or out of memory.

-- a proper prefix was written and the sink is full, so there was no room for the whole text
no_room : (old new text : List ℕ) (size : ℕ) → WroteLess (Some old) (Some new) text → size ≤ length new → length old + length text ≤ size → ⊥
no_room old new text size less full room =
    let count = less.count in
    let bytes : new ≡ old ++ take count text = same_Some _ _ less.bytes in
    let long : length new ≡ length old + length (take count text) = ap length bytes ∙ length-append old (take count text) in
    let part : length (take count text) ≡ min count (length text) = length-take count text in
    let fewer : count < length text = less.less in
    omega (arith, long, part, fewer, full, room)

-- a count that is still 0 has not risen
stays : Rose 0 0 → ⊥
stays rose = omega (arith, rose)

-- the answer is that a file is missing, and nothing was written
not_read : (words : List Word) (files : Files) (old new : List ℕ) → Rose 0 0 ⊎ IsAnswer words files not_held → new ≡ old
    → IsWhole (IsAnswer words files) old new status.Read
not_read words files old new (inl rose) silent = absurd (stays rose)
not_read words files old new (inr is) silent = record { answer = not_held; is = is; status = refl; text = silent ∙ sym (append-nil old) }

-- the whole text was written
written : (Is : Answer → Type 0) (old new : List ℕ) (s : Status) (a : Answer) → Is a → IsWritten a (Some old) (Some new) s → IsWhole Is old new s
written Is old new s a is w = record { answer = a; is = is; status = w.status; text = same_Some _ _ w.text }

pub whole_end : (words : List Word) (files : Files) (old new : SteadyState) (s : Status)
    → ProcessEndsAs (IsAnswer words files) (Some old.bytes) (Some new.bytes) s
    → (s ≡ status.Read → ReadCause (IsAnswer words) (Some files) 0 0 (Some old.bytes) (Some new.bytes))
    → (s ≡ status.Write → WriteCause (Some old.size) (Some new.bytes) old.faults new.faults)
    → HasRoom (IsAnswer words files) old → (s ≡ status.Memory) ⊎ IsWhole (IsAnswer words files) old.bytes new.bytes s
whole_end words files old new status.Memory ends read write room = inl refl
whole_end words files old new status.Read ends read write room = inr
    (not_read words files old.bytes new.bytes (read refl).cause (same_Some _ _ (read refl).silent))
whole_end words files old new status.Write ends read write room = absurd
    (no_room old.bytes new.bytes ends.answer.text old.size ends.ends (write refl).full (room ends.answer ends.is))
whole_end words files old new status.Done ends read write room = inr (written _ _ _ _ ends.answer ends.is ends.ends)
whole_end words files old new status.Usage ends read write room = inr (written _ _ _ _ ends.answer ends.is ends.ends)
whole_end words files old new status.Source ends read write room = inr (written _ _ _ _ ends.answer ends.is ends.ends)
whole_end words files old new status.Signals ends read write room = inr (written _ _ _ _ ends.answer ends.is ends.ends)
whole_end words files old new status.Restart ends read write room = inr (written _ _ _ _ ends.answer ends.is ends.ends)
whole_end words files old new status.Limit ends read write room = inr (written _ _ _ _ ends.answer ends.is ends.ends)
whole_end words files old new status.Certificate ends read write room = inr (written _ _ _ _ ends.answer ends.is ends.ends)
whole_end words files old new status.Table ends read write room = inr (written _ _ _ _ ends.answer ends.is ends.ends)
whole_end words files old new status.Change ends read write room = inr (written _ _ _ _ ends.answer ends.is ends.ends)
whole_end words files old new status.Filter ends read write room = inr (written _ _ _ _ ends.answer ends.is ends.ends)

-- out of memory, and nothing was written
pub silent_end : (old new : List ℕ) (s : Status) → (s ≡ status.Memory → Some new ≡ Some old) → s ≡ status.Memory → new ≡ old
silent_end old new s silent is = same_Some _ _ (silent is)
