-- No RETRIEVE is done but right after its SEND, where the answer came.
use Rattle.std.proofs.Common.{◌≡◌, ℕ, ◌+◌, Bool, true, false, List, [], ◌∷◌, ◌++◌, map, Option}
use Rattle.std.proofs.Common.{Some, None, refl, sym, ap, ◌∙◌, subst, slice_get}
use Rattle.std.proofs.lemmas.Option.{none-some}
use Rattle.std.specs.Prelude.{if◌then◌else◌, nat_lt}
use Rattle.std.specs.List.{AllByRecursion}
use Rattle.job_types.specs.declared.job.JobStart.{JobStart}
use Rattle.exchange_model.specs.declared.exchange.Exchange.{Exchange}
use Rattle.exchange_model.specs.declared.entry.Entry.{Entry}
use Rattle.exchange_model.specs.declared.signal.SignalKind.{SignalKind}
use Rattle.exchange_model.specs.declared.signal.SignalKind.TheVariants.{Buffered, Direct, Combined}
use Rattle.exchange_model.specs.declared.signal.SignalKind.TheVariants.{Answer, Outside}
use Rattle.exchange_model.specs.declared.stmt.Stmt.{Stmt}
use Rattle.exchange_model.specs.declared.stmt.StmtKind.{out-StmtKind}
use Rattle.exchange_model.specs.declared.stmt.StmtKind.TheOpen as stmt
use Rattle.exchange_model.specs.Fits.{ArePaired, answer_of, awaited, retrieved}
use Rattle.exchange_model.specs.Kept.{IsExchange, entered, scope_of}
use Rattle.source_meaning.specs.Named.{Layer}
use Rattle.source_meaning.specs.Config.{Item, Do, Start, Turns, Caller, Config, from_signal}
use Rattle.source_meaning.specs.Config.{from_place, label_of, next_counted}
use Rattle.exchange_model.specs.Kept.{is_enter}
use Rattle.source_meaning.specs.Changes.{ends}
use Rattle.source_meaning.specs.Deeds.{Deed, Doing, Starting, Turning, deed_of, label_in}
use Rattle.source_meaning.specs.Deeds.{GoesOnAfter, MayGoOn, IsBranch, IsAsking, by_combined}
use Rattle.source_meaning.specs.Deeds.{GoesOn, to_next, with_value, to_label, to_branch, to_loop}
use Rattle.source_meaning.specs.Deeds.{to_turn, with_found, with_seized, with_answers, with_given}
use Rattle.source_meaning.specs.Deeds.{from_no_enter}
use Rattle.source_meaning.specs.Effects.{Effect, Looks, Goes, Leave, Begins, Asks, Returns, Ends}
use Rattle.source_meaning.specs.Effects.{Faults}
use Rattle.source_meaning.specs.Job.{begins, after_steps, todo_of}
use Rattle.source_meaning.specs.Rests.{AreRests, DeedStands, IsRetrieveOf, BeginsAt, JumpsTo}
use Rattle.source_meaning.proofs.Activating.{entry_begins}
use Rattle.source_meaning.proofs.Ending.{jump_goes, label_named}
use Rattle.source_meaning.proofs.Fitting.{deed_fits_in, loop_fits_in, row_paired}
use Rattle.source_meaning.proofs.Keeping.{KeptWith, kept_both, steps_keep}
use Rattle.source_meaning.proofs.Receiving.{beginning_received, asking_received}
use Rattle.source_meaning.proofs.Rests.{DeedRest, rests_kept, start_rests}
use Rattle.fact_laws.proofs.Rows.{branch_inner}

-- the first of these items is the RETRIEVE of this answer, or none, and each other one stands after
-- its SEND
abbrev pub PairedItems : List SignalKind → Option ℕ → List Item → Type 0
PairedItems signals answer [] = answer ≡ None
PairedItems signals answer (Do s ∷ rest) = (retrieved (out-StmtKind s.kind) ≡ answer) × PairedItems signals (awaited signals (out-StmtKind s.kind)) rest
PairedItems signals answer (Start s ∷ rest) = (answer ≡ None) × PairedItems signals None rest
PairedItems signals answer (Turns p temp this end body ∷ rest) = (answer ≡ None) × PairedItems signals None rest

-- what follows an item that is counted, which is no ENTER that does nothing
abbrev pub AfterPaired : List SignalKind → Deed → List Item → Type 0
AfterPaired signals (Doing p l) rest = PairedItems signals (awaited signals l) rest × (is_enter l ≡ false)
AfterPaired signals (Starting p l) rest = PairedItems signals None rest
AfterPaired signals (Turning p temp this end body) rest = PairedItems signals None rest

pub record Pairs (x : Exchange) (c : Config) : Type 0 where
  pub answer : Option ℕ
  pub here : PairedItems x.signals answer c.todo
  pub callers : AllByRecursion (λ (k : Caller). PairedItems x.signals (Some k.awaits) k.todo) c.callers

enter_awaits : (signals : List SignalKind) (l : Layer) → is_enter l ≡ true → awaited signals l ≡ None
enter_awaits signals (stmt.Enter signal temps) is = refl
enter_awaits signals (stmt.SetTemp temp e) is = cc
enter_awaits signals _ is = cc

entered_awaits : (signals : List SignalKind) (l : Layer) (signal : ℕ) → entered l ≡ Some signal → awaited signals l ≡ None
entered_awaits signals (stmt.Enter n temps) signal is = refl
entered_awaits signals (stmt.SetTemp temp e) signal is = refl
entered_awaits signals _ signal is = cc

module _ (signals : List SignalKind) where
  text_paired : (answer : Option ℕ) (list : List Stmt) → ArePaired signals answer list → PairedItems signals answer (map Do list)
  text_paired answer [] h = h
  text_paired answer (s ∷ list) h = (h.0, text_paired (awaited signals (out-StmtKind s.kind)) list h.1)

  row_before : (answer : Option ℕ) (list : List Stmt) (rest : List Item) → ArePaired signals answer list
      → PairedItems signals None rest → PairedItems signals answer (map Do list ++ rest)
  row_before answer [] rest h after = subst (λ o. PairedItems signals o rest) (sym h) after
  row_before answer (s ∷ list) rest h after = (h.0, row_before (awaited signals (out-StmtKind s.kind)) list rest h.1 after)

  abbrev AfterFirst : List Item → Type 0
  AfterFirst [] = Unit {0}
  AfterFirst (i ∷ rest) = AfterPaired signals (deed_of i) rest

  counted_after : (answer : Option ℕ) (todo : List Item) → PairedItems signals answer todo → AfterFirst (next_counted todo)
  unfolding next_counted
  counted_after answer [] h = tt
  counted_after answer (Do s ∷ more) h = by (is_enter (out-StmtKind s.kind)) refl (counted_after (awaited signals (out-StmtKind s.kind)) more h.1)
    where
      by : (t : Bool) → is_enter (out-StmtKind s.kind) ≡ t → AfterFirst (next_counted more) → AfterFirst (if t then next_counted more else Do s ∷ more)
      by true is past = past
      by false is past = (h.1, is)
  counted_after answer (Start s ∷ more) h = h.1
  counted_after answer (Turns p temp this end body ∷ more) h = by (nat_lt end this) (counted_after None more h.1)
    where
      by : (t : Bool) → AfterFirst (next_counted more) → AfterFirst (if t then next_counted more else Turns p temp this end body ∷ more)
      by true past = past
      by false past = h.1

  -- past an item no RETRIEVE is counted
  none_retrieved : (todo : List Item) (m : ℕ) → PairedItems signals None todo → IsRetrieveOf m (next_counted todo) → ⊥
  unfolding next_counted
  none_retrieved [] m h is = is
  none_retrieved (Do s ∷ more) m h is = by (is_enter (out-StmtKind s.kind)) refl is (λ paired. none_retrieved more m paired)
    where
      by : (t : Bool) → is_enter (out-StmtKind s.kind) ≡ t
          → IsRetrieveOf m (if t then next_counted more else Do s ∷ more)
          → (PairedItems signals None more → IsRetrieveOf m (next_counted more) → ⊥) → ⊥
      by true enter at past = past (subst (λ o. PairedItems signals o more) (enter_awaits signals (out-StmtKind s.kind) enter) h.1) at
      by false enter at past = none-some m (sym h.0 ∙ at)
  none_retrieved (Start s ∷ more) m h is = is
  none_retrieved (Turns p temp this end body ∷ more) m h is = by (nat_lt end this) is (none_retrieved more m h.1)
    where
      by : (t : Bool) → IsRetrieveOf m (if t then next_counted more else Turns p temp this end body ∷ more) → (IsRetrieveOf m (next_counted more) → ⊥) → ⊥
      by true at past = past at
      by false at past = at

  -- so a RETRIEVE that is counted is the first item
  pub retrieve_first : (answer : Option ℕ) (todo : List Item) (m : ℕ) → PairedItems signals answer todo
      → IsRetrieveOf m (next_counted todo) → next_counted todo ≡ todo
  unfolding next_counted
  retrieve_first answer [] m h is = refl
  retrieve_first answer (Do s ∷ more) m h is = by (is_enter (out-StmtKind s.kind)) refl is
    where
      by : (t : Bool) → is_enter (out-StmtKind s.kind) ≡ t
          → IsRetrieveOf m (if t then next_counted more else Do s ∷ more)
          → (if t then next_counted more else Do s ∷ more) ≡ Do s ∷ more
      by true enter at = absurd (none_retrieved more m (subst (λ o. PairedItems signals o more) (enter_awaits signals (out-StmtKind s.kind) enter) h.1) at)
      by false enter at = refl
  retrieve_first answer (Start s ∷ more) m h is = refl
  retrieve_first answer (Turns p temp this end body ∷ more) m h is = by (nat_lt end this) is
    where
      by : (t : Bool) → IsRetrieveOf m (if t then next_counted more else Turns p temp this end body ∷ more)
          → (if t then next_counted more else Turns p temp this end body ∷ more) ≡ Turns p temp this end body ∷ more
      by true at = absurd (none_retrieved more m h.1 at)
      by false at = refl

goes_on_none : (kind : Option SignalKind) → GoesOnAfter kind → answer_of kind ≡ None
goes_on_none (Some (Combined name count answer)) on = absurd on
goes_on_none (Some (Direct name count)) on = absurd on
goes_on_none (Some (Buffered name level count)) on = refl
goes_on_none (Some (Answer name count combined)) on = refl
goes_on_none (Some (Outside name count)) on = refl
goes_on_none None on = refl

may_none : (x : Exchange) (l : Layer) → MayGoOn x l → awaited x.signals l ≡ None
may_none x (stmt.Send signal to values fresh) may = goes_on_none (slice_get x.signals signal) may
may_none x (stmt.Enter signal temps) may = refl
may_none x _ may = refl

branch_none : (signals : List SignalKind) (l : Layer) (body : List Stmt) → IsBranch l body → awaited signals l ≡ None
branch_none signals (stmt.If cond yes_part no_part) body is = refl
branch_none signals (stmt.Case value whens otherwise) body is = refl
branch_none signals _ body is = absurd is

module _ (x : Exchange) (kept : IsExchange x) where
  pub jump_found : (b p : ℕ) (l : Layer) (rest : List Item) (label : ℕ) → DeedStands x b (Doing p l) rest → label_in l ≡ Some label → JumpsTo x b label
  jump_found b p l rest label at is =
      let f = deed_fits_in x kept b p l rest at in
      jump_goes x kept b label f.block f.there (label_named (scope_of x b f.block) l label is f.fits.names)

  jump_paired : (b label : ℕ) → JumpsTo x b label → PairedItems x.signals None (from_place x b (label_of x b label))
  jump_paired b label j =
      subst (PairedItems x.signals None) (sym j.is) (
        j.plain,
        text_paired x.signals (awaited x.signals (out-StmtKind j.stmt.kind)) j.rest
            (row_paired x kept b j.stmt j.rest None j.row),
      )

  pub begun_paired : (b signal : ℕ) → BeginsAt x b signal → PairedItems x.signals None (from_signal x b signal)
  begun_paired b signal h =
      let after : ArePaired x.signals None h.rest =
      subst (λ o. ArePaired x.signals o h.rest) (entered_awaits x.signals (out-StmtKind h.stmt.kind) signal h.enters)
      (row_paired x kept b h.stmt h.rest None h.row) in
      subst (PairedItems x.signals None) (sym h.is) (refl, text_paired x.signals None h.rest after)

  pub goes_paired : (rest : List Item) (c : Config) (deed : Deed) (todo : List Item) (temps : List ℕ)
      → DeedStands x c.block deed rest → AfterPaired x.signals deed rest → GoesOn x rest c deed todo temps
      → PairedItems x.signals None todo
  goes_paired rest c deed todo temps at after (to_next p {l = l} may) = subst (λ o. PairedItems x.signals o rest) (may_none x l may) after.0
  goes_paired rest c deed todo temps at after (with_value p temp e v is) = after.0
  goes_paired rest c deed todo temps at after (to_label p {l = l} label is) = jump_paired c.block label (jump_found c.block p l rest label at is)
  goes_paired rest c deed todo temps at after (to_branch p {l = l} body is) =
      let f = deed_fits_in x kept c.block p l rest at in
      row_before x.signals None body rest (branch_inner (scope_of x c.block f.block) l body f.fits.lists is).1
      (subst (λ o. PairedItems x.signals o rest) (branch_none x.signals l body is) after.0)
  goes_paired rest c deed todo temps at after (to_loop p temp from upto body a b first last) = (refl, after.0)
  goes_paired rest c deed todo temps at after (to_turn p temp this end body) =
      let f = loop_fits_in x kept c.block p temp body rest at.0 in
      row_before x.signals None body (Turns p temp (this + 1) end body ∷ rest) f.fits.lists.1 (refl, after)
  goes_paired rest c deed todo temps at after (with_found p temp file field rel e label number placed is) =
      jump_paired c.block label (jump_found c.block p (stmt.ForFirst temp file field rel e label) rest label at refl)
  goes_paired rest c deed todo temps at after (with_seized p temp file label number placed is) = after.0
  goes_paired rest c deed todo temps at after (with_answers p answer ts) = after.0
  goes_paired rest c deed todo temps at after (with_given p signal ts) = after
  goes_paired rest c deed todo temps at after (from_no_enter p other) = after

  effect_pairs : (deed : Deed) (rest : List Item) (c d : Config) → DeedStands x c.block deed rest
      → AfterPaired x.signals deed rest → Pairs x c → Effect x deed rest c d → Pairs x d
  effect_pairs deed rest c d at after h (Goes e todo temps on) = record
      { answer = None; here = goes_paired rest c deed todo temps at after on; callers = h.callers }
  effect_pairs deed rest c d at after h (Looks e loads each) = record { answer = h.answer; here = h.here; callers = h.callers }
  effect_pairs deed rest c d at after h _ = record { answer = h.answer; here = h.here; callers = h.callers }

  asking_pairs : (c : Config) (deed : Deed) (rest : List Item) (b signal answer : ℕ) (vs : List ℕ)
      → AfterPaired x.signals deed rest → IsAsking x c deed b signal answer vs
      → PairedItems x.signals (Some answer) rest
  asking_pairs c deed rest b signal answer vs after (by_combined p s to values fresh name count a n ws kind sending) =
      subst (λ o. PairedItems x.signals o rest) (ap answer_of kind) after.0

  leave_pairs : (deed : Deed) (rest : List Item) (c d : Config) → DeedStands x c.block deed rest
      → AfterPaired x.signals deed rest → Pairs x c → Leave x deed rest c d → Pairs x d
  leave_pairs deed rest c d at after h (Begins e b signal vs is) = record {
    answer = None;
    here = begun_paired b signal (beginning_received x kept c deed rest b signal vs at is);
    callers = h.callers;
  }
  leave_pairs deed rest c d at after h (Asks e b signal answer vs is room) = record {
    answer = None;
    here = begun_paired b signal (asking_received x kept c deed rest b signal answer vs at is);
    callers = (asking_pairs c deed rest b signal answer vs after is, h.callers);
  }
  leave_pairs deed rest c d at after h (Returns e p answer values vs k ks is given some same) =
      let waiting : AllByRecursion (λ (k : Caller). PairedItems x.signals (Some k.awaits) k.todo) (k ∷ ks) = subst
      (AllByRecursion (λ (k : Caller). PairedItems x.signals (Some k.awaits) k.todo)) some h.callers in
      record { answer = Some k.awaits; here = waiting.0; callers = waiting.1 }
  leave_pairs deed rest c d at after h (Ends e p l is end none) = record { answer = h.answer; here = h.here; callers = h.callers }
  leave_pairs deed rest c d at after h (Faults e f why) = record { answer = h.answer; here = h.here; callers = h.callers }

  over_pairs : (ks : List Caller) (c : Config) → Pairs x c → Pairs x (ends ks c)
  over_pairs [] c h = record { answer = h.answer; here = h.here; callers = h.callers }
  over_pairs (k ∷ ks) c h = record { answer = h.answer; here = h.here; callers = h.callers }

  pub counted_pairs : (c : Config) (i : Item) (rest : List Item) → Pairs x c → next_counted c.todo ≡ i ∷ rest → AfterPaired x.signals (deed_of i) rest
  counted_pairs c i rest h is = subst (AfterFirst x.signals) is (counted_after x.signals h.answer c.todo h.here)

  pairs_kept : KeptWith x (AreRests x) (λ b deed rest. DeedRest x b deed rest) (Pairs x) (λ deed rest. AfterPaired x.signals deed rest)
  pairs_kept = record {
    context = λ c i rest p h is. counted_pairs c i rest h is;
    counting = λ deed rest c at p h. record { answer = h.answer; here = h.here; callers = h.callers };
    effect = λ deed rest c d at after p h e. effect_pairs deed rest c d at.0 after h e;
    leave = λ deed rest c d at after p h e. leave_pairs deed rest c d at.0 after h e;
    ending = λ c h. over_pairs c.callers c h;
    full = λ c h. record { answer = h.answer; here = h.here; callers = h.callers };
  }

  found_paired : (n : ℕ) (found : Option Entry) → slice_get x.entries n ≡ found → PairedItems x.signals None (todo_of x found)
  found_paired n None is = refl
  found_paired n (Some e) is = begun_paired e.block e.signal (entry_begins x kept n e is).begins

  pub steps_pair : (n : ℕ) (start : JobStart) (store : List ℕ) → Pairs x (after_steps n x (begins x start store))
  steps_pair n start store =
      (steps_keep (kept_both (rests_kept x) pairs_kept) n (begins x start store)
      (start_rests x start store, record { answer = None; here = found_paired start.job.entry (slice_get x.entries start.job.entry) refl; callers = tt })).1
