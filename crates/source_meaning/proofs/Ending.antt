-- What remains ends with the end of the text, so that something is counted at each step.
use Rattle.std.proofs.Common.{◌≡◌, ◌⊎◌, inl, inr, ⊎_elim, ℕ, zero, suc, ◌+◌, ◌<◌, Bool, true, false}
use Rattle.std.proofs.Common.{List, [], ◌∷◌, ◌++◌, map, drop, length, Some, None, refl, sym, ap}
use Rattle.std.proofs.Common.{◌∙◌, subst, slice_get}
use Rattle.std.specs.Prelude.{nat_lt, if◌then◌else◌}
use Rattle.std.specs.List.{AllByRecursion}
use Rattle.std.specs.Option.{option_map_or}
use Rattle.std.proofs.lemmas.Option.{none-some, same_Some}
use Rattle.plex_num.proofs.Lists.{all_at, some_at}
use Rattle.job_types.specs.declared.job.JobStart.{JobStart}
use Rattle.exchange_model.specs.declared.exchange.Exchange.{Exchange}
use Rattle.exchange_model.specs.declared.block.Block.{Block}
use Rattle.exchange_model.specs.declared.block.Label.{Label}
use Rattle.exchange_model.specs.declared.stmt.Stmt.{Stmt}
use Rattle.exchange_model.specs.declared.stmt.StmtKind.{out-StmtKind}
use Rattle.exchange_model.specs.declared.stmt.StmtKind.TheOpen as stmt
use Rattle.exchange_model.specs.Fits.{Scope, KindNames, IsLabel, retrieved}
use Rattle.exchange_model.specs.Kept.{IsExchange, IsFinish, IsLabelAt, IsText, entered, scope_of}
use Rattle.exchange_model.specs.Kept.IsText.{ends, goes}
use Rattle.exchange_model.proofs.Numbers.{there_from}
use Rattle.source_meaning.specs.Config.{Item, Do, Start, Turns, Caller, Config, body_of, label_of}
use Rattle.source_meaning.specs.Config.{from_place, from_signal, next_counted}
use Rattle.exchange_model.specs.Kept.{is_enter}
use Rattle.source_meaning.specs.Changes.{ends as ends_at}
use Rattle.source_meaning.specs.Deeds.{Deed, Doing, deed_of, label_in, IsBranch, MayGoOn, GoesOn}
use Rattle.source_meaning.specs.Deeds.{to_next, with_value, to_label, to_branch, to_loop, to_turn}
use Rattle.source_meaning.specs.Deeds.{with_found, with_seized, with_answers, with_given}
use Rattle.source_meaning.specs.Deeds.{from_no_enter, IsAsking, by_combined}
use Rattle.source_meaning.specs.Effects.{Effect, Looks, Goes, Leave, Begins, Asks, Returns, Ends}
use Rattle.source_meaning.specs.Effects.{Faults}
use Rattle.source_meaning.specs.Job.{todo_of, begins, after_steps}
use Rattle.source_meaning.specs.Named.{Layer}
use Rattle.source_meaning.specs.Rests.{AreRests, DeedStands, IsRow, whole, JumpsTo, BeginsAt}
use Rattle.source_meaning.specs.Rests.{EndsText, AllEndText}
use Rattle.source_meaning.specs.Valid.{IsJob}
use Rattle.source_meaning.proofs.Activating.{entry_begins, text_left}
use Rattle.source_meaning.proofs.Fitting.{deed_fits_in}
use Rattle.source_meaning.proofs.Keeping.{KeptWith, kept_both, steps_keep}
use Rattle.source_meaning.proofs.Receiving.{beginning_received, asking_received}
use Rattle.source_meaning.proofs.Rests.{DeedRest, rests_kept, rows_drop, start_rests}

-- lists of items

ends_later : (i : Item) (rest : List Item) → EndsText rest → EndsText (i ∷ rest)
ends_later i [] h = absurd h
ends_later i (j ∷ rest) h = h

ends_after : (list : List Stmt) (rest : List Item) → EndsText rest → EndsText (map Do list ++ rest)
ends_after [] rest h = h
ends_after (s ∷ list) rest h = ends_later (Do s) (map Do list ++ rest) (ends_after list rest h)

ends_text : (list : List Stmt) → IsText list → EndsText (map Do list)
ends_text list (ends last) = last
ends_text list (goes {s = s} {rest = rest} more left) = ends_later (Do s) (map Do rest) (ends_text rest left)

-- from a statement of a text on
first_of_rest : (body : List Stmt) (n : ℕ) (s : Stmt) → slice_get body n ≡ Some s → (rest : List Stmt) × (drop n body ≡ s ∷ rest)
first_of_rest [] n s there = absurd (none-some s there)
first_of_rest (t ∷ body) zero s there = (body, ap (λ z. z ∷ body) (same_Some t s there))
first_of_rest (t ∷ body) (suc n) s there = first_of_rest body n s there

-- the end of the text is no ENTER
no_enter_ends : (s : Stmt) → IsFinish (out-StmtKind s.kind) → is_enter (out-StmtKind s.kind) ≡ true → ⊥
no_enter_ends s = by (out-StmtKind s.kind)
  where
    by : (l : Layer) → IsFinish l → is_enter l ≡ true → ⊥
    by (stmt.Enter signal temps) last is = absurd last
    by stmt.Finish last is = cc
    by _ last is = absurd last

-- what is counted next ends so too
pub counted_ends : (todo : List Item) → EndsText todo → EndsText (next_counted todo)
unfolding next_counted
counted_ends [] h = h
counted_ends (Do s ∷ rest) h = by (is_enter (out-StmtKind s.kind)) refl rest h (counted_ends rest)
  where
    by : (e : Bool) → is_enter (out-StmtKind s.kind) ≡ e → (rest : List Item) → EndsText (Do s ∷ rest)
        → (EndsText rest → EndsText (next_counted rest)) → EndsText (if e then next_counted rest else Do s ∷ rest)
    by true is [] h more = absurd (no_enter_ends s h is)
    by true is (j ∷ rest) h more = more h
    by false is rest h more = h
counted_ends (Start s ∷ rest) h = h
counted_ends (Turns p temp this end body ∷ rest) h = by (nat_lt end this) rest h (counted_ends rest)
  where
    by : (e : Bool) (rest : List Item) → EndsText (Turns p temp this end body ∷ rest)
        → (EndsText rest → EndsText (next_counted rest))
        → EndsText (if e then next_counted rest else Turns p temp this end body ∷ rest)
    by true [] h more = absurd h
    by true (j ∷ rest) h more = more h
    by false rest h more = h

-- of what is counted: it is the end of the text, or what follows ends so
abbrev pub IsLastDeed : Deed → Type 0
IsLastDeed (Doing p l) = IsFinish l
IsLastDeed _ = ⊥

abbrev pub EndsAfter : Deed → List Item → Type 0
EndsAfter deed rest = IsLastDeed deed ⊎ EndsText rest

item_ends : (i : Item) (rest : List Item) → EndsText (i ∷ rest) → EndsAfter (deed_of i) rest
item_ends (Do s) [] h = inl h
item_ends (Start s) [] h = absurd h
item_ends (Turns p temp this end body) [] h = absurd h
item_ends i (j ∷ rest) h = inr h

go_not_last : (x : Exchange) (l : Layer) → MayGoOn x l → IsFinish l → ⊥
go_not_last x stmt.Finish may last = may
go_not_last x (stmt.Enter signal temps) may last = last
go_not_last x _ may last = last

branch_not_last : (l : Layer) (body : List Stmt) → IsBranch l body → IsFinish l → ⊥
branch_not_last (stmt.If cond yes_part no_part) body is last = last
branch_not_last (stmt.Case value whens otherwise) body is last = last
branch_not_last _ body is last = is

some_is : (i j : ℕ) → Some i ≡ Some j → i ≡ j
some_is i j e = cc

-- a label stands in the block
pub label_named : (s : Scope) (l : Layer) (label : ℕ) → label_in l ≡ Some label → KindNames s l → IsLabel s label
label_named s (stmt.Goto k) label is names = subst (IsLabel s) (some_is k label is) names
label_named s (stmt.IfGoto cond k) label is names = subst (IsLabel s) (some_is k label is) names.1
label_named s (stmt.ForFirst temp file field rel e k) label is names = subst (IsLabel s) (some_is k label is) names.3
label_named s (stmt.Seize temp file k) label is names = subst (IsLabel s) (some_is k label is) names.2
label_named s _ label is names = cc

module _ (x : Exchange) (kept : IsExchange x) where
  pub jump_goes : (b label : ℕ) (k : Block) → slice_get x.blocks b ≡ Some k → label < length k.labels → JumpsTo x b label
  jump_goes b label k there lt =
      let e = some_at k.labels label lt in
      let own = kept.blocks.each b k there in
      let at = all_at (IsLabelAt k.body) k.labels label e.0 own.labels e.1 in
      let some = there_from (slice_get k.body e.0.place) (λ (s : Stmt). retrieved (out-StmtKind s.kind) ≡ None) at in
      let left = first_of_rest k.body e.0.place some.value some.is in
      let place : label_of x b label ≡ e.0.place =
      ap (λ o. option_map_or (λ (k : Block). option_map_or (λ (e : Label). e.place) (slice_get k.labels label) 0) o 0)
      there ∙ ap (λ o. option_map_or (λ (e : Label). e.place) o 0) e.1 in
      let body : body_of x b ≡ k.body = ap (λ o. option_map_or (λ (k : Block). k.body) o []) there in
      record {
        stmt = some.value;
        rest = left.0;
        is = ap (λ n. map Do (drop n (body_of x b))) place ∙ ap (λ l. map Do (drop e.0.place l)) body ∙ ap (map Do) left.1;
        row = subst (λ l. IsRow x b l None) left.1 (rows_drop x b e.0.place k.body None (whole k there));
        text = text_left e.0.place k.body some.value left.0 left.1 own.text;
        plain = some.holds;
      }

  place_ends : (b label : ℕ) (k : Block) → slice_get x.blocks b ≡ Some k → label < length k.labels → EndsText (from_place x b (label_of x b label))
  place_ends b label k there lt = let j = jump_goes b label k there lt in subst EndsText (sym j.is) (ends_text (j.stmt ∷ j.rest) j.text)

  -- where a job goes on
  goes_ends : (rest : List Item) (c : Config) (deed : Deed) (todo : List Item) (temps : List ℕ)
      → DeedStands x c.block deed rest → EndsAfter deed rest → GoesOn x rest c deed todo temps → EndsText todo
  goes_ends rest c deed todo temps at after (to_next p {l = l} may) = ⊎_elim (λ last. absurd (go_not_last x l may last)) (λ h. h) after
  goes_ends rest c deed todo temps at after (with_value p temp e v is) = ⊎_elim (λ last. absurd last) (λ h. h) after
  goes_ends rest c deed todo temps at after (to_label p {l = l} label is) =
      let f = deed_fits_in x kept c.block p l rest at in
      place_ends c.block label f.block f.there (label_named (scope_of x c.block f.block) l label is f.fits.names)
  goes_ends rest c deed todo temps at after (to_branch p {l = l} body is) = ⊎_elim
      (λ last. absurd (branch_not_last l body is last)) (λ h. ends_after body rest h) after
  goes_ends rest c deed todo temps at after (to_loop p temp from upto body a b first last) =
      ⊎_elim (λ last. absurd last) (λ h. ends_later (Turns p temp a b body) rest h) after
  goes_ends rest c deed todo temps at after (to_turn p temp this end body) =
      ⊎_elim (λ last. absurd last) (λ h. ends_after body (Turns p temp (this + 1) end body ∷ rest) (ends_later (Turns p temp (this + 1) end body) rest h)) after
  goes_ends rest c deed todo temps at after (with_found p temp file field rel e label number placed is) =
      let l : Layer = stmt.ForFirst temp file field rel e label in
      let f = deed_fits_in x kept c.block p l rest at in
      place_ends c.block label f.block f.there (label_named (scope_of x c.block f.block) l label refl f.fits.names)
  goes_ends rest c deed todo temps at after (with_seized p temp file label number placed is) = ⊎_elim (λ last. absurd last) (λ h. h) after
  goes_ends rest c deed todo temps at after (with_answers p answer ts) = ⊎_elim (λ last. absurd last) (λ h. h) after
  goes_ends rest c deed todo temps at after (with_given p signal ts) = ⊎_elim (λ last. absurd last) (λ h. h) after
  goes_ends rest c deed todo temps at after (from_no_enter p other) = ⊎_elim (λ last. absurd last) (λ h. h) after

  begins_ends : (b signal : ℕ) → BeginsAt x b signal → EndsText (from_signal x b signal)
  begins_ends b signal h = subst EndsText (sym h.is) (by h.stmt h.rest h.enters h.text)
    where
      not_end : (l : Layer) → entered l ≡ Some signal → IsFinish l → ⊥
      not_end (stmt.Enter n temps) enters last = last
      not_end stmt.Finish enters last = cc
      not_end _ enters last = last

      by : (s : Stmt) (rest : List Stmt) → entered (out-StmtKind s.kind) ≡ Some signal → IsText (s ∷ rest) → EndsText (Start s ∷ map Do rest)
      by s rest enters (ends last) = absurd (not_end (out-StmtKind s.kind) enters last)
      by s rest enters (goes more left) = ends_later (Start s) (map Do rest) (ends_text rest left)

  effect_ends : (deed : Deed) (rest : List Item) (c d : Config) → DeedStands x c.block deed rest → EndsAfter deed rest
      → AllEndText c → Effect x deed rest c d → AllEndText d
  effect_ends deed rest c d at after h (Goes e todo temps on) = record { here = goes_ends rest c deed todo temps at after on; callers = h.callers }
  effect_ends deed rest c d at after h (Looks e loads each) = record { here = h.here; callers = h.callers }
  effect_ends deed rest c d at after h _ = record { here = h.here; callers = h.callers }

  asking_ends : (c : Config) (deed : Deed) (rest : List Item) (b signal answer : ℕ) (vs : List ℕ) → EndsAfter deed rest
      → IsAsking x c deed b signal answer vs → EndsText rest
  asking_ends c deed rest b signal answer vs after (by_combined p s to values fresh name count a n ws kind sending) =
      ⊎_elim (λ last. absurd last) (λ h. h) after

  leave_ends : (deed : Deed) (rest : List Item) (c d : Config) → DeedStands x c.block deed rest → EndsAfter deed rest
      → AllEndText c → Leave x deed rest c d → AllEndText d
  leave_ends deed rest c d at after h (Begins e b signal vs is) = record
      { here = begins_ends b signal (beginning_received x kept c deed rest b signal vs at is); callers = h.callers }
  leave_ends deed rest c d at after h (Asks e b signal answer vs is room) = record {
    here = begins_ends b signal (asking_received x kept c deed rest b signal answer vs at is);
    callers = (asking_ends c deed rest b signal answer vs after is, h.callers);
  }
  leave_ends deed rest c d at after h (Returns e p answer values vs k ks is given some same) =
      let waiting : AllByRecursion (λ (k : Caller). EndsText k.todo) (k ∷ ks) = subst (AllByRecursion (λ (k : Caller). EndsText k.todo)) some h.callers in
      record { here = waiting.0; callers = waiting.1 }
  leave_ends deed rest c d at after h (Ends e p l is end none) = record { here = h.here; callers = h.callers }
  leave_ends deed rest c d at after h (Faults e f why) = record { here = h.here; callers = h.callers }

  over_ends : (ks : List Caller) (c : Config) → AllEndText c → AllEndText (ends_at ks c)
  over_ends [] c h = record { here = h.here; callers = h.callers }
  over_ends (k ∷ ks) c h = record { here = h.here; callers = h.callers }

  pub text_ends_kept : KeptWith x (AreRests x) (λ b deed rest. DeedRest x b deed rest) AllEndText EndsAfter
  text_ends_kept = record {
    context = λ c i rest p h is. item_ends i rest (subst EndsText is (counted_ends c.todo h.here));
    counting = λ deed rest c at p h. record { here = h.here; callers = h.callers };
    effect = λ deed rest c d at after p h e. effect_ends deed rest c d at.0 after h e;
    leave = λ deed rest c d at after p h e. leave_ends deed rest c d at.0 after h e;
    ending = λ c h. over_ends c.callers c h;
    full = λ c h. record { here = h.here; callers = h.callers };
  }

  pub steps_end_text : (n : ℕ) (start : JobStart) (store : List ℕ) → IsJob x start.job → AllEndText (after_steps n x (begins x start store))
  steps_end_text n start store is =
      let e = some_at x.entries start.job.entry is.entry in
      let first : EndsText (todo_of x (slice_get x.entries start.job.entry)) = subst (λ o. EndsText (todo_of x o))
      (sym e.1) (begins_ends e.0.block e.0.signal (entry_begins x kept start.job.entry e.0 e.1).begins) in
      (steps_keep (kept_both (rests_kept x) text_ends_kept) n (begins x start store) (start_rests x start store, record { here = first; callers = tt })).1

-- something is counted next
pub some_counted : (todo : List Item) → EndsText todo → next_counted todo ≡ [] → ⊥
some_counted todo h none = subst EndsText none (counted_ends todo h)
