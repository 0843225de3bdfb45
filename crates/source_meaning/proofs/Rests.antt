-- What remains to be done stays of the text of its block.
use Rattle.std.proofs.Common.{◌≡◌, ◌⊎◌, inl, inr, ⊎_elim, ℕ, zero, suc, ◌+◌, ◌≤◌, Bool, true, false}
use Rattle.std.proofs.Common.{List, [], ◌∷◌, ◌++◌, map, drop, Option, Some, None, refl, sym, ap}
use Rattle.std.proofs.Common.{◌∙◌, subst, slice_get}
use Rattle.std.proofs.lemmas.Bool.{ltb-false}
use Rattle.std.proofs.lemmas.List.{append-nil}
use Rattle.std.proofs.Math.Seq.{drop-nil}
use Rattle.std.specs.Prelude.{if◌then◌else◌, nat_lt}
use Rattle.std.specs.List.{AllByRecursion}
use Rattle.std.specs.Option.{option_map_or}
use Rattle.job_types.specs.declared.job.JobStart.{JobStart}
use Rattle.exchange_model.specs.declared.exchange.Exchange.{Exchange}
use Rattle.exchange_model.specs.declared.block.Block.{Block}
use Rattle.exchange_model.specs.declared.entry.Entry.{Entry}
use Rattle.exchange_model.specs.declared.stmt.Stmt.{Stmt}
use Rattle.exchange_model.specs.declared.stmt.StmtKind.{out-StmtKind}
use Rattle.source_meaning.specs.Config.{Item, Do, Start, Turns, Caller, Config, body_of, label_of}
use Rattle.source_meaning.specs.Config.{enter_place, from_place, starting, from_signal}
use Rattle.source_meaning.specs.Config.{next_counted}
use Rattle.exchange_model.specs.Kept.{is_enter}
use Rattle.source_meaning.specs.Changes.{ends}
use Rattle.source_meaning.specs.Deeds.{Deed, deed_of, IsBranch, GoesOn, to_next, with_value}
use Rattle.source_meaning.specs.Deeds.{to_label, to_branch, to_loop, to_turn, with_found}
use Rattle.source_meaning.specs.Deeds.{with_seized, with_answers, with_given, from_no_enter}
use Rattle.source_meaning.specs.Effects.{Effect, Looks, Goes, Leave, Begins, Asks, Returns, Ends}
use Rattle.source_meaning.specs.Effects.{Faults}
use Rattle.source_meaning.specs.Job.{todo_of, place_of, begins, after_steps}
use Rattle.source_meaning.specs.Rests.{point_of, point_of_first, Past, here, beyond, first_point}
use Rattle.source_meaning.specs.Rests.{head_point, IsRow, whole, later, branch, turn, StandsInText}
use Rattle.source_meaning.specs.Rests.{IsRest, AreRests, DeedStands}
use Rattle.source_meaning.proofs.Keeping.{Kept, steps_keep}

pub cons_head : (i j : Item) (is js : List Item) → i ∷ is ≡ j ∷ js → i ≡ j
cons_head i j is js e = cc

-- the head of statements before items
pub head_text : (list : List Stmt) (rest : List Item) → head_point (map Do list ++ rest) ≡ first_point list (head_point rest)
head_text [] rest = refl
head_text (s ∷ list) rest = ap (λ o. if is_enter (out-StmtKind s.kind) then o else Some s.point) (head_text list rest)

-- the next of a statement that stands before this
pub stands_next : {x : Exchange} {b : ℕ} {s : Stmt} {rest : List Item} (h : StandsInText x b s rest) → head_point rest ≡ first_point h.list h.end
stands_next h = ap head_point h.is ∙ head_text h.list h.more ∙ ap (first_point h.list) h.ends

module _ (x : Exchange) (b : ℕ) where
  -- a row before what is next after it
  pub row_rest : (list : List Stmt) (end : Option ℕ) (rest : List Item) → IsRow x b list end → head_point rest ≡ end
      → IsRest x b rest → IsRest x b (map Do list ++ rest)
  row_rest [] end rest row is after = after
  row_rest (s ∷ list) end rest row is after =
      (record { list = list; end = end; more = rest; row = row; is = refl; ends = is }, row_rest list end rest (later s list end row) is after)

  row_alone : (list : List Stmt) → IsRow x b list None → IsRest x b (map Do list)
  row_alone list row = subst (IsRest x b) (append-nil (map Do list)) (row_rest list None [] row refl tt)

  pub rows_drop : (n : ℕ) (list : List Stmt) (end : Option ℕ) → IsRow x b list end → IsRow x b (drop n list) end
  rows_drop zero list end row = row
  rows_drop (suc n) [] end row = row
  rows_drop (suc n) (s ∷ list) end row = rows_drop n list end (later s list end row)

  -- the text of a block from a place on
  text_found : (n : ℕ) (found : Option Block) → slice_get x.blocks b ≡ found
      → IsRow x b (drop n (option_map_or (λ (k : Block). k.body) found [])) None
      ⊎ (drop n (option_map_or (λ (k : Block). k.body) found []) ≡ [])
  text_found n None none = inr (drop-nil n)
  text_found n (Some k) there = inl (rows_drop n k.body None (whole k there))

  text_from : (n : ℕ) → IsRow x b (drop n (body_of x b)) None ⊎ (drop n (body_of x b) ≡ [])
  text_from n = text_found n (slice_get x.blocks b) refl

  pub place_rest : (n : ℕ) → IsRest x b (from_place x b n)
  place_rest n = ⊎_elim (λ row. row_alone (drop n (body_of x b)) row) (λ none. subst (λ l. IsRest x b (map Do l)) (sym none) tt) (text_from n)

  start_rest : (list : List Stmt) → IsRow x b list None → IsRest x b (starting list)
  start_rest [] row = tt
  start_rest (s ∷ list) row = by (is_enter (out-StmtKind s.kind)) refl
    where
      stands : StandsInText x b s (map Do list)
      stands = record { list = list; end = None; more = []; row = row; is = sym (append-nil (map Do list)); ends = refl }

      by : (e : Bool) → is_enter (out-StmtKind s.kind) ≡ e → IsRest x b (if e then Start s ∷ map Do list else [])
      by true is = (stands, is, row_alone list (later s list None row))
      by false is = tt

  pub signal_rest : (signal : ℕ) → IsRest x b (from_signal x b signal)
  signal_rest signal =
      ⊎_elim (λ row. start_rest (drop (enter_place x b signal) (body_of x b)) row)
      (λ none. subst (λ l. IsRest x b (starting l)) (sym none) tt) (text_from (enter_place x b signal))

  -- what is counted next
  counted_rest : (todo : List Item) → IsRest x b todo → IsRest x b (next_counted todo)
  unfolding next_counted
  counted_rest [] h = tt
  counted_rest (Do s ∷ rest) h = by (is_enter (out-StmtKind s.kind)) (counted_rest rest h.1)
    where
      by : (e : Bool) → IsRest x b (next_counted rest) → IsRest x b (if e then next_counted rest else Do s ∷ rest)
      by true past = past
      by false past = h
  counted_rest (Start s ∷ rest) h = h
  counted_rest (Turns p temp this end body ∷ rest) h = by (nat_lt end this) (counted_rest rest h.1)
    where
      by : (e : Bool) → IsRest x b (next_counted rest) → IsRest x b (if e then next_counted rest else Turns p temp this end body ∷ rest)
      by true past = past
      by false past = h

  -- what is counted stands in the text
  abbrev pub DeedRest : Deed → List Item → Type 0
  DeedRest deed rest = DeedStands x b deed rest × IsRest x b rest

  -- of a loop a turn is left
  abbrev IsLeft : Item → Type 0
  IsLeft (Turns p temp this end body) = this ≤ end
  IsLeft _ = Unit {0}

  turn_left : (todo : List Item) (i : Item) (rest : List Item) → next_counted todo ≡ i ∷ rest → IsLeft i
  unfolding next_counted
  turn_left [] i rest is = cc
  turn_left (Do s ∷ more) i rest is = by (is_enter (out-StmtKind s.kind)) is (turn_left more i rest)
    where
      by : (e : Bool) → (if e then next_counted more else Do s ∷ more) ≡ i ∷ rest → (next_counted more ≡ i ∷ rest → IsLeft i) → IsLeft i
      by true same past = past same
      by false same past = subst IsLeft (cons_head (Do s) i more rest same) tt
  turn_left (Start s ∷ more) i rest is = subst IsLeft (cons_head (Start s) i more rest is) tt
  turn_left (Turns p temp this end body ∷ more) i rest is = by (nat_lt end this) refl is (turn_left more i rest)
    where
      by : (e : Bool) → nat_lt end this ≡ e → (if e then next_counted more else Turns p temp this end body ∷ more) ≡ i
          ∷ rest → (next_counted more ≡ i ∷ rest → IsLeft i) → IsLeft i
      by true lt same past = past same
      by false lt same past = subst IsLeft (cons_head (Turns p temp this end body) i more rest same) (ltb-false end this lt)

  deed_rest : (i : Item) (rest : List Item) → IsLeft i → IsRest x b (i ∷ rest) → DeedRest (deed_of i) rest
  deed_rest (Do s) rest left h = (record { stmt = s; point = refl; is = refl; stands = h.0 }, h.1)
  deed_rest (Start s) rest left h = ((record { stmt = s; point = refl; is = refl; stands = h.0 }, h.1), h.2)
  deed_rest (Turns p temp this end body) rest left h = ((h.0, left), h.1)

  pub counted_stands : (todo : List Item) (i : Item) (rest : List Item) → IsRest x b todo → next_counted todo ≡ i ∷ rest → DeedRest (deed_of i) rest
  counted_stands todo i rest h is = deed_rest i rest (turn_left todo i rest is) (subst (IsRest x b) is (counted_rest todo h))

  -- the next point, past ONs with no turn left
  pub point_past : (todo : List Item) → IsRest x b todo → Past x b (head_point todo) (point_of todo)
  unfolding next_counted
  point_past [] h = here None
  point_past (Do s ∷ rest) h = by (is_enter (out-StmtKind s.kind)) (point_past rest h.1)
    where
      by : (e : Bool) → Past x b (head_point rest) (point_of rest)
          → Past x b (if e then head_point rest else Some s.point)
          (point_of_first (if e then next_counted rest else Do s ∷ rest))
      by true past = past
      by false past = here (Some s.point)
  point_past (Start s ∷ rest) h = here (Some s.point)
  point_past (Turns p temp this end body ∷ rest) h = by (nat_lt end this) (point_past rest h.1)
    where
      by : (e : Bool) → Past x b (head_point rest) (point_of rest)
          → Past x b (Some p) (point_of_first (if e then next_counted rest else Turns p temp this end body ∷ rest))
      by true past = beyond p temp body rest (point_of rest) h.0 past
      by false past = here (Some p)

-- where a job goes on
goes_rest : (x : Exchange) (rest : List Item) (c : Config) (deed : Deed) (todo : List Item) (temps : List ℕ)
    → DeedRest x c.block deed rest → GoesOn x rest c deed todo temps → IsRest x c.block todo
goes_rest x rest c deed todo temps d (to_next p may) = d.1
goes_rest x rest c deed todo temps d (with_value p temp e v is) = d.1
goes_rest x rest c deed todo temps d (to_label p label is) = place_rest x c.block (label_of x c.block label)
goes_rest x rest c deed todo temps d (to_branch p body is) =
    let s = d.0 in
    let h = s.stands in
    row_rest x c.block body (first_point h.list h.end) rest
    (branch s.stmt h.list h.end body h.row (subst (λ l. IsBranch l body) (sym s.is) is)) (stands_next h) d.1
goes_rest x rest c deed todo temps d (to_loop p temp from upto body a b first last) =
    let s = d.0 in
    (record { stmt = s.stmt; point = s.point; from = from; upto = upto; is = s.is; stands = s.stands }, d.1)
goes_rest x rest c deed todo temps d (to_turn p temp this end body) =
    let loop = d.0.0 in
    let h = loop.stands in
    row_rest x c.block body (Some p) (Turns p temp (this + 1) end body ∷ rest)
    (subst (IsRow x c.block body) (ap Some loop.point) (turn loop.stmt h.list h.end temp loop.from loop.upto body h.row loop.is)) refl (loop, d.1)
goes_rest x rest c deed todo temps d (with_found p temp file field rel e label number placed is) = place_rest x c.block (label_of x c.block label)
goes_rest x rest c deed todo temps d (with_seized p temp file label number placed is) = d.1
goes_rest x rest c deed todo temps d (with_answers p answer ts) = d.1
goes_rest x rest c deed todo temps d (with_given p signal ts) = d.1
goes_rest x rest c deed todo temps d (from_no_enter p other) = d.1

effect_rests : (x : Exchange) (deed : Deed) (rest : List Item) (c d : Config) → DeedRest x c.block deed rest
    → AreRests x c → Effect x deed rest c d → AreRests x d
effect_rests x deed rest c d at h (Goes e todo temps on) = record { here = goes_rest x rest c deed todo temps at on; callers = h.callers }
effect_rests x deed rest c d at h (Looks e loads each) = record { here = h.here; callers = h.callers }
effect_rests x deed rest c d at h _ = record { here = h.here; callers = h.callers }

leave_rests : (x : Exchange) (deed : Deed) (rest : List Item) (c d : Config) → DeedRest x c.block deed rest
    → AreRests x c → Leave x deed rest c d → AreRests x d
leave_rests x deed rest c d at h (Begins e b signal vs is) = record { here = signal_rest x b signal; callers = h.callers }
leave_rests x deed rest c d at h (Asks e b signal answer vs is room) = record { here = signal_rest x b signal; callers = (at.1, h.callers) }
leave_rests x deed rest c d at h (Returns e p answer values vs k ks is given some same) =
    let waiting : AllByRecursion (λ (k : Caller). IsRest x k.block k.todo) (k ∷ ks) =
    subst (AllByRecursion (λ (k : Caller). IsRest x k.block k.todo)) some h.callers in
    record { here = waiting.0; callers = waiting.1 }
leave_rests x deed rest c d at h (Ends e p l is end none) = record { here = h.here; callers = h.callers }
leave_rests x deed rest c d at h (Faults e f why) = record { here = h.here; callers = h.callers }

ends_rests : (x : Exchange) (ks : List Caller) (c : Config) → AreRests x c → AreRests x (ends ks c)
ends_rests x [] c h = record { here = h.here; callers = h.callers }
ends_rests x (k ∷ ks) c h = record { here = h.here; callers = h.callers }

pub rests_kept : (x : Exchange) → Kept x (AreRests x) (λ b deed rest. DeedRest x b deed rest)
rests_kept x = record {
  context = λ c i rest h going is. counted_stands x c.block c.todo i rest h.here is;
  counting = λ deed rest c at h. record { here = h.here; callers = h.callers };
  effect = effect_rests x;
  leave = leave_rests x;
  ending = λ c h. ends_rests x c.callers c h;
  full = λ c h. record { here = h.here; callers = h.callers };
}

begins_rest : (x : Exchange) (found : Option Entry) → IsRest x (place_of found) (todo_of x found)
begins_rest x None = tt
begins_rest x (Some e) = signal_rest x e.block e.signal

pub start_rests : (x : Exchange) (start : JobStart) (store : List ℕ) → AreRests x (begins x start store)
start_rests x start store = record { here = begins_rest x (slice_get x.entries start.job.entry); callers = tt }

pub steps_rest : (x : Exchange) (start : JobStart) (store : List ℕ) (n : ℕ) → AreRests x (after_steps n x (begins x start store))
steps_rest x start store n = steps_keep (rests_kept x) n (begins x start store) (start_rests x start store)
