-- Lines that arrive keep a state valid.
use Rattle.std.proofs.Common.{◌≡◌, ℕ, zero, suc, ◌+◌, ◌<◌, ◌≤◌, Bool, true, false, List, [], ◌∷◌}
use Rattle.std.proofs.Common.{◌++◌, map, refl, sym, ap, ◌∙◌, subst, arith, append_assoc}
use Rattle.std.proofs.Common.{length-append}
use Rattle.std.proofs.lemmas.List.{map-append, append-nil}
use Rattle.std.specs.Prelude.{nat_eq, if◌then◌else◌}
use Rattle.std.specs.List.{AllByRecursion}
use Rattle.job_types.specs.declared.job.Job.{Job}
use Rattle.job_types.specs.Forlopps.{is_dead}
use Rattle.job_types.specs.Waiting.{joins}
use Rattle.exchange_model.specs.declared.exchange.Exchange.{Exchange}
use Rattle.source_meaning.specs.Arrivals.{given_to, forlopp_for, next_after, arrives, is_due}
use Rattle.source_meaning.specs.Arrivals.{arrivals_of, arrivals}
use Rattle.exchange_model.specs.Names.{level_of}
use Rattle.source_meaning.specs.State.{State, Coming, Origin, Fresh, Bare, Same, Arrived, Lost}
use Rattle.source_meaning.specs.State.{has_stopped}
use Rattle.source_meaning.specs.Valid.{MayBe, IsJob, LineFits, LinesFit, EventFits, IsValid}
use Rattle.plex_num.proofs.Lists.{all_append, all_weaker}
use Rattle.source_meaning.proofs.States.{books_of, books_as, IsLater, Orderly, valid_of, lists_of}
use Rattle.source_meaning.proofs.States.{lists_later, lists_join, waiting_of}

-- a line among others
line_fits : (x : Exchange) (before first : List Coming) (l : Coming) (rest : List Coming)
    → LinesFit x before (first ++ l ∷ rest) → LineFits x (before ++ first) l
line_fits x before [] l rest h = subst (λ b. LineFits x b l) (sym (append-nil before)) h.0
line_fits x before (k ∷ first) l rest h = subst (λ b. LineFits x b l) (append_assoc before (k ∷ []) first) (line_fits x (before ++ k ∷ []) first l rest h.1)

-- the forlopp that an earlier line got is below the next number
given_below : (arrived : List Arrived) (line next : ℕ) → 1 ≤ next → AllByRecursion (λ (a : Arrived). a.forlopp < next) arrived → given_to arrived line < next
given_below [] line next some all = omega arith
given_below (a ∷ arrived) line next some all = by (nat_eq a.line.number line) (given_below arrived line next some all.1)
  where
    by : (b : Bool) → given_to arrived line < next → (if b then a.forlopp else given_to arrived line) < next
    by true rest = all.0
    by false rest = rest

-- the line has arrived, and its job has not joined yet
abbrev arrived_of : Coming → List Coming → State → State
arrived_of l rest s = record s {
  lines = rest;
  next = next_after l.origin s.next;
  arrived = s.arrived ++ record { line = l; forlopp = forlopp_for l.origin s } ∷ [];
}

module _ (x : Exchange) (l : Coming) (rest : List Coming) (s : State) (v : IsValid x s) (is : s.lines ≡ l ∷ rest) where
  abbrev drawn : State
  drawn = arrived_of l rest s

  next_more : (o : Origin) → (s.next ≤ next_after o s.next) × (next_after o s.next ≤ s.next + 1)
  next_more Fresh = (omega arith, omega arith)
  next_more Bare = (omega arith, omega arith)
  next_more (Same line) = (omega arith, omega arith)

  forlopp_below : (o : Origin) → forlopp_for o s < next_after o s.next
  forlopp_below Fresh = omega arith
  forlopp_below Bare = let some = v.numbers.some in omega arith
  forlopp_below (Same line) = given_below s.arrived line s.next v.numbers.some v.numbers.arrived

  later : IsLater s drawn
  later = record { next = (next_more l.origin).0; dead = λ n alive. alive }

  own_line : LineFits x (map (λ (a : Arrived). a.line) s.arrived) l
  own_line = line_fits x [] (map (λ (a : Arrived). a.line) s.arrived) l rest
      (subst (λ ls. LinesFit x [] (map (λ (a : Arrived). a.line) s.arrived ++ ls)) is v.lines)

  lines_same : map (λ (a : Arrived). a.line) s.arrived ++ s.lines ≡ map (λ (a : Arrived). a.line) drawn.arrived ++ rest
  lines_same =
      ap (λ ls. map (λ (a : Arrived). a.line) s.arrived ++ ls) is
      ∙ sym (append_assoc (map (λ (a : Arrived). a.line) s.arrived) (l ∷ []) rest)
      ∙ ap (λ ls. ls ++ rest) (sym (map-append (λ (a : Arrived). a.line) s.arrived (record { line = l; forlopp = forlopp_for l.origin s } ∷ [])))

  drawn_orderly : Orderly x drawn 0
  drawn_orderly = record {
    waiting = waiting_of x drawn (lists_later x s drawn s.waiting later (lists_of x s v.waiting));
    some = (let more = (next_more l.origin).0 in let some = v.numbers.some in omega arith);
    dead = λ n dead. let past = v.numbers.dead n dead in let more = (next_more l.origin).0 in (past.0, (let b = past.1 in omega arith));
    few = (let more = (next_more l.origin).1 in let few = v.numbers.few in let long = length-append s.arrived
        (record { line = l; forlopp = forlopp_for l.origin s } ∷ []) in omega arith);
    arrived = all_append (λ (a : Arrived). a.forlopp < drawn.next) s.arrived (record { line = l; forlopp = forlopp_for l.origin s } ∷ [])
        (all_weaker (λ (a : Arrived). a.forlopp < s.next) (λ (a : Arrived). a.forlopp < drawn.next) s.arrived
        (λ a below. let more = (next_more l.origin).0 in omega arith) v.numbers.arrived)
        (forlopp_below l.origin, tt);
    lines = subst (LinesFit x []) lines_same v.lines;
    events = v.events;
  }

  line_job : Job
  line_job = record { entry = l.entry; level = level_of x l.entry; values = l.values; forlopp = forlopp_for l.origin s }

  may_begin : (n : ℕ) → n < drawn.next → is_dead s.dead n ≡ false → MayBe drawn n
  may_begin zero below alive = tt
  may_begin (suc n) below alive = record { drawn = omega arith; before = below; alive = alive }

  pub arrives_valid : IsValid x (arrives x l rest s)
  unfolding line_job
  arrives_valid = by (is_dead s.dead (forlopp_for l.origin s)) refl
    where
      o : Orderly x drawn 0
      o = drawn_orderly

      by : (dead : Bool) → is_dead s.dead (forlopp_for l.origin s) ≡ dead
          → IsValid x (if dead then record drawn { events = s.events ++ Lost l.number ∷ [] }
          else record drawn {
            waiting = joins
                (record {
                  entry = l.entry;
                  level = level_of x l.entry;
                  values = l.values;
                  forlopp = forlopp_for l.origin s;
                }) s.waiting;
          })
      by true dead =
          let t : State = record drawn { events = s.events ++ Lost l.number ∷ [] } in
          valid_of x t 0 v.store (books_as (λ n. refl)
          (λ n h. record {
            drawn = h.drawn;
            before = (let more = (next_more l.origin).0 in let b = h.before in omega arith);
            alive = h.alive;
          })
          (books_of x s v)) (record {
            waiting = waiting_of x t (lists_later x drawn t s.waiting (record { next = omega arith; dead = λ n alive. alive }) (lists_of x drawn o.waiting));
            some = o.some;
            dead = o.dead;
            few = o.few;
            arrived = o.arrived;
            lines = o.lines;
            events = all_append (EventFits x) s.events (Lost l.number ∷ []) v.events (tt, tt);
          })
      by false alive =
          let j : Job = record { entry = l.entry; level = level_of x l.entry; values = l.values; forlopp = forlopp_for l.origin s } in
          let t : State = record drawn { waiting = joins j s.waiting } in
          let job : IsJob x j = record { entry = own_line.entry; level = refl; values = own_line.values; words = own_line.words } in
          let joined = lists_join x drawn j s.waiting job (may_begin (forlopp_for l.origin s) (forlopp_below l.origin) alive) (lists_of x drawn o.waiting) in
          valid_of x t 0 v.store (books_as (λ n. refl)
          (λ n h. record {
            drawn = h.drawn;
            before = (let more = (next_more l.origin).0 in let b = h.before in omega arith);
            alive = h.alive;
          })
          (books_of x s v)) (record {
            waiting = waiting_of x t (lists_later x drawn t (joins j s.waiting) (record { next = omega arith; dead = λ n alive. alive }) joined);
            some = o.some;
            dead = o.dead;
            few = o.few;
            arrived = o.arrived;
            lines = o.lines;
            events = o.events;
          })

-- one line after the other
lines_valid : (x : Exchange) (lines : List Coming) (s : State) → s.lines ≡ lines → IsValid x s → IsValid x (arrivals_of x lines s)
unfolding arrivals_of
lines_valid x [] s is v = v
lines_valid x (l ∷ rest) s is v = by (is_due l s)
    (lines_valid x rest (arrives x l rest s) (left (is_dead s.dead (forlopp_for l.origin s)))
    (arrives_valid x l rest s v is))
  where
    left : (dead : Bool) → (if dead then record (arrived_of l rest s) { events = s.events ++ Lost l.number ∷ [] }
        else record (arrived_of l rest s) {
          waiting = joins
              (record { entry = l.entry; level = level_of x l.entry; values = l.values; forlopp = forlopp_for l.origin s })
              s.waiting;
        }).lines ≡ rest
    left true = refl
    left false = refl

    by : (due : Bool) → IsValid x (arrivals_of x rest (arrives x l rest s)) → IsValid x (if due then arrivals_of x rest (arrives x l rest s) else s)
    by true more = more
    by false more = v

pub arrivals_valid : (x : Exchange) (s : State) → IsValid x s → IsValid x (arrivals x s)
arrivals_valid x s v = by (has_stopped s)
  where
    by : (stopped : Bool) → IsValid x (if stopped then s else arrivals_of x s.lines s)
    by true = v
    by false = lines_valid x s.lines s refl v
