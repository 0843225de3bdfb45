-- A job that faults may do so by the facts of its entry.
use Rattle.std.proofs.Common.{◌≡◌, ◌⊎◌, inl, inr, ⊎_elim, ℕ, zero, suc, ◌+◌, false, List, [], ◌∷◌}
use Rattle.std.proofs.Common.{length, Some, None, refl, sym, ap, ◌∙◌, subst, arith}
use Rattle.std.proofs.lemmas.Bool.{ltb-false}
use Rattle.std.proofs.lemmas.Option.{none-some}
use Rattle.std.specs.Prelude.{nat_lt}
use Rattle.job_types.specs.declared.fault.Fault.{Fault}
use Rattle.job_types.specs.declared.job.JobStart.{JobStart}
use Rattle.job_types.specs.declared.outcome.Outcome.{Outcome}
use Rattle.job_types.specs.declared.outcome.Outcome.TheVariants.{Ended, Faulted}
use Rattle.job_types.specs.declared.touch.Touch.{Touch}
use Rattle.job_types.specs.Own.{budget}
use Rattle.exchange_model.specs.declared.exchange.Exchange.{Exchange}
use Rattle.exchange_model.specs.Kept.{IsExchange}
use Rattle.source_meaning.specs.Config.{Item, Config, next_counted}
use Rattle.source_meaning.specs.Changes.{goes}
use Rattle.source_meaning.specs.Deeds.{Deed, Doing, Starting, Turning, deed_of, deed_point, Why}
use Rattle.source_meaning.specs.Effects.{with_counted, Leave, Begins, Asks, Returns, Ends, Faults}
use Rattle.source_meaning.specs.Job.{after_steps, begins, job}
use Rattle.source_meaning.specs.Rests.{AreRests, AllWaitAtRetrieve, DeedStands, IsRest}
use Rattle.source_meaning.specs.Step.{step}
use Rattle.source_meaning.specs.Valid.{IsJob, StoreFits}
use Rattle.source_meaning.proofs.Awaiting.{steps_wait}
use Rattle.source_meaning.proofs.Budget.{step_counts}
use Rattle.source_meaning.proofs.Doing.{traced}
use Rattle.source_meaning.proofs.Ending.{some_counted, steps_end_text}
use Rattle.source_meaning.proofs.Points.{deed_below}
use Rattle.source_meaning.proofs.Ranged.{steps_in_range}
use Rattle.source_meaning.proofs.Rests.{counted_stands, steps_rest}
use Rattle.source_meaning.proofs.Stepping.{every_step}
use Rattle.flow_points.specs.declared.fact.Value.TheVariants.{Const}
use Rattle.flow_points.specs.Facts.{Facts, Reached, IsClosed}
use Rattle.entry_summary.specs.Faults.{PostsAt, GoesRound, MayFault}
use Rattle.fact_laws.specs.Covers.{Covered, KnownBefore, KnownNext}
use Rattle.fact_laws.proofs.Covering.{last_step, steps_covered, steps_known}
use Rattle.fact_laws.proofs.Standing.{at_place, deed_place}
use Rattle.fault_laws.proofs.Counting.{Passed, IsNew, nothing_passed, is_new, passed_on}
use Rattle.fault_laws.proofs.Counting.{budget_left, one_too_many}
use Rattle.fault_laws.proofs.Depths.{steps_few}
use Rattle.fault_laws.proofs.Following.{Follows, IsPlain, counted_plain, goes_follows}
use Rattle.fault_laws.proofs.Following.{leaves_follow}
use Rattle.fault_laws.proofs.Moves.{PostsBy, SendsOne, Moves, Stays, Leaves, Stops, StepTo}
use Rattle.fault_laws.proofs.Moves.{CountsNone, CountsFull, Makes, step_moves}
use Rattle.fault_laws.proofs.Reasons.{why_told}

-- a leave that faults has a reason
record HasReason (x : Exchange) (c : Config) (deed : Deed) : Type 0 where
  fault : Fault
  why : Why x c deed fault

leave_reason : (x : Exchange) (deed : Deed) (rest : List Item) (c d : Config) (f : Fault) (point : ℕ) → c.over ≡ None
    → Leave x deed rest c d → d.over ≡ Some (Faulted f point) → HasReason x c deed
leave_reason x deed rest c d f point going (Begins e b signal vs is) over = absurd (none-some (Faulted f point) (sym going ∙ over))
leave_reason x deed rest c d f point going (Asks e b signal answer vs is room) over = absurd (none-some (Faulted f point) (sym going ∙ over))
leave_reason x deed rest c d f point going (Returns e p answer values vs k ks is given some same) over = absurd (none-some (Faulted f point) (sym going ∙ over))
leave_reason x deed rest c d f point going (Ends e p l is end none) over = absurd (let clash : Some Ended ≡ Some (Faulted f point) = over in cc)
leave_reason x deed rest c d f point going (Faults e g why) over = record { fault = g; why = why }

-- what a leave has sent was sent before
leave_sends : (x : Exchange) (deed : Deed) (rest : List Item) (c d : Config) → Leave x deed rest c d → length d.own.sends ≡ length c.own.sends
leave_sends x deed rest c d (Begins e b signal vs is) = refl
leave_sends x deed rest c d (Asks e b signal answer vs is room) = refl
leave_sends x deed rest c d (Returns e p answer values vs k ks is given some same) = refl
leave_sends x deed rest c d (Ends e p l is end none) = refl
leave_sends x deed rest c d (Faults e g why) = refl

module _ (x : Exchange) (kept : IsExchange x) (P : Facts) (closed : IsClosed x P) (e : ℕ) (args : List ℕ) where
  posts_at : (c : Config) (deed : Deed) (rest : List Item) → DeedStands x c.block deed rest
      → Reached P e (deed_point deed) → PostsBy x deed → PostsAt x P e (deed_point deed)
  posts_at c (Doing p l) rest at reached posts = record {
    at = at_place c.block p l rest;
    stands = record { place = deed_place at; here = refl };
    reached = reached;
    posts = posts;
  }
  posts_at c (Starting p l) rest at reached posts = absurd posts
  posts_at c (Turning p temp this end body) rest at reached posts = absurd posts

  -- what is counted next follows what is counted
  moves_follow : (deed : Deed) (rest : List Item) (c d : Config) → DeedStands x c.block deed rest → IsPlain deed
      → Reached P e (deed_point deed) → AllWaitAtRetrieve c → AreRests x d → Covered x P e args d
      → Moves x deed rest c d → d.over ≡ None
      → (i : Item) (more : List Item) → next_counted d.todo ≡ i ∷ more → Follows x P e deed (deed_of i)
  moves_follow deed rest c d at plain reached waits into covered (Stays last on block over sends) going i more is =
      goes_follows x kept P closed e args rest c deed d.todo d.temps d.own.given d.callers at plain reached (subst (λ b. IsRest x b d.todo) block into.here)
      (subst (λ b. KnownBefore x P e args b d.todo d.temps d.own.given d.callers) block covered.here) on i more is
  moves_follow deed rest c d at plain reached waits into covered (Leaves t last leave) going i more is =
      leaves_follow x kept P closed e args deed rest (traced t c) d at reached waits into.here covered.here leave going i more is
  moves_follow deed rest c d at plain reached waits into covered (Stops t todo f why) going i more is = absurd (let over = going in cc)

  moves_send : (deed : Deed) (rest : List Item) (c d : Config) → Moves x deed rest c d → SendsOne x deed c d
  moves_send deed rest c d (Stays last on block over sends) = sends
  moves_send deed rest c d (Leaves t last leave) = inl (leave_sends x deed rest (traced t c) d leave)
  moves_send deed rest c d (Stops t todo f why) = inl refl

  -- a step that faults has a reason, which its statement had where it was counted
  moves_fault : (A : Type 0) (deed : Deed) (rest : List Item) (c d : Config) (f : Fault) (point : ℕ) → c.over ≡ None
      → Moves x deed rest c d → d.over ≡ Some (Faulted f point)
      → ((t : List Touch) (todo : List Item) (g : Fault) → Why x (goes todo (traced t c)) deed g → A) → A
  moves_fault A deed rest c d f point going (Stays last on block over sends) is told = absurd (none-some (Faulted f point) (sym going ∙ sym over ∙ is))
  moves_fault A deed rest c d f point going (Leaves t last leave) is
      told = (let r = leave_reason x deed rest (traced t c) d f point going leave is in told t c.todo r.fault r.why)
  moves_fault A deed rest c d f point going (Stops t todo g why) is told = told t todo g why

module _ (x : Exchange) (kept : IsExchange x) (P : Facts) (closed : IsClosed x P) (start : JobStart) (store : List ℕ)
    (is_job : IsJob x start.job) (fits : StoreFits x store) where
  abbrev e : ℕ
  e = start.job.entry

  abbrev at : ℕ → Config
  at n = after_steps n x (begins x start store)

  abbrev Known : Config → Item → Type 0
  Known c i = KnownNext x P e start.job.values c i

  -- a point goes round, or what was counted before the next item is apart
  abbrev Tracked : Config → Type 0
  Tracked c = (i : Item) (rest : List Item) → next_counted c.todo ≡ i ∷ rest → GoesRound x P e ⊎ Passed x P e c (deed_of i)

  first_tracked : Tracked (at 0)
  unfolding after_steps
  first_tracked i rest is = inr (nothing_passed x P e (begins x start store) (deed_of i) refl refl)

  nothing_over : (o : Outcome) → (at 0).over ≡ Some o → ⊥
  unfolding after_steps
  nothing_over o is = none-some o is

  reached_next : (c : Config) (i : Item) → Known c i → Reached P e (deed_point (deed_of i))
  reached_next c i known = (Const (length c.callers), known.depth)

  counts_something : (n : ℕ) → next_counted (at n).todo ≡ [] → ⊥
  counts_something n none = some_counted (at n).todo (steps_end_text x kept n start store is_job).here none

  -- one step more
  module _ (n : ℕ) (going : (at n).over ≡ None) (tracked : Tracked (at n)) where
    abbrev c : Config
    c = at n

    stands : (i : Item) (rest : List Item) → next_counted c.todo ≡ i ∷ rest → DeedStands x c.block (deed_of i) rest
    stands i rest is = (counted_stands x c.block c.todo i rest (steps_rest x start store n).here is).0

    known : (i : Item) (rest : List Item) → next_counted c.todo ≡ i ∷ rest → Known c i
    known i rest is = steps_known x kept P closed start store is_job fits n going i rest is

    reached : (i : Item) (rest : List Item) → next_counted c.todo ≡ i ∷ rest → Reached P e (deed_point (deed_of i))
    reached i rest is = reached_next c i (known i rest is)

    posts : (i : Item) (rest : List Item) → next_counted c.todo ≡ i ∷ rest → PostsBy x (deed_of i) → PostsAt x P e (deed_point (deed_of i))
    posts i rest is by = posts_at x kept P closed e start.job.values c (deed_of i) rest (stands i rest is) (reached i rest is) by

    step_tracked : (d : Config) → d.over ≡ None → d.own.count ≡ c.own.count + 1 → AreRests x d
        → Covered x P e start.job.values d → (i : Item) (rest : List Item) → next_counted c.todo ≡ i ∷ rest
        → Moves x (deed_of i) rest (with_counted i c) d → Tracked d
    step_tracked d on one into covered i rest is moves next more after =
        ⊎_elim inl (λ (h : Passed x P e c (deed_of i)). ⊎_elim inl
        (λ new. inr (passed_on x P e c d (deed_of i) (deed_of next)
        (deed_below x kept c.block (deed_of i) rest (stands i rest is)) h new
        (moves_follow x kept P closed e start.job.values (deed_of i) rest (with_counted i c) d (stands i rest is)
        (counted_plain c.todo i rest is) (reached i rest is) (steps_wait x kept n start store) into covered moves on
        next more after)
        one (posts i rest is) (moves_send x kept P closed e start.job.values (deed_of i) rest (with_counted i c) d
        moves))) (is_new x P e c (deed_of i) h)) (tracked i rest is)

    -- so where it faults the summary says that it may
    step_faults : (d : Config) (f : Fault) (point : ℕ) → d.over ≡ Some (Faulted f point) → (i : Item) (rest : List Item)
        → next_counted c.todo ≡ i ∷ rest → Moves x (deed_of i) rest (with_counted i c) d → MayFault x P e
    step_faults d f point over i rest is moves = ⊎_elim (λ round. inr (inr round)) passed (tracked i rest is)
      where
        passed : Passed x P e c (deed_of i) → MayFault x P e
        passed h = ⊎_elim (λ round. inr (inr round)) fresh (is_new x P e c (deed_of i) h)
          where
            fresh : IsNew h.statements h.turns (deed_of i) → MayFault x P e
            fresh new =
                let range = steps_in_range x kept n start store is_job fits in
                moves_fault x kept P closed e start.job.values (MayFault x P e) (deed_of i) rest (with_counted i c) d f point going moves over
                (λ t todo g why. ⊎_elim inl
                (λ many. inr (inl (one_too_many x P e c (deed_of i) h new
                (deed_below x kept c.block (deed_of i) rest (stands i rest is)) (posts i rest is many.0) many.0
                many.1)))
                (why_told x kept P e start.job.values (with_counted i c) range.temps range.store
                (steps_few x n start store) (deed_of i) rest t todo g (stands i rest is) (known i rest is) why))

    full_faults : (i : Item) (rest : List Item) → next_counted c.todo ≡ i ∷ rest → nat_lt c.own.count budget ≡ false → GoesRound x P e
    full_faults i rest is full = ⊎_elim (λ round. round)
        (λ (h : Passed x P e c (deed_of i)). absurd (budget_left x P e c (deed_of i) kept h full)) (tracked i rest is)

    next_tracked : (d : Config) → StepTo x c d → d.over ≡ None → d.own.count ≡ c.own.count + 1
        → (nat_lt c.own.count budget ≡ false → ⊥) → AreRests x d → Covered x P e start.job.values d → Tracked d
    next_tracked d (CountsNone last none) on one room into covered = absurd (counts_something n none)
    next_tracked d (CountsFull i rest last is full) on one room into covered = absurd (room full)
    next_tracked d (Makes i rest last is moves) on one room into covered = step_tracked d on one into covered i rest is moves

    next_faults : (d : Config) → StepTo x c d → (f : Fault) (point : ℕ) → d.over ≡ Some (Faulted f point) → MayFault x P e
    next_faults d (CountsNone last none) f point over = absurd (counts_something n none)
    next_faults d (CountsFull i rest last is full) f point over = inr (inr (full_faults i rest is full))
    next_faults d (Makes i rest last is moves) f point over = step_faults d f point over i rest is moves

  one_more : (n : ℕ) → (at n).over ≡ None → Tracked (at n) → at (suc n) ≡ step x (at n) → (at (suc n)).over ≡ None → Tracked (at (suc n))
  one_more n going tracked made on =
      let d = step x (at n) in
      let over : d.over ≡ None = ap (λ (c : Config). c.over) (sym made) ∙ on in
      let counts = step_counts x (at n) d over (every_step x (at n)) in
      let room : nat_lt (at n).own.count budget ≡ false
      → ⊥ = λ full. let lt = counts.below in let le = ltb-false (at n).own.count budget full in omega
      (arith, lt, le) in
      subst Tracked (sym made)
      (next_tracked n going tracked d (step_moves x (at n)) over counts.one room
      (subst (AreRests x) made (steps_rest x start store (suc n)))
      (subst (Covered x P e start.job.values) made
      (steps_covered x kept P closed start store is_job fits (suc n) on)))

  tracks : (n : ℕ) → (at n).over ≡ None → Tracked (at n)
  tracks zero going = first_tracked
  tracks (suc n) going =
      ⊎_elim
      (λ same. subst Tracked (sym same) (tracks n (ap (λ (c : Config). c.over) (sym same) ∙ going)))
      (λ made. one_more n made.0 (tracks n made.0) made.1 going)
      (last_step n x (begins x start store))

  pub steps_told : (n : ℕ) (f : Fault) (point : ℕ) → (at n).over ≡ Some (Faulted f point) → MayFault x P e
  steps_told zero f point over = absurd (nothing_over (Faulted f point) over)
  steps_told (suc n) f point over =
      ⊎_elim
      (λ same. steps_told n f point (ap (λ (c : Config). c.over) (sym same) ∙ over))
      (λ made. next_faults n made.0 (tracks n made.0) (step x (at n)) (step_moves x (at n)) f point (ap (λ (c : Config). c.over) (sym made.1) ∙ over))
      (last_step n x (begins x start store))

  pub job_told : (f : Fault) (point : ℕ) → (job x start store).over ≡ Some (Faulted f point) → MayFault x P e
  unfolding job
  job_told f point over = steps_told (budget + 1) f point over
