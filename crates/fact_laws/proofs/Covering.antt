-- Closed facts cover a job before each of its steps.
use Rattle.std.proofs.Common.{◌≡◌, ◌⊎◌, inl, inr, ⊎_elim, ℕ, zero, suc, Bool, List, [], ◌∷◌, Option}
use Rattle.std.proofs.Common.{Some, None, refl, sym, ap, ◌∙◌, subst, arith}
use Rattle.std.proofs.lemmas.Bool.{eqb-true}
use Rattle.std.proofs.lemmas.Option.{none-some}
use Rattle.std.specs.Prelude.{if◌then◌else◌}
use Rattle.std.specs.List.{AllByRecursion}
use Rattle.job_types.specs.declared.job.JobStart.{JobStart}
use Rattle.job_types.specs.declared.outcome.Outcome.{Outcome}
use Rattle.exchange_model.specs.declared.exchange.Exchange.{Exchange}
use Rattle.exchange_model.specs.declared.signal.SignalKind.{SignalKind}
use Rattle.exchange_model.specs.declared.stmt.StmtKind.{out-StmtKind}
use Rattle.exchange_model.specs.Kept.{IsExchange}
use Rattle.source_meaning.specs.Changes.{ends}
use Rattle.source_meaning.specs.Config.{Item, Do, Start, Turns, Caller, Config, from_signal}
use Rattle.source_meaning.specs.Config.{next_counted}
use Rattle.source_meaning.specs.Deeds.{Deed, deed_of, deed_point}
use Rattle.source_meaning.specs.Effects.{with_counted, Effect, Looks, Goes, Leave, Begins, Asks}
use Rattle.source_meaning.specs.Effects.{Returns, Ends, Faults, Effects, Done, Then, Last, Step}
use Rattle.source_meaning.specs.Effects.{NothingLeft, CountFull, Counts}
use Rattle.source_meaning.specs.Job.{unless_over, after_steps, begins}
use Rattle.source_meaning.specs.Ranges.{HasTemporaries}
use Rattle.source_meaning.specs.Rests.{AreRests, IsRest, IsRetrieveOf, WaitsAtRetrieve}
use Rattle.source_meaning.specs.Rests.{AllWaitAtRetrieve, head_point}
use Rattle.source_meaning.specs.Step.{step}
use Rattle.source_meaning.specs.Valid.{IsJob, IsWord, StoreFits}
use Rattle.source_meaning.proofs.Awaiting.{steps_wait}
use Rattle.source_meaning.proofs.Ranged.{steps_in_range}
use Rattle.source_meaning.proofs.Receiving.{beginning_received, asking_received}
use Rattle.source_meaning.proofs.Rests.{DeedRest, counted_stands, rests_kept, steps_rest}
use Rattle.source_meaning.proofs.Stepping.{every_step}
use Rattle.source_meaning.proofs.Temporaries.{steps_have}
use Rattle.flow_points.specs.Facts.{Facts, IsClosed}
use Rattle.fact_laws.specs.Covers.{KnownNext, CallersCovered, Covered}
use Rattle.fact_laws.proofs.Beginning.{start_covered}
use Rattle.fact_laws.proofs.Going.{Here, AnswersAt, goes_known, retrieved_by}
use Rattle.fact_laws.proofs.Leaving.{begins_known, asks_known, returns_known, retrieve_no_enter}
use Rattle.fact_laws.proofs.Pairing.{PairedItems, AfterPaired, Pairs, begun_paired, counted_pairs}
use Rattle.fact_laws.proofs.Pairing.{goes_paired, retrieve_first, steps_pair}
use Rattle.fact_laws.proofs.Standing.{next_known}
use Rattle.flow_points.proofs.Few.{temps_few}

-- a RETRIEVE stands first
item_retrieves : (i : Item) (rest : List Item) (m : ℕ) → retrieved_by (deed_of i) ≡ Some m → IsRetrieveOf m (i ∷ rest)
item_retrieves (Do s) rest m is = is
item_retrieves (Start s) rest m is = absurd (none-some m is)
item_retrieves (Turns p temp this end body) rest m is = absurd (none-some m is)

item_head : (i : Item) (rest : List Item) (m : ℕ) → IsRetrieveOf m (i ∷ rest) → head_point (i ∷ rest) ≡ Some (deed_point (deed_of i))
item_head (Do s) rest m is = ap (λ (t : Bool). if t then head_point rest else Some s.point) (retrieve_no_enter (out-StmtKind s.kind) m is)
item_head (Start s) rest m is = absurd is
item_head (Turns p temp this end body) rest m is = absurd is

no_retrieve : (signals : List SignalKind) (todo : List Item) (m : ℕ) → PairedItems signals None todo → IsRetrieveOf m todo → ⊥
no_retrieve signals [] m h is = is
no_retrieve signals (Do s ∷ rest) m h is = none-some m (sym h.0 ∙ is)
no_retrieve signals (Start s ∷ rest) m h is = is
no_retrieve signals (Turns p temp this end body ∷ rest) m h is = is

-- the last of some steps
pub last_step : (n : ℕ) (x : Exchange) (c : Config)
    → (after_steps (suc n) x c ≡ after_steps n x c)
    ⊎ (((after_steps n x c).over ≡ None) × (after_steps (suc n) x c ≡ step x (after_steps n x c)))
unfolding after_steps
last_step zero x c = by c.over refl
  where
    by : (over : Option Outcome) → c.over ≡ over → (unless_over over c (step x c) ≡ c) ⊎ ((c.over ≡ None) × (unless_over over c (step x c) ≡ step x c))
    by None is = inr (is, refl)
    by (Some o) is = inl refl
last_step (suc n) x c = by c.over (last_step n x (step x c))
  where
    by : (over : Option Outcome) → (after_steps (suc n) x (step x c) ≡ after_steps n x (step x c))
        ⊎ (((after_steps n x (step x c)).over ≡ None)
        × (after_steps (suc n) x (step x c) ≡ step x (after_steps n x (step x c))))
        → (unless_over over c (after_steps (suc n) x (step x c)) ≡ unless_over over c (after_steps n x (step x c)))
        ⊎ (((unless_over over c (after_steps n x (step x c))).over ≡ None)
        × (unless_over over c (after_steps (suc n) x (step x c))
        ≡ step x (unless_over over c (after_steps n x (step x c)))))
    by None more = more
    by (Some o) more = inl refl

-- what holds of each job besides
record Sound (x : Exchange) (c : Config) : Type 0 where
  rests : AreRests x c
  temporaries : HasTemporaries c
  small : AllByRecursion IsWord c.temps
  pairs : Pairs x c
  waits : AllWaitAtRetrieve c

module _ (x : Exchange) (kept : IsExchange x) (P : Facts) (closed : IsClosed x P) (entry : ℕ) (args : List ℕ) where
  pub known_next : (c : Config) → AreRests x c → Covered x P entry args c → (i : Item) (rest : List Item)
      → next_counted c.todo ≡ i ∷ rest → KnownNext x P entry args c i
  known_next c rests covered i rest is = next_known x P closed entry args c.block c.temps c.own.given c.callers c.todo i rest rests.here is covered.here

  answers_at : (c : Config) → Sound x c → Covered x P entry args c → (i : Item) (rest : List Item) → next_counted c.todo ≡ i ∷ rest
      → AnswersAt x kept P closed entry args (with_counted i c) (deed_of i)
  answers_at c sound covered i rest is m k retrieves lt =
      let here : IsRetrieveOf m (i ∷ rest) = item_retrieves i rest m retrieves in
      let same : c.todo ≡ i ∷ rest = sym (retrieve_first x.signals sound.pairs.answer c.todo m sound.pairs.here (subst (IsRetrieveOf m) (sym is) here)) ∙ is in
      covered.answers m (deed_point (deed_of i)) k (subst (IsRetrieveOf m) (sym same) here) (ap head_point same ∙ item_head i rest m here) lt

  leave_covered : (deed : Deed) (rest : List Item) (c d : Config) → DeedRest x c.block deed rest
      → Here x kept P closed entry args c (deed_point deed) → AreRests x c → AllWaitAtRetrieve c
      → CallersCovered x P entry args c.callers
      → Leave x deed rest c d → d.over ≡ None → Covered x P entry args d
  leave_covered deed rest c d at h rests waits callers (Begins from b signal vs is) going = record {
    here = begins_known x kept P closed entry args c deed rest b signal vs at h is;
    answers = λ m p k retrieves head lt. absurd
        (no_retrieve x.signals (from_signal x b signal) m
        (begun_paired x kept b signal (beginning_received x kept c deed rest b signal vs at.0 is)) retrieves);
    waiting = callers;
  }
  leave_covered deed rest c d at h rests waits callers (Asks from b signal answer vs is room) going =
      let k : Caller = record { block = c.block; todo = rest; temps = c.temps; given = c.own.given; awaits = answer } in
      let r = asks_known x kept P closed entry args c deed rest b signal answer vs k refl at h room is in
      record {
        here = r.0;
        answers = λ m p k retrieves head lt. absurd
            (no_retrieve x.signals (from_signal x b signal) m
            (begun_paired x kept b signal (asking_received x kept c deed rest b signal answer vs at.0 is)) retrieves);
        waiting = (r.1, callers);
      }
  leave_covered deed rest c d at h rests waits callers (Returns from p answer values vs k ks is given some same) going =
      let stands = subst (λ (deed : Deed). DeedRest x c.block deed rest) is at in
      let here = subst (λ (deed : Deed). Here x kept P closed entry args c (deed_point deed)) is h in
      let known : CallersCovered x P entry args (k ∷ ks) = subst (CallersCovered x P entry args) some callers in
      let into : AllByRecursion (λ (k : Caller). IsRest x k.block k.todo) (k ∷ ks) =
      subst (AllByRecursion (λ (k : Caller). IsRest x k.block k.todo)) some rests.callers in
      let retrieves : AllByRecursion WaitsAtRetrieve (k ∷ ks) = subst (AllByRecursion WaitsAtRetrieve) some waits in
      record {
        here = known.0;
        answers = returns_known x kept P closed entry args c p answer values vs k ks rest stands.0 here given
            (eqb-true k.awaits answer same) into.0 retrieves.0 known.0;
        waiting = known.1;
      }
  leave_covered deed rest c d at h rests waits callers (Ends from p l is end none) going = absurd (let over = going in cc)
  leave_covered deed rest c d at h rests waits callers (Faults from f why) going = absurd (let over = going in cc)

  -- what is known at the item that was counted, with the temporaries that the job had there,
  -- whatever it has by now
  record Begun (deed : Deed) (rest : List Item) (temps : List ℕ) (c : Config) : Type 0 where
    stands : DeedRest x c.block deed rest
    after : AfterPaired x.signals deed rest
    here : Here x kept P closed entry args (record c { temps = temps }) (deed_point deed)
    answers : AnswersAt x kept P closed entry args c deed
    rests : AreRests x c
    waits : AllWaitAtRetrieve c

  begun_at : (c : Config) → Sound x c → Covered x P entry args c → (i : Item) (rest : List Item)
      → next_counted c.todo ≡ i ∷ rest → Begun (deed_of i) rest c.temps (with_counted i c)
  begun_at c sound covered i rest is =
      let few = temps_few x kept c.block in
      let many = sound.temporaries.temps in
      record {
        stands = counted_stands x c.block c.todo i rest sound.rests.here is;
        after = counted_pairs x kept c i rest sound.pairs is;
        here = record { known = known_next c sound.rests covered i rest is; long = omega (arith, few, many); small = sound.small };
        answers = answers_at c sound covered i rest is;
        rests = record { here = sound.rests.here; callers = sound.rests.callers };
        waits = sound.waits;
      }

  -- no effect takes anything away from it
  begun_after : (deed : Deed) (rest : List Item) (temps : List ℕ) (c d : Config) → AreRests x d → Effect x deed rest c d
      → Begun deed rest temps c → Begun deed rest temps d
  begun_after deed rest temps c d rests (Looks e loads each) b =
      record {
        stands = b.stands;
        after = b.after;
        here = record { known = b.here.known; long = b.here.long; small = b.here.small };
        answers = b.answers;
        rests = rests;
        waits = b.waits;
      }
  begun_after deed rest temps c d rests _ b =
      record {
        stands = b.stands;
        after = b.after;
        here = record { known = b.here.known; long = b.here.long; small = b.here.small };
        answers = b.answers;
        rests = rests;
        waits = b.waits;
      }

  here_now : (deed : Deed) (rest : List Item) (temps : List ℕ) (c : Config) → c.temps ≡ temps → Begun deed rest temps c
      → Here x kept P closed entry args c (deed_point deed)
  here_now deed rest temps c same b =
      let h = subst (λ ts. Here x kept P closed entry args (record c { temps = ts }) (deed_point deed)) (sym same) b.here in
      record { known = h.known; long = h.long; small = h.small }

  -- where the job goes on is known anew; any other effect leaves it where it stands
  effect_covered : (deed : Deed) (rest : List Item) (temps : List ℕ) (c d : Config) → c.temps ≡ temps
      → Begun deed rest temps c → AreRests x d → Covered x P entry args c → Effect x deed rest c d
      → Covered x P entry args d
  effect_covered deed rest temps c d same b rests covered (Goes e todo ts on) = record {
    here = goes_known x kept P closed entry args rest c deed todo ts b.stands b.after (here_now deed rest temps c same b) b.answers rests.here on;
    answers = λ m p k retrieves head lt. absurd (no_retrieve x.signals todo m (goes_paired x kept rest c deed todo ts b.stands.0 b.after on) retrieves);
    waiting = covered.waiting;
  }
  effect_covered deed rest temps c d same b rests covered _ = record { here = covered.here; answers = covered.answers; waiting = covered.waiting }

  effects_covered : (deed : Deed) (rest : List Item) (temps : List ℕ) (c d : Config) → Begun deed rest temps c
      → Covered x P entry args c → Effects x deed rest temps c d → d.over ≡ None → Covered x P entry args d
  effects_covered deed rest temps c d b covered (Done e) going = covered
  effects_covered deed rest temps c d b covered (Then e m f same effect more) going =
      let rests : AreRests x m = (rests_kept x).effect deed rest c m b.stands b.rests effect in
      effects_covered deed rest temps m d (begun_after deed rest temps c m rests effect b)
      (effect_covered deed rest temps c m same b rests covered effect) more going
  effects_covered deed rest temps c d b covered (Last e f same leave) going =
      leave_covered deed rest c d b.stands (here_now deed rest temps c same b) b.rests b.waits covered.waiting leave going

  ends_over : (ks : List Caller) (c : Config) → (ends ks c).over ≡ None → ⊥
  ends_over [] c over = cc
  ends_over (k ∷ ks) c over = cc

  step_covered : (c d : Config) → Sound x c → Covered x P entry args c → Step x c d → d.over ≡ None → Covered x P entry args d
  step_covered c d sound covered (NothingLeft none) going = absurd (ends_over c.callers c going)
  step_covered c d sound covered (CountFull i rest is full) going = absurd (let over = going in cc)
  step_covered c d sound covered (Counts i rest e is room effects) going =
      effects_covered (deed_of i) rest c.temps (with_counted i c) d (begun_at c sound covered i rest is)
      (record { here = covered.here; answers = covered.answers; waiting = covered.waiting }) effects going

module _ (x : Exchange) (kept : IsExchange x) (P : Facts) (closed : IsClosed x P) (start : JobStart) (store : List ℕ)
    (job : IsJob x start.job) (fits : StoreFits x store) where
  sound_after : (n : ℕ) → Sound x (after_steps n x (begins x start store))
  sound_after n = record {
    rests = steps_rest x start store n;
    temporaries = steps_have x n start store;
    small = (steps_in_range x kept n start store job fits).temps;
    pairs = steps_pair x kept n start store;
    waits = steps_wait x kept n start store;
  }

  first_covered : Covered x P start.job.entry start.job.values (after_steps 0 x (begins x start store))
  unfolding after_steps
  first_covered = start_covered x kept P closed start store job

  pub steps_covered : (n : ℕ) → (after_steps n x (begins x start store)).over ≡ None
      → Covered x P start.job.entry start.job.values (after_steps n x (begins x start store))
  steps_covered zero going = first_covered
  steps_covered (suc n) going =
      ⊎_elim
      (λ same. subst (Covered x P start.job.entry start.job.values) (sym same) (steps_covered n (ap (λ (c : Config). c.over) (sym same) ∙ going)))
      (λ made.
      let c = after_steps n x (begins x start store) in
      subst (Covered x P start.job.entry start.job.values) (sym made.1)
      (step_covered x kept P closed start.job.entry start.job.values c (step x c) (sound_after n)
      (steps_covered n made.0) (every_step x c) (ap (λ (c : Config). c.over) (sym made.1) ∙ going)))
      (last_step n x (begins x start store))

  pub steps_known : (n : ℕ) → (after_steps n x (begins x start store)).over ≡ None → (i : Item) (rest : List Item)
      → next_counted (after_steps n x (begins x start store)).todo ≡ i ∷ rest
      → KnownNext x P start.job.entry start.job.values (after_steps n x (begins x start store)) i
  steps_known n going i rest is = known_next x kept P closed start.job.entry start.job.values
      (after_steps n x (begins x start store)) (steps_rest x start store n) (steps_covered n going) i rest is
