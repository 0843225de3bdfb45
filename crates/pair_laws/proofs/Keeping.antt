-- A job keeps to the summary of its entry by facts that are closed, and one that passes with a
-- later one lets that one keep its turn.
use Rattle.std.proofs.Common.{◌≡◌, ◌≤◌, ℕ, true, List, [], ◌∷◌, Option, Some, None, refl, sym}
use Rattle.std.proofs.Common.{subst}
use Rattle.std.specs.List.{AllByRecursion, Contains}
use Rattle.plex_num.specs.declared.level.Level.{Level}
use Rattle.plex_num.specs.declared.level.Level.TheVariants.{A, B, C, D}
use Rattle.job_types.specs.declared.fault.Fault.{Fault}
use Rattle.job_types.specs.declared.job.JobStart.{JobStart}
use Rattle.job_types.specs.declared.outbox.Sent.{Sent}
use Rattle.job_types.specs.declared.outbox.SendTo.{SendTo}
use Rattle.job_types.specs.declared.outbox.SendTo.TheVariants.{Queue, Outside}
use Rattle.job_types.specs.declared.outcome.JobDone.{JobDone}
use Rattle.job_types.specs.declared.outcome.Outcome.{Outcome}
use Rattle.job_types.specs.declared.outcome.Outcome.TheVariants.{Ended, Faulted}
use Rattle.job_types.specs.Own.{outcome_of}
use Rattle.exchange_model.specs.declared.exchange.Exchange.{Exchange}
use Rattle.exchange_model.specs.Kept.{IsExchange}
use Rattle.source_meaning.specs.Job.{job}
use Rattle.source_meaning.specs.State.{State}
use Rattle.source_meaning.specs.Valid.{IsFitting, IsValid}
use Rattle.flow_points.specs.declared.fact.Fact.{Fact}
use Rattle.flow_points.specs.Facts.{IsClosed}
use Rattle.entry_summary.specs.declared.summary.Summary.{Summary}
use Rattle.entry_summary.specs.Orders.{level_number}
use Rattle.entry_summary.specs.Summaries.{IsSummary}
use Rattle.pair_tests.specs.Pairs.{Passes}
use Rattle.fault_laws.proofs.Faulting.{job_told}
use Rattle.permit_laws.specs.Permitted.{AreToLevels, IsToLevel}
use Rattle.permit_laws.proofs.Stepping.{job_stays}
use Rattle.order_laws.specs.Ends.{GoesBehind, LetsStay, Spares, rank}
use Rattle.order_laws.specs.Windows.{MakesWay, done_by}
use Rattle.pair_laws.specs.Orders.{KeepsTo}
use Rattle.pair_laws.specs.Pairs.{IsFaulted}
use Rattle.pair_laws.proofs.Beside.{is_in_forlopp, is_in_other, is_not_above}

-- the fault that ended a job
record IsOverBy (o : Option Outcome) : Type 0 where
  fault : Fault
  point : ℕ
  is : o ≡ Some (Faulted fault point)

over_by : (o : Option Outcome) → IsFaulted (outcome_of o) → IsOverBy o
over_by None faulted = absurd faulted
over_by (Some Ended) faulted = absurd faulted
over_by (Some (Faulted f point)) faulted = record { fault = f; point = point; is = refl }

module _ (x : Exchange) (facts : List Fact) (kept : IsExchange x) (closed : IsClosed x (Contains facts)) (s : State)
    (valid : IsValid x s) (m : Summary) (start : JobStart) (fits : IsFitting x s start)
    (told : IsSummary x (Contains facts) start.job.entry m) where
  pub may_fault : IsFaulted (done_by (job x start s.store)).outcome → m.fault ≡ true
  may_fault faulted =
      let o = over_by (job x start s.store).over faulted in
      told.fault.1 (job_told x kept (Contains facts) closed start s.store fits.job valid.store o.fault o.point o.is)

  pub keeps_to : KeepsTo x s m start
  keeps_to = record { touches = (job_stays x kept (Contains facts) closed m s valid start fits told).0; fault = may_fault }

-- both orders of levels are one
rank_is : (l : Level) → rank l ≡ level_number l
rank_is A = refl
rank_is B = refl
rank_is C = refl
rank_is D = refl

module _ (first later : Summary) (a b : JobStart) (own : later.level ≡ b.job.level) (passes : Passes first later a b) where
  goes_behind : (to : SendTo) → IsToLevel first to → GoesBehind b.job.level to
  goes_behind (Outside signal) at = tt
  goes_behind (Queue entry level fresh) at =
      subst (λ n. n ≤ rank level) (sym (rank_is b.job.level))
      (subst (λ n. level_number b.job.level ≤ n) (sym (rank_is level))
      (is_not_above first later a b own passes level at))

  all_behind : (sends : List Sent) → AreToLevels first sends → AllByRecursion (λ (m : Sent). GoesBehind b.job.level m.to) sends
  all_behind [] all = tt
  all_behind (m ∷ rest) all = (goes_behind m.to all.0, all_behind rest all.1)

  spares : (o : Outcome) → (IsFaulted o → first.fault ≡ true) → Spares b.job.forlopp a.job.forlopp o
  spares Ended may = tt
  spares (Faulted f point) may = (is_in_forlopp first later a b passes (may tt), is_in_other first later a b passes (may tt))

  -- a job that sends to these levels and faults only if it may
  pub lets_stay_so : (done : JobDone) → AreToLevels first done.sends → (IsFaulted done.outcome → first.fault ≡ true) → LetsStay a done b.job
  lets_stay_so done sends may = record { sends = all_behind done.sends sends; outcome = spares done.outcome may }

  module _ (x : Exchange) (facts : List Fact) (kept : IsExchange x) (closed : IsClosed x (Contains facts))
      (told : IsSummary x (Contains facts) a.job.entry first) where
    pub lets_stay : (s : State) → IsValid x s → IsFitting x s a → LetsStay a (done_by (job x a s.store)) b.job
    lets_stay s valid fits = lets_stay_so (done_by (job x a s.store))
        (job_stays x kept (Contains facts) closed first s valid a fits told).2
        (may_fault x facts kept closed s valid first a fits told)

    pub way_made : MakesWay x a b
    way_made = record { forlopps = passes.forlopps; stays = lets_stay }
