-- A job stays within its permit.
use Rattle.std.proofs.Common.{◌≡◌, ◌↔◌, ℕ, true, List, [], ◌∷◌, Some, Result, Ok, Err, IfOk}
use Rattle.std.proofs.Common.{slice_get, subst}
use Rattle.plex_num.specs.declared.seq.Memory.{Memory}
use Rattle.std.specs.List.{AllByRecursion, Contains}
use Rattle.job_types.specs.declared.job.JobStart.{JobStart}
use Rattle.job_types.specs.declared.touch.Touch.{Touch}
use Rattle.job_types.specs.declared.touch.Touch.TheVariants.{Load, Store}
use Rattle.job_types.specs.Forlopps.{ChainMap}
use Rattle.machine_code.specs.declared.permit.Permit.{Permit}
use Rattle.machine_code.specs.Permits.{may_read, may_write}
use Rattle.exchange_model.specs.declared.exchange.Exchange.{Exchange}
use Rattle.exchange_model.specs.Kept.{IsExchange}
use Rattle.source_meaning.specs.State.{State}
use Rattle.source_meaning.specs.Traces.{trace_of}
use Rattle.source_meaning.specs.Valid.{IsFitting, IsValid}
use Rattle.entry_summary.specs.declared.summary.Summary.{Summary}
use Rattle.entry_summary.specs.Summaries.{IsSummary}
use Rattle.start_permit.specs.Granted.{MayRead, MayWrite}
use Rattle.permit_laws.specs.Permitted.{ArePermitted}
use Rattle.permit_laws.proofs.Stepping.{job_stays}
use Rattle.pair_laws.proofs.Keeping.{may_fault}
use Rattle.machine_meaning.specs.Faithful.{MayMake}
use Rattle.checked.specs.Kept.{IsChecked, KeptSummaries}
use Rattle.interference_check.specs.Permits.{IsPermitOf, OfEntry, StaysWithin}

module _ (x : Exchange) (m : Summary) (start : JobStart) (chains : ChainMap) (permit : Permit) (is : IsPermitOf x m start chains permit) where
  all_made : (ts : List Touch) → ArePermitted x m start chains ts → AllByRecursion (MayMake (may_read permit) (may_write permit)) ts
  all_made [] all = tt
  all_made (Load w v ∷ ts) all = ((is.reads w).1 all.0, all_made ts all.1)
  all_made (Store w v ∷ ts) all = ((is.writes w).1 all.0, all_made ts all.1)

  pub stays_within : (k : KeptSummaries) → slice_get k.summaries start.job.entry ≡ Some m → IsExchange x → IsChecked x k
      → (s : State) → IsValid x s → IsFitting x s start → s.chains ≡ chains
      → OfEntry k start.job.entry (λ n. StaysWithin x n permit start s.store)
  stays_within k there kept checked s valid fits same =
      let told : IsSummary x (Contains checked.facts) start.job.entry m = checked.by_facts.is start.job.entry m there in
      let stays = job_stays x kept (Contains checked.facts) checked.closed m s valid start fits told in
      let permitted : ArePermitted x m start chains (trace_of x start s.store) = subst
      (λ (c : ChainMap). ArePermitted x m start c (trace_of x start s.store)) same stays.0 in
      record {
        summary = m;
        there = there;
        holds = record {
          touches = all_made (trace_of x start s.store) permitted;
          levels = stays.2;
          fault = may_fault x checked.facts kept checked.closed s valid m start fits told;
        };
      }

-- so it is of the permit, if it comes
pub all_stay : (x : Exchange) → IsExchange x → (k : KeptSummaries) (m : Summary) (start : JobStart) (chains : ChainMap)
    → slice_get k.summaries start.job.entry ≡ Some m → (r : Result Permit Memory)
    → IfOk r (λ permit. (word : ℕ) → (may_read permit word ≡ true) ↔ MayRead x m start chains word)
    → IfOk r (λ permit. (word : ℕ) → (may_write permit word ≡ true) ↔ MayWrite x m start chains word)
    → IfOk r (λ permit. (s : State) → IsChecked x k → IsValid x s → IsFitting x s start → s.chains ≡ chains
    → OfEntry k start.job.entry (λ n. StaysWithin x n permit start s.store))
all_stay x kept k m start chains there (Ok permit) reads writes = λ s checked valid fits same. stays_within x m start
    chains permit (record { reads = reads; writes = writes }) k there kept checked s valid fits same
all_stay x kept k m start chains there (Err e) reads writes = tt

-- it has just these words, if it comes
pub all_exact : (x : Exchange) (k : KeptSummaries) (m : Summary) (start : JobStart) (chains : ChainMap)
    → slice_get k.summaries start.job.entry ≡ Some m → (r : Result Permit Memory)
    → IfOk r (λ permit. (word : ℕ) → (may_read permit word ≡ true) ↔ MayRead x m start chains word)
    → IfOk r (λ permit. (word : ℕ) → (may_write permit word ≡ true) ↔ MayWrite x m start chains word)
    → IfOk r (λ permit. OfEntry k start.job.entry (λ n. IsPermitOf x n start chains permit))
all_exact x k m start chains there (Ok permit) reads writes = record { summary = m; there = there; holds = record { reads = reads; writes = writes } }
all_exact x k m start chains there (Err e) reads writes = tt
