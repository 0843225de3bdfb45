-- Two jobs that pass by a certificate of an exchange.
use Rattle.std.proofs.Common.{◌≡◌, ◌↔◌, Bool, IsTrue, Some, slice_get}
use Rattle.std.specs.List.{Contains}
use Rattle.job_types.specs.declared.job.JobStart.{JobStart}
use Rattle.exchange_model.specs.declared.exchange.Exchange.{Exchange}
use Rattle.exchange_model.specs.Kept.{IsExchange}
use Rattle.source_meaning.specs.State.{State}
use Rattle.source_meaning.specs.Valid.{IsFitting, IsJob, IsValid}
use Rattle.entry_summary.specs.declared.summary.Summary.{Summary}
use Rattle.entry_summary.specs.Summaries.{IsSummary}
use Rattle.pair_tests.specs.Pairs.{Passes}
use Rattle.order_laws.specs.Windows.{MakesWay}
use Rattle.pair_laws.specs.Together.{RunTogether}
use Rattle.pair_laws.proofs.Joining.{make_way, run_together}
use Rattle.checked.specs.Kept.{IsChecked, KeptSummaries}
use Rattle.interference_check.specs.Pairs.{OfPair}

module _ (k : KeptSummaries) (one other : Summary) (a b : JobStart)
    (of_first : slice_get k.summaries a.job.entry ≡ Some one)
    (of_later : slice_get k.summaries b.job.entry ≡ Some other) (passes : Passes one other a b) (x : Exchange)
    (kept : IsExchange x) (checked : IsChecked x k) where
  first_told : IsSummary x (Contains checked.facts) a.job.entry one
  first_told = checked.by_facts.is a.job.entry one of_first

  later_told : IsSummary x (Contains checked.facts) b.job.entry other
  later_told = checked.by_facts.is b.job.entry other of_later

  pub runs : (s : State) → IsValid x s → IsFitting x s a → IsFitting x s b → OfPair k a.job.entry b.job.entry (λ s1 s2. RunTogether x s s1 s2 a b)
  runs s valid first_fits later_fits = record {
    one = one;
    other = other;
    of_first = of_first;
    of_later = of_later;
    holds = run_together x checked.facts s one other a b checked.closed (record {
      exchange = kept;
      state = valid;
      first_fits = first_fits;
      later_fits = later_fits;
      first_told = first_told;
      later_told = later_told;
      passes = passes;
    });
  }

  pub makes : IsJob x b.job → MakesWay x a b
  makes is_job = make_way x checked.facts one other a b kept checked.closed first_told later_told is_job passes

-- the same, where a test tells whether they pass

pub told_together : (k : KeptSummaries) (a b : JobStart) (r : Bool)
    → OfPair k a.job.entry b.job.entry (λ s t. IsTrue r ↔ Passes s t a b) → IsTrue r → (x : Exchange) (s : State)
    → IsExchange x → IsChecked x k → IsValid x s → IsFitting x s a → IsFitting x s b
    → OfPair k a.job.entry b.job.entry (λ one other. RunTogether x s one other a b)
told_together k a b r p told x s kept checked valid first_fits later_fits = runs k p.one p.other a b p.of_first
    p.of_later (p.holds.0 told) x kept checked s valid first_fits later_fits

pub told_way : (k : KeptSummaries) (a b : JobStart) (r : Bool) → OfPair k a.job.entry b.job.entry (λ s t. IsTrue r ↔ Passes s t a b) → IsTrue r → (x : Exchange)
    → IsExchange x → IsChecked x k → IsJob x b.job → MakesWay x a b
told_way k a b r p told x kept checked is_job = makes k p.one p.other a b p.of_first p.of_later (p.holds.0 told) x kept checked is_job
