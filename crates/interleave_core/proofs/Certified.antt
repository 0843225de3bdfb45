-- What a certificate of the exchange gives for each two jobs that pass by it.
use Rattle.job_types.specs.declared.job.JobStart.{JobStart}
use Rattle.exchange_model.specs.declared.exchange.Exchange.{Exchange}
use Rattle.exchange_model.specs.Kept.{IsExchange}
use Rattle.source_meaning.specs.State.{State}
use Rattle.source_meaning.specs.Traces.{trace_of}
use Rattle.source_meaning.specs.Valid.{IsFitting, IsValid}
use Rattle.pair_laws.specs.Pairs.{MayRunAtOnce}
use Rattle.pair_laws.proofs.Joining.{run_together}
use Rattle.pair_laws.proofs.Keeping.{keeps_to}
use Rattle.pair_laws.proofs.Touching.{touched_read}
use Rattle.checked.specs.Kept.{IsChecked, KeptSummaries}
use Rattle.interference_check.proofs.Following.{makes}
use Rattle.interleave_core.specs.Allowed.{MayFollow}
use Rattle.interleave_core.proofs.Joining.{PairGives, PairsGive}

module _ (x : Exchange) (kept : IsExchange x) (facts : KeptSummaries) (checked : IsChecked x facts) (a b : JobStart) (p : MayFollow facts a b) where
  pair_gives : (s : State) → IsValid x s → IsFitting x s a → IsFitting x s b → PairGives x s a b
  pair_gives s v first_fits later_fits =
      let told = checked.by_facts.is b.job.entry p.other p.of_later in
      let both : MayRunAtOnce x checked.facts s p.one p.other a b = record {
        exchange = kept;
        state = v;
        first_fits = first_fits;
        later_fits = later_fits;
        first_told = checked.by_facts.is a.job.entry p.one p.of_first;
        later_told = told;
        passes = p.holds;
      } in
      let together = run_together x checked.facts s p.one p.other a b checked.closed both in
      let keeps = keeps_to x checked.facts kept checked.closed s v p.other b later_fits told in
      record {
        apart = record { first_alone = together.independent.by_first; later_alone = together.independent.by_later };
        released = λ w at. together.retires.aside w (touched_read x p.other b s.chains (trace_of x b s.store) w keeps.touches at);
      }

pub pairs_give : (x : Exchange) (facts : KeptSummaries) → IsExchange x → IsChecked x facts → PairsGive x (MayFollow facts)
pairs_give x facts kept checked = record {
  way = λ a b is_job p. makes facts p.one p.other a b p.of_first p.of_later p.holds x kept checked is_job;
  gives = λ a b p s v first_fits later_fits. pair_gives x kept facts checked a b p s v first_fits later_fits;
}
