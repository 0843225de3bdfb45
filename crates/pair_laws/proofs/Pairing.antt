-- Two jobs that may run at once may do so still where an older one has retired.
use Rattle.std.proofs.Common.{List, refl}
use Rattle.job_types.specs.declared.job.JobStart.{JobStart}
use Rattle.exchange_model.specs.declared.exchange.Exchange.{Exchange}
use Rattle.source_meaning.specs.Job.{job}
use Rattle.source_meaning.specs.SingleRun.{begun, ended_as}
use Rattle.source_meaning.specs.State.{State}
use Rattle.source_meaning.specs.Valid.{IsFitting}
use Rattle.source_meaning.proofs.Retiring.{begun_valid, fits_begun, retires_valid}
use Rattle.flow_points.specs.declared.fact.Fact.{Fact}
use Rattle.entry_summary.specs.declared.summary.Summary.{Summary}
use Rattle.order_laws.specs.Windows.{done_by}
use Rattle.pair_laws.specs.Orders.{KeepsTo}
use Rattle.pair_laws.specs.Pairs.{MayRunAtOnce}
use Rattle.pair_laws.proofs.Apart.{start_fits}
use Rattle.pair_laws.proofs.Leaving.{job_leaves}

-- the later one's start fits after the turn of the first
turn_fits : (x : Exchange) (facts : List Fact) (s : State) (first later : Summary) (a b : JobStart)
    → MayRunAtOnce x facts s first later a b → KeepsTo x s first a
    → IsFitting x (ended_as x a (job x a s.store) (begun s)) b
turn_fits x facts s first later a b h k =
    start_fits x facts s first later a b (done_by (job x a s.store)) h (job_leaves x facts s first a h.exchange h.state h.first_fits h.first_told k)
    (record (begun s) { store = (job x a s.store).world.store }) refl refl refl

pub pair_stays : (x : Exchange) (facts : List Fact) (s : State) (first second third : Summary) (a b c : JobStart)
    → MayRunAtOnce x facts s first second a b → MayRunAtOnce x facts s first third a c
    → MayRunAtOnce x facts s second third b c → KeepsTo x s first a
    → MayRunAtOnce x facts (ended_as x a (job x a s.store) (begun s)) second third b c
pair_stays x facts s first second third a b c g h pair k =
    record {
      exchange = pair.exchange;
      state = retires_valid x g.exchange (begun s) (begun_valid x s g.state) a (fits_begun x s a g.first_fits);
      first_fits = turn_fits x facts s first second a b g k;
      later_fits = turn_fits x facts s first third a c h k;
      first_told = pair.first_told;
      later_told = pair.later_told;
      passes = pair.passes;
    }
