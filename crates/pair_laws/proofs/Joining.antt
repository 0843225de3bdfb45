-- Two jobs that pass, by facts that are closed, run at once.
use Rattle.std.proofs.Common.{List, refl, sym, ◌∙◌}
use Rattle.std.specs.List.{Contains}
use Rattle.job_types.specs.declared.job.JobStart.{JobStart}
use Rattle.job_types.specs.declared.outcome.JobDone.{JobDone}
use Rattle.job_types.specs.declared.touch.Touch.{Touch}
use Rattle.exchange_model.specs.declared.exchange.Exchange.{Exchange}
use Rattle.exchange_model.specs.Kept.{IsExchange}
use Rattle.source_meaning.specs.Job.{job}
use Rattle.source_meaning.specs.State.{State}
use Rattle.source_meaning.specs.Traces.{store_after, trace_of}
use Rattle.source_meaning.specs.Valid.{IsJob}
use Rattle.flow_points.specs.declared.fact.Fact.{Fact}
use Rattle.flow_points.specs.Facts.{IsClosed}
use Rattle.entry_summary.specs.declared.summary.Summary.{Summary}
use Rattle.entry_summary.specs.Summaries.{IsSummary}
use Rattle.pair_tests.specs.Pairs.{Passes}
use Rattle.order_laws.specs.Windows.{MakesWay, done_by}
use Rattle.pair_laws.specs.Orders.{KeepsTo}
use Rattle.pair_laws.specs.Pairs.{IsDoneBy, MayRunAtOnce}
use Rattle.pair_laws.specs.Together.{AreIndependent, HaveOwnWords, RetiresAside, RunTogether}
use Rattle.pair_laws.specs.Together.{StartsAlike}
use Rattle.pair_laws.proofs.Apart.{first_alone, later_alone, reads_apart, retired_store}
use Rattle.pair_laws.proofs.Apart.{retirement_apart, start_fits, writes_apart}
use Rattle.pair_laws.proofs.Keeping.{keeps_to, lets_stay, way_made}
use Rattle.pair_laws.proofs.Leaving.{job_leaves}
use Rattle.pair_laws.proofs.Ordering.{orders_same, reads_same, writes_same}

module _ (x : Exchange) (facts : List Fact) (s : State) (first later : Summary) (a b : JobStart)
    (closed : IsClosed x (Contains facts)) (h : MayRunAtOnce x facts s first later a b) where
  first_keeps : KeepsTo x s first a
  first_keeps = keeps_to x facts h.exchange closed s h.state first a h.first_fits h.first_told

  later_keeps : KeepsTo x s later b
  later_keeps = keeps_to x facts h.exchange closed s h.state later b h.later_fits h.later_told

  abbrev done : JobDone
  done = done_by (job x a s.store)

  left : IsDoneBy x first a s.chains done
  left = job_leaves x facts s first a h.exchange h.state h.first_fits h.first_told first_keeps

  -- the state in which the first retires
  abbrev at_end : State
  at_end = record s { store = store_after x a s.store }

  abbrev ts : List Touch
  ts = trace_of x a s.store

  abbrev us : List Touch
  us = trace_of x b s.store

  independent : AreIndependent x s a b
  independent = record {
    by_first = first_alone x facts s first later a b h ts us first_keeps.touches later_keeps.touches;
    by_later = later_alone x facts s first later a b h ts us first_keeps.touches later_keeps.touches;
  }

  own_words : HaveOwnWords x s first later a b
  own_words = record {
    first_writes = λ w p q. writes_apart x facts s first later a b h w p q;
    later_writes = λ w p q. reads_apart x facts s first later a b h w p q;
  }

  retires_aside : RetiresAside x s later a b
  retires_aside = record {
    words = retired_store x facts s first later a b done h left at_end;
    aside = λ w reads. retirement_apart x facts s first later a b done h left w reads;
  }

  starts_alike : StartsAlike x s later a b
  starts_alike = record {
    fits = start_fits x facts s first later a b done h left at_end refl refl refl;
    reads = λ w. reads_same x facts s first later a b h first_keeps w;
    writes = λ w. writes_same x facts s first later a b h first_keeps w;
  }

  pub run_together : RunTogether x s first later a b
  run_together = record {
    independent = independent;
    permits = own_words;
    stays = lets_stay first later a b (h.later_told.level ∙ sym h.later_fits.job.level) h.passes x facts h.exchange closed h.first_told s h.state h.first_fits;
    retires = retires_aside;
    starts = starts_alike;
    orders = orders_same x facts s first later a b h first_keeps later_keeps;
  }

pub make_way : (x : Exchange) (facts : List Fact) (first later : Summary) (a b : JobStart) → IsExchange x
    → IsClosed x (Contains facts) → IsSummary x (Contains facts) a.job.entry first
    → IsSummary x (Contains facts) b.job.entry later → IsJob x b.job → Passes first later a b
    → MakesWay x a b
make_way x facts first later a b kept closed told other is_job passes =
    way_made first later a b (other.level ∙ sym is_job.level) passes x facts kept closed told
