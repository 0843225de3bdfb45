-- Two jobs that keep to their summaries, in both orders.
use Rattle.std.proofs.Common.{◌≡◌, ℕ, List, ◌++◌, refl, sym, ap, ◌∙◌, subst}
use Rattle.std.specs.Prelude.{◌↔◌}
use Rattle.job_types.specs.declared.job.JobStart.{JobStart}
use Rattle.job_types.specs.declared.outcome.JobDone.{JobDone}
use Rattle.job_types.specs.declared.touch.Touch.{Touch}
use Rattle.job_types.specs.Touches.{stored}
use Rattle.job_types.proofs.Touched.{stored-append}
use Rattle.exchange_model.specs.declared.exchange.Exchange.{Exchange}
use Rattle.source_meaning.specs.Config.{Config}
use Rattle.source_meaning.specs.Job.{job}
use Rattle.source_meaning.specs.State.{State}
use Rattle.source_meaning.specs.Retirement.{retires}
use Rattle.source_meaning.specs.SingleRun.{ended_as}
use Rattle.source_meaning.specs.Traces.{LeavesAlone, over_words, store_after, trace_of}
use Rattle.source_meaning.proofs.Agreeing.{job_after}
use Rattle.source_meaning.proofs.Growing.{job_store}
use Rattle.flow_points.specs.declared.fact.Fact.{Fact}
use Rattle.entry_summary.specs.declared.summary.Summary.{Summary}
use Rattle.start_permit.specs.Granted.{MayRead, MayWrite}
use Rattle.order_laws.specs.Windows.{done_by}
use Rattle.pair_laws.specs.Orders.{KeepsTo, SameOrders, after_job, retirement_touches}
use Rattle.pair_laws.specs.Orders.{with_words_of}
use Rattle.pair_laws.specs.Pairs.{IsDoneBy, LeavesChains, MayRunAtOnce}
use Rattle.pair_laws.proofs.Apart.{chains_left, first_alone, later_alone, reads_stay, retired_store}
use Rattle.pair_laws.proofs.Apart.{retirement_apart, writes_stay}
use Rattle.pair_laws.proofs.Leaving.{job_leaves}
use Rattle.pair_laws.proofs.Touching.{lists_past, no_store_append, touched_read}

module _ (x : Exchange) (facts : List Fact) (s : State) (first later : Summary) (a b : JobStart)
    (h : MayRunAtOnce x facts s first later a b) (k : KeepsTo x s first a) where
  abbrev done : JobDone
  done = done_by (job x a s.store)

  left : IsDoneBy x first a s.chains done
  left = job_leaves x facts s first a h.exchange h.state h.first_fits h.first_told k

  -- the later one may touch the same words before and after
  chains_leave : LeavesChains first a s.chains (after_job x a s).chains
  chains_leave = chains_left x facts s first later a b done h left (record s { store = (job x a s.store).world.store }) refl

  pub reads_same : (w : ℕ) → MayRead x later b s.chains w ↔ MayRead x later b (after_job x a s).chains w
  reads_same w = reads_stay x facts s first later a b (after_job x a s).chains h chains_leave w

  pub writes_same : (w : ℕ) → MayWrite x later b s.chains w ↔ MayWrite x later b (after_job x a s).chains w
  writes_same w = writes_stay x facts s first later a b (after_job x a s).chains h chains_leave w

  module _ (l : KeepsTo x s later b) where
    -- the touches of the first and of its retirement leave those of the later one alone
    all_alone : LeavesAlone (trace_of x a s.store ++ retirement_touches x done) (trace_of x b s.store)
    all_alone w at =
        no_store_append w (trace_of x a s.store) (retirement_touches x done)
        (first_alone x facts s first later a b h (trace_of x a s.store) (trace_of x b s.store) k.touches l.touches w at)
        (retirement_apart x facts s first later a b done h left w (touched_read x later b s.chains (trace_of x b s.store) w l.touches at))

    -- where it has run over some words, which it leaves with its touches, and has retired
    retired_words : (t : State) (end : Config) (words : List ℕ) → done_by end ≡ done → end.world.store ≡ stored words (trace_of x a s.store)
        → (ended_as x a end t).store ≡ stored words (trace_of x a s.store ++ retirement_touches x done)
    retired_words t end words same found =
        ap (λ (d : JobDone). (retires x a d (record t { store = end.world.store })).store) same
        ∙ retired_store x facts s first later a b done h left (record t { store = end.world.store })
        ∙ ap (λ ws. stored ws (retirement_touches x done)) found
        ∙ sym (stored-append (trace_of x a s.store) (retirement_touches x done) words)

    words_retired : (after_job x a s).store ≡ stored s.store (trace_of x a s.store ++ retirement_touches x done)
    words_retired = retired_words s (job x a s.store) s.store refl (job_store x a s.store)

    later_same : job x b (after_job x a s).store ≡ over_words (after_job x a s).store (job x b s.store)
    later_same =
        subst (λ ws. job x b ws ≡ over_words ws (job x b s.store)) (sym words_retired)
        (job_after x b s.store (trace_of x a s.store ++ retirement_touches x done) all_alone)

    first_same : job x a (store_after x b s.store) ≡ over_words (store_after x b s.store) (job x a s.store)
    first_same =
        subst (λ ws. job x a ws ≡ over_words ws (job x a s.store)) (sym (job_store x b s.store))
        (job_after x a s.store (trace_of x b s.store)
        (later_alone x facts s first later a b h (trace_of x a s.store) (trace_of x b s.store) k.touches l.touches))

    words_same : store_after x b (after_job x a s).store ≡ (after_job x a (with_words_of x b s)).store
    words_same =
        let ts : List Touch = trace_of x a s.store ++ retirement_touches x done in
        let us : List Touch = trace_of x b s.store in
        let words : List ℕ = store_after x b s.store in
        let found : (job x a words).world.store ≡ stored (stored s.store us) (trace_of x a s.store) =
        ap (λ (c : Config). c.world.store) first_same ∙ ap (λ ws. stored ws (trace_of x a s.store)) (job_store x b s.store) in
        ap (λ (c : Config). c.world.store) later_same
        ∙ ap (λ ws. stored ws us) words_retired
        ∙ sym (lists_past us ts s.store all_alone)
        ∙ sym (retired_words (with_words_of x b s) (job x a words) (stored s.store us) (ap done_by first_same) found)

    pub orders_same : SameOrders x s a b
    orders_same = record { later = later_same; first = first_same; words = words_same }
