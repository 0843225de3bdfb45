-- Two jobs that pass but for additions, to where the first has retired.
use Rattle.std.proofs.Common.{◌≡◌, ℕ, ⊎_elim, List, refl, sym, ap, ◌∙◌, subst}
use Rattle.std.specs.List.{AllByRecursion, Contains}
use Rattle.job_types.specs.declared.job.JobStart.{JobStart}
use Rattle.job_types.specs.declared.outcome.JobDone.{JobDone}
use Rattle.job_types.specs.declared.touch.Touch.{Touch}
use Rattle.job_types.specs.Forlopps.{ChainMap}
use Rattle.job_types.specs.Touches.{NoStore}
use Rattle.exchange_model.specs.declared.exchange.Exchange.{Exchange}
use Rattle.source_meaning.specs.Job.{job}
use Rattle.source_meaning.specs.Retirement.{retires}
use Rattle.source_meaning.specs.State.{State}
use Rattle.source_meaning.specs.Traces.{store_after, trace_of}
use Rattle.source_meaning.specs.Valid.{StoreFits}
use Rattle.source_meaning.proofs.Retiring.{retires_valid}
use Rattle.flow_points.specs.declared.fact.Fact.{Fact}
use Rattle.flow_points.specs.Facts.{IsClosed}
use Rattle.entry_summary.specs.declared.summary.Access.TheVariants.{Frees, Seizes}
use Rattle.entry_summary.specs.declared.summary.Summary.{Summary}
use Rattle.start_permit.specs.Granted.{IsFree, MayRead}
use Rattle.order_laws.specs.Windows.{done_by}
use Rattle.pair_laws.specs.Orders.{KeepsTo, after_job, retirement_touches, with_words_of}
use Rattle.pair_laws.specs.Pairs.{IsDoneBy, LeavesChains}
use Rattle.pair_laws.specs.Together.{StartsAlike}
use Rattle.pair_laws.proofs.Keeping.{keeps_to}
use Rattle.pair_laws.proofs.Leaving.{job_leaves}
use Rattle.pair_laws.proofs.Living.{start_fits}
use Rattle.pair_laws.proofs.Retiring.{chains_left}
use Rattle.pair_laws.proofs.Staying.{free_after, free_before, one_same, read_same}
use Rattle.pair_laws.proofs.Storing.{retired_store, retirement_apart}
use Rattle.pair_laws.proofs.Touching.{no_store_append, not_stored, touched_read}
use Rattle.additions_meaning.specs.Additions.{IsAddedWord}
use Rattle.addition_laws.specs.Either.{AreApartBut, IsOutside, IsSameRun, SameInEitherOrder}
use Rattle.addition_laws.specs.Either.{left_by}
use Rattle.addition_laws.specs.Together.{AreIndependentBut, MayAddAtOnce, RunTogetherAdding}
use Rattle.addition_laws.specs.Together.{SameOrdersAdding}
use Rattle.addition_laws.proofs.Amounting.{no_store}
use Rattle.addition_laws.proofs.Ordering.{either_order}
use Rattle.addition_laws.proofs.Passing.{beside, shares, stays_adding}
use Rattle.addition_laws.proofs.Retiring.{retirement_out}
use Rattle.addition_laws.proofs.Sparing.{held, reads_spared, stands}

module _ (x : Exchange) (facts : List Fact) (s : State) (first later : Summary) (a b : JobStart)
    (closed : IsClosed x (Contains facts)) (h : MayAddAtOnce x facts s first later a b) where
  abbrev one : Summary
  one = h.passes.one

  abbrev other : Summary
  other = h.passes.other

  abbrev Added : ℕ → Type 0
  Added w = IsAddedWord x h.passes.shared w

  abbrev done : JobDone
  done = done_by (job x a s.store)

  abbrev endings : List Touch
  endings = retirement_touches x done

  abbrev ts : List Touch
  ts = trace_of x a s.store

  abbrev us : List Touch
  us = trace_of x b s.store

  -- the state in which the first retires
  abbrev at_end : State
  at_end = record s { store = store_after x a s.store }

  first_keeps : KeepsTo x s first a
  first_keeps = keeps_to x facts h.exchange closed s h.state first a h.first_fits h.first_told

  later_keeps : KeepsTo x s later b
  later_keeps = keeps_to x facts h.exchange closed s h.state later b h.later_fits h.later_told

  left : IsDoneBy x first a s.chains done
  left = job_leaves x facts s first a h.exchange h.state h.first_fits h.first_told first_keeps

  -- what it leaves, by the summary without additions
  left_so : IsDoneBy x one a s.chains done
  left_so = record {
    records = left.records;
    held = λ file number at. held x h.passes.shared first one h.passes.of_first a s.chains file number (left.held file number at);
    let_go = λ file number at gone. stands x h.passes.shared first one h.passes.of_first (Frees file) (left.let_go file number at gone) (λ none. none);
    fault = λ faulted. h.passes.of_first.fault ∙ left.fault faulted;
  }

  -- its retirement

  words_retired : (after_job x a s).store ≡ left_by x a endings s.store
  words_retired = retired_store x s one other a b done (beside x facts s first later a b h) left_so at_end

  outside : AllByRecursion (IsOutside Added) endings
  outside = retirement_out x h.passes.shared (λ n there. (h.passes.first_only.fields n there).plain) done left.records

  aside : (w : ℕ) → MayRead x later b s.chains w → NoStore w endings
  aside w reads = ⊎_elim (λ added. no_store Added endings w outside added)
      (λ still. retirement_apart x s one other a b done (beside x facts s first later a b h) left_so w still)
      (reads_spared x h.passes.shared later other h.passes.of_later b s.chains w reads)

  independent : AreIndependentBut x Added s a b
  independent = record {
    by_first = λ w not at. not_stored x first a s.chains ts w first_keeps.touches
        (λ writes. not ((shares x facts s first later a b h).first_writes w writes
        (touched_read x later b s.chains us w later_keeps.touches at)));
    by_later = λ w not at. not_stored x later b s.chains us w later_keeps.touches
        (λ writes. not ((shares x facts s first later a b h).later_writes w
        (touched_read x first a s.chains ts w first_keeps.touches at) writes));
  }

  apart : AreApartBut x Added s.store a b endings
  apart = record {
    first = λ w not at. no_store_append w ts endings (independent.by_first w not at) (aside w (touched_read x later b s.chains us w later_keeps.touches at));
    later = independent.by_later;
    outside = outside;
    fits = subst (StoreFits x) words_retired (retires_valid x h.exchange s h.state a h.first_fits).store;
  }

  -- both orders

  either : SameInEitherOrder x s.store a b endings
  either = either_order x h.exchange (Contains facts) closed h.passes.shared s.store h.state.store a b endings
      h.first_fits.job h.later_fits.job h.passes.first_only h.passes.later_only apart

  again_retired : (after_job x a (with_words_of x b s)).store ≡ left_by x a endings (store_after x b s.store)
  again_retired =
      let words : List ℕ = store_after x b s.store in
      let again : State = record s { store = store_after x a words } in
      let same : done_by (job x a words) ≡ done = ap done_by either.first in
      ap (λ (d : JobDone). (retires x a d again).store) same ∙ retired_store x s one other a b done (beside x facts s first later a b h) left_so again

  orders : SameOrdersAdding x s a b
  orders = record {
    later = subst (λ ws. IsSameRun (job x b s.store) (job x b ws)) (sym words_retired) either.later;
    first = either.first;
    words = ap (store_after x b) words_retired ∙ either.words ∙ sym again_retired;
  }

  -- the start of the later one

  abbrev chains : ChainMap
  chains = (after_job x a s).chains

  leaves : LeavesChains one a s.chains chains
  leaves = chains_left x s one other a b done (beside x facts s first later a b h) left_so at_end refl

  seizes_so : (file : ℕ) → Contains later.accesses (Seizes file) → Contains other.accesses (Seizes file)
  seizes_so file there = stands x h.passes.shared later other h.passes.of_later (Seizes file) there (λ none. none)

  still_free : (file number : ℕ) → Contains later.accesses (Seizes file) → IsFree s.chains file number → IsFree chains file number
  still_free file number there = free_after x s one other a b chains (beside x facts s first later a b h) leaves file number (seizes_so file there)

  was_free : (file number : ℕ) → Contains later.accesses (Seizes file) → IsFree chains file number → IsFree s.chains file number
  was_free file number there = free_before x s one other a b chains (beside x facts s first later a b h) leaves file number (seizes_so file there)

  starts : StartsAlike x s later a b
  starts = record {
    fits = start_fits x s one other a b done (beside x facts s first later a b h) left_so at_end refl refl refl;
    reads = λ w. (read_same x later.accesses b s.chains chains still_free w, read_same x later.accesses b chains s.chains was_free w);
    writes = λ w. (one_same x later.accesses b s.chains chains still_free _ w, one_same x later.accesses b chains s.chains was_free _ w);
  }

  pub run_together_adding : RunTogetherAdding x Added s first later a b
  run_together_adding = record {
    independent = independent;
    permits = shares x facts s first later a b h;
    stays = stays_adding x facts h.exchange closed first later a b h.first_told h.later_told h.later_fits.job h.passes s h.state h.first_fits;
    retires = record { words = words_retired; aside = aside };
    starts = starts;
    orders = orders;
  }
