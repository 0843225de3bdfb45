-- What the kept summaries imply for two jobs in one state, and for the later one after the first
-- one has retired.
use Rattle.std.proofs.Common.{◌≡◌, ℕ, zero, suc, ◌+◌, true, List, [], ◌∷◌, ◌++◌, refl, sym, ap, ◌∙◌}
use Rattle.std.proofs.Common.{subst}
use Rattle.std.proofs.lemmas.Option.{same_Some}
use Rattle.std.specs.List.{AllByRecursion}
use Rattle.std.proofs.lemmas.Bool.{false_from_ne_true}
use Rattle.interleave_core.specs.Allowed.{MayFollow}
use Rattle.pair_tests.specs.Pairs.{Passes}
use Rattle.job_types.specs.declared.job.JobStart.{JobStart}
use Rattle.job_types.specs.declared.outcome.JobDone.{JobDone}
use Rattle.job_types.specs.declared.outcome.Outcome.{Outcome}
use Rattle.job_types.specs.declared.outcome.Outcome.TheVariants.{Ended, Faulted}
use Rattle.job_types.specs.declared.touch.Touch.{Touch}
use Rattle.job_types.specs.Own.{untouched}
use Rattle.job_types.specs.Touches.{NoStore, stored}
use Rattle.job_types.proofs.Touched.{stored-append}
use Rattle.machine_code.specs.declared.permit.Permit.{Permit}
use Rattle.machine_code.specs.Permits.{Apart, may_read, may_write}
use Rattle.exchange_model.specs.declared.exchange.Exchange.{Exchange}
use Rattle.exchange_model.specs.Kept.{IsExchange}
use Rattle.source_meaning.specs.Config.{Config}
use Rattle.source_meaning.specs.Job.{job}
use Rattle.source_meaning.specs.Retirement.{all_delivered, keeps_chain, release_world, retires}
use Rattle.source_meaning.specs.SingleRun.{begun, ended_as}
use Rattle.source_meaning.specs.State.{State}
use Rattle.source_meaning.specs.Traces.{AgreeOn, LeavesAlone, store_after, trace_of}
use Rattle.source_meaning.specs.Valid.{IsFitting, IsValid}
use Rattle.source_meaning.proofs.Agreeing.{job_agrees, left_alone}
use Rattle.source_meaning.proofs.Growing.{job_store}
use Rattle.entry_summary.specs.declared.summary.Summary.{Summary}
use Rattle.start_permit.specs.Granted.{MayRead, MayWrite}
use Rattle.checked.specs.Kept.{IsChecked, KeptSummaries}
use Rattle.order_laws.specs.Windows.{done_by}
use Rattle.pair_laws.specs.Orders.{KeepsTo, retirement_touches}
use Rattle.pair_laws.specs.Pairs.{IsDoneBy, IsFaulted, LeavesChains, MayRunAtOnce}
use Rattle.pair_laws.proofs.Apart.{chains_left, first_alone, reads_apart, reads_stay, release_apart}
use Rattle.pair_laws.proofs.Apart.{retired_store, retirement_apart, some_forlopp, writes_apart}
use Rattle.pair_laws.proofs.Apart.{writes_stay}
use Rattle.pair_laws.proofs.Leaving.{job_leaves}
use Rattle.pair_laws.proofs.Touching.{no_store_append, touched_read}
use Rattle.run_books.specs.Retired.{outcome_world, retired_world}
use Rattle.shared_store.specs.declared.view.Lent.{Lent}
use Rattle.parallel_dispatch.specs.Flying.{IsLent}
use Rattle.parallel_dispatch.specs.Told.{AreTrue, IsSummaryOf, PassBy}
use Rattle.job_types.proofs.ChainMaps.{chain_same}

-- jobs that pass the tests pass by the kept summaries
pub passes_of : (k : KeptSummaries) (a b : JobStart) → MayFollow k a b → PassBy k a b
passes_of k a b of = record {
  passes = λ m n one other.
      subst (λ u. Passes u n a b) (same_Some of.one m (sym of.of_first ∙ one))
      (subst (λ u. Passes of.one u a b) (same_Some of.other n (sym of.of_later ∙ other)) of.holds);
}

pub all_pass_of : (k : KeptSummaries) (start : JobStart) (starts : List JobStart)
    → AllByRecursion (λ (older : JobStart). MayFollow k older start) starts
    → AllByRecursion (λ (older : JobStart). PassBy k older start) starts
all_pass_of k start [] all = tt
all_pass_of k start (a ∷ rest) all = (passes_of k a start all.0, all_pass_of k start rest all.1)

agree_then : (ts : List Touch) (r s t : List ℕ) → AgreeOn ts r s → AgreeOn ts s t → AgreeOn ts r t
agree_then ts r s t p q = record { long = p.long ∙ q.long; same = λ w at. p.same w at ∙ q.same w at }

-- on these words the job runs as on the words of its loan
module _ (x : Exchange) (k : KeptSummaries) (s : State) (l : Lent) (lent : IsLent x k s l) where
  job_there : job x l.start s.store ≡ record (job x l.start l.base)
      { world = record (job x l.start l.base).world { store = stored s.store (trace_of x l.start l.base) } }
  job_there = job_agrees x l.start l.base s.store lent.same

  pub same_trace : trace_of x l.start s.store ≡ trace_of x l.start l.base
  same_trace = ap (λ (c : Config). c.world.trace) job_there

  pub same_own : (job x l.start s.store).own ≡ (job x l.start l.base).own
  same_own = ap (λ (c : Config). c.own) job_there

  pub same_over : (job x l.start s.store).over ≡ (job x l.start l.base).over
  same_over = ap (λ (c : Config). c.over) job_there

module _ (x : Exchange) (k : KeptSummaries) (kept : IsExchange x) (checked : IsChecked x k) (s : State) (valid : IsValid x s) where
  pub at_once : (m n : Summary) (a b : JobStart) → IsFitting x s a → IsFitting x s b → IsSummaryOf k a m
      → IsSummaryOf k b n → PassBy k a b → MayRunAtOnce x checked.facts s m n a b
  at_once m n a b fits_a fits_b told_a told_b pass = record {
    exchange = kept;
    state = valid;
    first_fits = fits_a;
    later_fits = fits_b;
    first_told = checked.by_facts.is a.job.entry m told_a;
    later_told = checked.by_facts.is b.job.entry n told_b;
    passes = pass.passes m n told_a told_b;
  }

  -- the permit does not conflict with that of the loan, if the two jobs pass the tests
  pub apart_from : (l : Lent) (n : Summary) (b : JobStart) (p : Permit) → IsLent x k s l → IsFitting x s l.start
      → IsFitting x s b → IsSummaryOf k b n → PassBy k l.start b
      → ((w : ℕ) → may_read p w ≡ true → MayRead x n b s.chains w) → ((w : ℕ) → may_write p w ≡ true → MayWrite x n b s.chains w) → Apart l.permit p
  apart_from l n b p lent fits_l fits_b told pass reads writes w =
      let h = at_once lent.summary n l.start b fits_l fits_b lent.told told pass in (
        λ written. false_from_ne_true (may_read p w)
            (λ read. writes_apart x checked.facts s lent.summary n l.start b h w (lent.writes w written)
            (reads w read)),
        λ written. false_from_ne_true (may_read l.permit w)
            (λ read. reads_apart x checked.facts s lent.summary n l.start b h w (lent.reads w read) (writes w written)),
      )

  -- the job of one loan retires: what that means for the loan of a later job
  module _ (true_of : AreTrue x k) (l later : Lent) (first : IsLent x k s l) (lent : IsLent x k s later)
      (fits_l : IsFitting x s l.start) (fits_later : IsFitting x s later.start)
      (pass : PassBy k l.start later.start) where
    abbrev a : JobStart
    a = l.start

    abbrev b : JobStart
    b = later.start

    abbrev done : JobDone
    done = done_by (job x a s.store)

    abbrev mid : State
    mid = record (begun s) { store = store_after x a s.store }

    h : MayRunAtOnce x checked.facts s first.summary lent.summary a b
    h = at_once first.summary lent.summary a b fits_l fits_later first.told lent.told pass

    keeps_first : KeepsTo x s first.summary a
    keeps_first = true_of.keeps s first.summary a valid fits_l first.told

    keeps_later : KeepsTo x s lent.summary b
    keeps_later = true_of.keeps s lent.summary b valid fits_later lent.told

    left : IsDoneBy x first.summary a s.chains done
    left = job_leaves x checked.facts s first.summary a kept valid fits_l h.first_told keeps_first

    chains : LeavesChains first.summary a s.chains (retires x a done mid).chains
    chains = chains_left x checked.facts s first.summary lent.summary a b done h left mid refl

    alone : LeavesAlone (trace_of x a s.store ++ retirement_touches x done) (trace_of x b s.store)
    alone w at =
        no_store_append w (trace_of x a s.store) (retirement_touches x done)
        (first_alone x checked.facts s first.summary lent.summary a b h (trace_of x a s.store) (trace_of x b s.store)
        keeps_first.touches keeps_later.touches w at)
        (retirement_apart x checked.facts s first.summary lent.summary a b done h left w
        (touched_read x lent.summary b s.chains (trace_of x b s.store) w keeps_later.touches at))

    words : (retires x a done mid).store ≡ stored s.store (trace_of x a s.store ++ retirement_touches x done)
    words =
        retired_store x checked.facts s first.summary lent.summary a b done h left mid
        ∙ ap (λ ws. stored ws (retirement_touches x done)) (job_store x a s.store)
        ∙ sym (stored-append (trace_of x a s.store) (retirement_touches x done) s.store)

    pub lent_stays : (t : State) → t.store ≡ (ended_as x a (job x a s.store) (begun s)).store
        → t.chains ≡ (ended_as x a (job x a s.store) (begun s)).chains → IsLent x k t later
    lent_stays t store_is chains_are =
        let agree : AgreeOn (trace_of x b s.store) s.store t.store = subst (AgreeOn (trace_of x b s.store) s.store)
        (sym (store_is ∙ words)) (left_alone (trace_of x a s.store ++ retirement_touches x done)
        (trace_of x b s.store) s.store alone) in
        record {
          summary = lent.summary;
          told = lent.told;
          same = agree_then (trace_of x b later.base) later.base s.store t.store lent.same
              (subst (λ ts. AgreeOn ts s.store t.store) (same_trace x k s later lent) agree);
          reads = λ w may. subst (λ m. MayRead x lent.summary b m w) (sym chains_are)
              ((reads_stay x checked.facts s first.summary lent.summary a b (retires x a done mid).chains h chains w).0
              (lent.reads w may));
          writes = λ w may. subst (λ m. MayWrite x lent.summary b m w) (sym chains_are)
              ((writes_stay x checked.facts s first.summary lent.summary a b (retires x a done mid).chains h chains w).0
              (lent.writes w may));
        }

    aside_by : (f : ℕ) (o : Outcome) (t : State) (over : List ℕ) (w : ℕ) → f ≡ a.job.forlopp → done.outcome ≡ o
        → MayRead x lent.summary b s.chains w → NoStore w
        (outcome_world x f o (keeps_chain f done.chain t) (untouched over)).trace
    aside_by f Ended t over w is how reads = tt
    aside_by zero (Faulted f point) t over w is how reads = absurd
        (some_forlopp x checked.facts s first.summary lent.summary a b h (left.fault (subst IsFaulted (sym how) tt))
        (sym is))
    aside_by (suc n) (Faulted f point) t over w is how reads =
        subst (λ chain. NoStore w (release_world x chain (untouched over)).trace) (sym (chain_same t.chains (suc n) done.chain))
        (release_apart x checked.facts s first.summary lent.summary a b h (left.fault (subst IsFaulted (sym how) tt))
        done.chain over w left.records left.held reads)

    -- for all books and words, its retirement stores to no word of the later job's permit
    pub aside : (t : State) (over : List ℕ) (w : ℕ) → may_read later.permit w ≡ true → NoStore w (retired_world x a done t over).trace
    aside t over w may = aside_by a.job.forlopp done.outcome
        (all_delivered a.job.forlopp done.sends (record t { ended = t.ended + 1 })) over w refl refl (lent.reads w may)
