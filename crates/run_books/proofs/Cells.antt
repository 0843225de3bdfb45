-- The retirement of a job stores to cells of the exchange alone.
use Rattle.std.proofs.Common.{◌≡◌, ℕ, zero, suc, ◌+◌, ◌<◌, ◌≤◌, Bool, true, false, List, [], ◌∷◌}
use Rattle.std.proofs.Common.{length, sym, ◌∙◌, subst, sum_by, arith, if◌then◌else◌}
use Rattle.std.proofs.lemmas.List.Sums.{sum_by-cons}
use Rattle.std.proofs.lemmas.Option.{slice_get_within}
use Rattle.std.specs.List.{AllByRecursion}
use Rattle.job_types.specs.declared.chain.Held.{Held}
use Rattle.job_types.specs.declared.job.JobStart.{JobStart}
use Rattle.job_types.specs.declared.outcome.Outcome.{Outcome}
use Rattle.job_types.specs.declared.outcome.Outcome.TheVariants.{Ended, Faulted}
use Rattle.job_types.specs.declared.touch.Touch.{Touch}
use Rattle.job_types.specs.declared.touch.Touch.TheVariants.{Load, Store}
use Rattle.job_types.specs.Forlopps.{all_records, chain_at, with_chain}
use Rattle.job_types.specs.Own.{World, budget, done_of, untouched, writes}
use Rattle.machine_code.specs.Listed.{is_word_of}
use Rattle.exchange_model.specs.declared.block.Block.{Block}
use Rattle.exchange_model.specs.declared.block.Variable.{Variable}
use Rattle.exchange_model.specs.declared.exchange.Exchange.{Exchange}
use Rattle.exchange_model.specs.Cells.{block_cells}
use Rattle.exchange_model.specs.Kept.{IsExchange}
use Rattle.source_meaning.specs.Config.{files_of}
use Rattle.source_meaning.specs.Job.{job}
use Rattle.source_meaning.specs.Retirement.{all_cleared, all_delivered, all_opened, cleared}
use Rattle.source_meaning.specs.Retirement.{keeps_chain, opened, with_sends}
use Rattle.source_meaning.specs.State.{State}
use Rattle.source_meaning.specs.Traces.{AreOfCells, touched_word}
use Rattle.source_meaning.specs.Valid.{IsFitting, IsRecord, IsValid}
use Rattle.source_meaning.proofs.Freeing.{opened_is}
use Rattle.source_meaning.proofs.Maps.{all_records_fit}
use Rattle.source_meaning.proofs.Retiring.{running_fits}
use Rattle.source_meaning.proofs.Touching.{field_inside, mark_inside, record_all}
use Rattle.plex_num.proofs.Lists.{all_append}
use Rattle.machine_code.proofs.Listed.{word_of}
use Rattle.source_meaning.proofs.Delivering.{all_delivered_chains}
use Rattle.run_books.specs.Retired.{outcome_world, retired_world}
use Rattle.run_books.specs.Stores.{MayStore}

-- ## Chains

-- ## Stores

module _ (x : Exchange) (kept : IsExchange x) where
  abbrev IsInside : Touch → Type 0
  IsInside t = touched_word t < x.cells

  chain_inside : (hs : List Held) (w : World) → AllByRecursion (IsRecord x) hs → AllByRecursion IsInside w.trace
      → AllByRecursion IsInside (all_opened (files_of x) hs w).trace
  chain_inside [] w are all = all
  chain_inside (h ∷ rest) w are all =
      let r = are.0 in
      let one = record_all IsInside r.placed h.number w
      (λ i v at. field_inside x kept h.file h.number i r.placed r.here.there r.here.within (slice_get_within r.placed.file.fields i v at))
      (mark_inside x kept h.file h.number r.placed r.here.there r.here.within r.kind) all in
      chain_inside rest (opened (files_of x) h w) are.1
      (subst (λ (v : World). AllByRecursion IsInside v.trace) (sym (opened_is x h r.placed w r.here.there)) one)

  variables_inside : (cell : ℕ) (vs : List Variable) (w : World) → cell + length vs ≤ x.cells
      → AllByRecursion IsInside w.trace → AllByRecursion IsInside (cleared cell vs w).trace
  variables_inside cell [] w le all = all
  variables_inside cell (v ∷ rest) w le all = variables_inside (cell + 1) rest (if v.clear then writes cell v.init w else w) (omega (arith, le)) (by v.clear)
    where
      by : (b : Bool) → AllByRecursion IsInside (if b then writes cell v.init w else w).trace
      by true = all_append IsInside w.trace (Store cell v.init ∷ []) all (omega (arith, le), tt)
      by false = all

  blocks_inside : (cell : ℕ) (ks : List Block) (w : World) → cell + sum_by block_cells ks ≤ x.cells
      → AllByRecursion IsInside w.trace → AllByRecursion IsInside (all_cleared cell ks w).trace
  blocks_inside cell [] w le all = all
  blocks_inside cell (k ∷ ks) w le all =
      let sum = sum_by-cons block_cells k ks in
      blocks_inside (cell + block_cells k) ks (cleared cell k.variables w) (omega (arith, le, sum))
      (variables_inside cell k.variables w (omega (arith, le, sum)) all)

  -- ## Retirement

  outcome_inside : (f : ℕ) (o : Outcome) (s : State) (words : List ℕ)
      → ((n : ℕ) → AllByRecursion (IsRecord x) (chain_at s.chains n))
      → AreOfCells x (outcome_world x f o s (untouched words)).trace
  outcome_inside f Ended s words records = tt
  outcome_inside zero (Faulted g point) s words records =
      let all = kept.numbered.cells in
      blocks_inside 0 x.blocks (all_opened (files_of x) (all_records s.chains) (untouched words)) (omega (arith, all))
      (chain_inside (all_records s.chains) (untouched words) (all_records_fit (IsRecord x) s.chains records) tt)
  outcome_inside (suc n) (Faulted g point) s words records = chain_inside (chain_at s.chains (suc n)) (untouched words) (records (suc n)) tt

  -- a job of a valid state retires, over other words
  pub retired_inside : (s t : State) (start : JobStart) (words : List ℕ) → IsValid x s → IsFitting x s start
      → t.chains ≡ s.chains → AreOfCells x (retired_world x start
      (done_of (job x start s.store).own (job x start s.store).over) t words).trace
  unfolding job
  retired_inside s t start words valid fits same =
      let f = start.job.forlopp in
      let done = done_of (job x start s.store).own (job x start s.store).over in
      let runs = running_fits x kept s valid start fits (budget + 1) in
      outcome_inside f done.outcome (with_sends start done t) words
      (by f done.chain (all_delivered f done.sends (record t { ended = t.ended + 1 }))
      (all_delivered_chains f done.sends (record t { ended = t.ended + 1 }) ∙ same)
      (job x start s.store).world.store runs.chains.records)
    where
      by : (f : ℕ) (chain : List Held) (u : State) → u.chains ≡ s.chains → (words : List ℕ)
          → ((n : ℕ) → AllByRecursion (IsRecord x)
          (chain_at (keeps_chain f chain (record s { store = words })).chains n)) → (n : ℕ)
          → AllByRecursion (IsRecord x) (chain_at (keeps_chain f chain u).chains n)
      by zero chain u is ws records n = subst (λ m. AllByRecursion (IsRecord x) (chain_at m n)) (sym is) (records n)
      by (suc k) chain u is ws records n = subst (λ m. AllByRecursion (IsRecord x) (chain_at (with_chain m (suc k) chain) n)) (sym is) (records n)

-- ## Words that may be written

-- stores to cells may be made
pub may_store : (x : Exchange) (words : List ℕ) (ts : List Touch) → length words ≡ x.cells → x.cells ≤ 1000000
    → AreOfCells x ts → MayStore (is_word_of words) ts
may_store x words [] whole few all = tt
may_store x words (Load w v ∷ ts) whole few all = may_store x words ts whole few all.1
may_store x words (Store w v ∷ ts) whole few all = (word_of words x.cells w whole few all.0, may_store x words ts whole few all.1)
