-- The exchange of its parts.
use Rattle.std.proofs.Common.{◌≡◌, ℕ, ◌+◌, ◌<◌, ◌≤◌, List, ◌++◌, length, take, get_or, sum_by, refl}
use Rattle.std.proofs.Common.{sym, ◌∙◌, ap, subst, arith}
use Rattle.std.proofs.lemmas.List.Sums.{sum_by_more}
use Rattle.exchange_model.specs.declared.block.Block.{Block}
use Rattle.exchange_model.specs.declared.entry.Entry.{Entry}
use Rattle.exchange_model.specs.declared.entry.PointInfo.{PointInfo}
use Rattle.plex_limits.specs.declared.limits.TheConstants.{MOST_BLOCKS, MOST_CELLS}
use Rattle.exchange_model.specs.declared.signal.SignalKind.{SignalKind}
use Rattle.exchange_model.specs.Cells.{block_cells, cell_count}
use Rattle.exchange_model.specs.Kept.{IsExchange, entries_in, entries_from, points_from}
use Rattle.exchange_model.specs.Parts.{Parts}
use Rattle.resolved_block.specs.Texts.{exchange_of}
use Rattle.front_end.specs.Points.{body_points}
use Rattle.front_end.proofs.EntrySteps.{Entered, entries_begin, entries_step, entries_end}
use Rattle.front_end.proofs.PointSteps.{Pointed, points_begin, points_step, points_end}

pub few_blocks : (signals : List SignalKind) (blocks : List Block) → IsExchange (exchange_of signals blocks) → length blocks ≤ MOST_BLOCKS
unfolding exchange_of
few_blocks signals blocks x = x.blocks.few

pub few_cells : (signals : List SignalKind) (blocks : List Block) → IsExchange (exchange_of signals blocks) → cell_count blocks ≤ MOST_CELLS
unfolding exchange_of
few_cells signals blocks x = x.limited.cells

pub exchange_is : (signals : List SignalKind) (blocks : List Block) (entries : List Entry) (points : List PointInfo)
    (cells : ℕ) (x : Parts) → entries ≡ entries_from signals 0 blocks → points ≡ points_from 0 blocks
    → cells ≡ cell_count blocks → x ≡ record {
      signals = signals;
      blocks = blocks;
      entries = entries;
      points = points;
      cells = cells;
    } → x ≡ exchange_of signals blocks
unfolding exchange_of
exchange_is signals blocks entries points cells x e p c is = is ∙ (λ i. record { signals = signals; blocks = blocks; entries = e i; points = p i; cells = c i })

pub exchange_kept : (signals : List SignalKind) (blocks : List Block) (entries : List Entry) (points : List PointInfo)
    (cells : ℕ) → entries ≡ entries_from signals 0 blocks → points ≡ points_from 0 blocks → cells ≡ cell_count blocks
    → IsExchange (exchange_of signals blocks) → IsExchange
    (record { signals = signals; blocks = blocks; entries = entries; points = points; cells = cells })
exchange_kept signals blocks entries points cells e p c x = subst IsExchange (sym (exchange_is signals blocks entries points cells _ e p c refl)) x

-- what was collected of the blocks before a place
abbrev pub Collecting : List SignalKind → List Block → ℕ → List Entry → List PointInfo → ℕ → Type 0
Collecting signals blocks i entries points cells = (Entered signals blocks i entries × Pointed blocks i points) × (cells ≡ sum_by block_cells (take i blocks))

cells_step : (blocks : List Block) (i : ℕ) (k : Block) (cells n : ℕ) → i < length blocks → k ≡ get_or blocks i k
    → n ≡ block_cells k → cells ≡ sum_by block_cells (take i blocks)
    → cells + n ≡ sum_by block_cells (take (i + 1) blocks)
cells_step blocks i k cells n inside is size counted =
    let more : sum_by block_cells (take (i + 1) blocks) ≡ sum_by block_cells (take i blocks)
    + block_cells (get_or blocks i k) = sum_by_more block_cells blocks i k inside in
    let this : block_cells (get_or blocks i k) ≡ block_cells k = ap block_cells (sym is) in
    omega (arith, more, this, size, counted)

pub all_step : (signals : List SignalKind) (blocks : List Block) (i : ℕ) (k : Block) (entries entries' : List Entry)
    (points points' : List PointInfo) (cells n : ℕ) → i < length blocks → k ≡ get_or blocks i k
    → entries' ≡ entries ++ entries_in signals i k.body → points' ≡ points ++ body_points i k.body → n ≡ block_cells k
    → Collecting signals blocks i entries points cells → Collecting signals blocks (i + 1) entries' points' (cells + n)
all_step signals blocks i k entries entries' points points' cells n inside is e p size before = (
  (
    entries_step signals blocks i k entries entries' inside is e before.0.0,
    points_step blocks i k points points'
        inside is p before.0.1,
  ),
  cells_step blocks i k cells n inside is size before.1,
)

pub ruleset collecting = (entries_begin, entries_end, points_begin, points_end)

pub ruleset exchanging = (few_blocks, few_cells, exchange_kept, exchange_is)
