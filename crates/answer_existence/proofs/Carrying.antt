-- A state can be carried over to another exchange.
use Rattle.std.proofs.Common.{◌≡◌, ℕ, zero, suc, ◌+◌, ◌<◌, List, [], ◌∷◌, length, slice_index, refl}
use Rattle.std.proofs.Common.{ap, ◌∙◌, arith}
use Rattle.exchange_model.specs.declared.entry.Cell.{Cell}
use Rattle.exchange_model.specs.declared.exchange.Exchange.{Exchange}
use Rattle.exchange_model.specs.Cells.{IsCell, cell_count, cell_number}
use Rattle.exchange_model.specs.Kept.{IsExchange}
use Rattle.exchange_model.proofs.Numbers.{cell_number-below, cell_number-once, cell_numbered}
use Rattle.job_types.specs.declared.chain.Held.{Held}
use Rattle.job_types.specs.Forlopps.{all_records}
use Rattle.source_meaning.specs.State.{State}
use Rattle.finite_facts.proofs.Finite.{Decided, less, no, yes}
use Rattle.block_change.specs.Carried.{AreCarriedWords, IsCarried, carried_chains, carried_value}
use Rattle.block_change.specs.Carried.{carried_with}

-- the values of a function, starting from an argument

values_from : (ℕ → ℕ) → ℕ → ℕ → List ℕ
values_from f a zero = []
values_from f a (suc n) = f a ∷ values_from f (a + 1) n

long : (f : ℕ → ℕ) (a n : ℕ) → length (values_from f a n) ≡ n
unfolding values_from
long f a zero = refl
long f a (suc n) = (let more = long f (a + 1) n in omega (arith, more))

at : (f : ℕ → ℕ) (a n k : ℕ) → k < n → slice_index (values_from f a n) k ≡ f (a + k)
unfolding values_from
at f a zero k lt = absurd (let h = lt in omega (arith, h))
at f a (suc n) zero lt = (let same : a ≡ a + 0 = omega arith in ap f same)
at f a (suc n) (suc k) lt = (let next : a + 1 + k ≡ a + suc k = omega arith in at f (a + 1) n k (let h = lt in omega (arith, h)) ∙ ap f next)

module _ (x y : Exchange) (store : List ℕ) (records : List Held) where
  -- the value of the cell with this number
  value : (i : ℕ) → Decided (i < cell_count y.blocks) → ℕ
  value i (yes lt) = carried_value x y store records (cell_numbered y.blocks i lt).cell
  value i (no past) = 0

  value_is : (c : Cell) → IsCell y.blocks c → (d : Decided (cell_number y.blocks c < cell_count y.blocks))
      → value (cell_number y.blocks c) d ≡ carried_value x y store records c
  unfolding value
  value_is c is (yes lt) = (let h = cell_numbered y.blocks (cell_number y.blocks c) lt in ap
      (carried_value x y store records) (cell_number-once y.blocks h.cell c h.is is h.same))
  value_is c is (no past) = absurd (past (cell_number-below y.blocks c is))

  word : ℕ → ℕ
  word i = value i (less i (cell_count y.blocks))

  words : List ℕ
  words = values_from word 0 y.cells

  carried_words : IsExchange y → AreCarriedWords x y store records words
  unfolding words word
  carried_words kept = record {
    whole = long word 0 y.cells;
    each = λ c is.
        let below = cell_number-below y.blocks c is in
        let cells = kept.numbered.cells in
        let first : 0 + cell_number y.blocks c ≡ cell_number y.blocks c = omega arith in
        at word 0 y.cells (cell_number y.blocks c) (omega (arith, below, cells)) ∙ ap word first
        ∙ value_is c is (less (cell_number y.blocks c) (cell_count y.blocks));
  }

-- the state after the change
pub carried : (x y : Exchange) (s : State) → IsExchange y → (t : State) × IsCarried x y s t
carried x y s kept =
    let records = all_records (carried_chains x y s.chains) in
    (carried_with x y s (words x y s.store records), record { books = refl; words = carried_words x y s.store records kept })
