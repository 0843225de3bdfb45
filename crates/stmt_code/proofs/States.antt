-- The stored words of a valid state are numbers of 32 bits.
use Rattle.std.proofs.Common.{◌≡◌, ℕ, zero, suc, ◌^◌, ◌<◌, ◌≤◌, Bool, true, false, List, [], ◌∷◌}
use Rattle.std.proofs.Common.{length, Some, refl, sym, ap, ◌∙◌, subst, arith, ◌⊎◌, inl, inr, ⊎_elim}
use Rattle.std.proofs.Common.{pow_mono}
use Rattle.std.specs.Prelude.{slice_get, slice_index}
use Rattle.std.proofs.lemmas.List.{get_or_past}
use Rattle.std.proofs.lemmas.Bool.{cases_lt, cases_eq}
use Rattle.job_types.specs.declared.chain.Held.{Held}
use Rattle.exchange_model.specs.declared.exchange.Exchange.{Exchange}
use Rattle.exchange_model.specs.declared.block.Variable.{Variable}
use Rattle.exchange_model.specs.declared.block.Block.{Block}
use Rattle.exchange_model.specs.declared.entry.Cell.{Cell}
use Rattle.exchange_model.specs.declared.entry.Cell.TheVariants as cell
use Rattle.exchange_model.specs.Cells.{Placed, variable_cell, field_cell, mark_cell, placed_files}
use Rattle.exchange_model.specs.Cells.{IsCell, cell_number}
use Rattle.exchange_model.specs.Kept.{IsExchange, VariableFits}
use Rattle.exchange_model.proofs.Facts.{variable_kept, field_kept}
use Rattle.exchange_model.proofs.Numbers.{there_from, cell_number-field, cell_number-mark}
use Rattle.exchange_model.proofs.Numbers.{cell_numbered}
use Rattle.plex_num.proofs.Lists.{some_at}
use Rattle.job_types.specs.Chain.{holds}
use Rattle.job_types.specs.Forlopps.{chain_at}
use Rattle.source_meaning.specs.Config.{files_of}
use Rattle.source_meaning.specs.State.{State}
use Rattle.source_meaning.specs.Valid.{IsValid, HasRecords}
use Rattle.stmt_code.proofs.Same.{AllSmall}

-- a value that fits the width of a variable
width_small : (e : Variable) (v : ℕ) → VariableFits e → v < 2 ^ e.width → v < 2 ^ 32
width_small e v h lt = let most : 2 ^ e.width ≤ 2 ^ 32 = pow_mono h.few in omega (arith, lt, most)

module _ (x : Exchange) (s : State) (kept : IsExchange x) (valid : IsValid x s) where
  -- a chain below a number has the record, or none has it
  among : (file number k : ℕ) → ((n : ℕ) × (holds (chain_at s.chains n) file number ≡ true))
      ⊎ ((n : ℕ) → n < k → holds (chain_at s.chains n) file number ≡ false)
  among file number zero = inr (λ n lt. absurd (omega arith))
  among file number (suc k) =
      ⊎_elim
      (λ (found : (n : ℕ) × (holds (chain_at s.chains n) file number ≡ true)). inl found)
      (λ (none : (n : ℕ) → n < k → holds (chain_at s.chains n) file number ≡ false). by_last (holds (chain_at s.chains k) file number) refl none)
      (among file number k)
    where
      by_last : (b : Bool) → holds (chain_at s.chains k) file number ≡ b
          → ((n : ℕ) → n < k → holds (chain_at s.chains n) file number ≡ false)
          → ((n : ℕ) × (holds (chain_at s.chains n) file number ≡ true))
          ⊎ ((n : ℕ) → n < suc k → holds (chain_at s.chains n) file number ≡ false)
      by_last true e none = inl (k, e)
      by_last false e none = inr (λ n lt. ⊎_elim
          (λ (same : n ≡ k). ap (λ i. holds (chain_at s.chains i) file number) same ∙ e)
          (λ (other : n ≡ k → ⊥). none n (omega (arith, lt, other))) (cases_eq n k))

  -- a number that was not drawn has no chain
  undrawn : (file number n : ℕ) (chain : List Held) → chain_at s.chains n ≡ chain → s.next ≤ n → holds chain file number ≡ false
  undrawn file number n [] e le = refl
  undrawn file number n (h ∷ rest) e le = let live = valid.chains.live n (subst HasRecords (sym e) tt) in absurd (omega (arith, live.before))

  mark_small : (file number : ℕ) (p : Placed) → slice_get (files_of x) file ≡ Some p → number < p.file.size
      → p.file.forlopp ≡ true → slice_index s.store (mark_cell p number) < 2 ^ 32
  mark_small file number p there inside forlopp =
      ⊎_elim
      (λ (found : (n : ℕ) × (holds (chain_at s.chains n) file number ≡ true)). omega
      (arith, valid.marks.held found.0 (record { file = file; number = number }) p there found.1))
      (λ (none : (n : ℕ) → n < s.next → holds (chain_at s.chains n) file number ≡ false).
      let nowhere : (n : ℕ) → holds (chain_at s.chains n) file number ≡ false =
      λ n. ⊎_elim (λ (lt : n < s.next). none n lt) (λ (le : s.next ≤ n). undrawn file number n (chain_at s.chains n) refl le) (cases_lt n s.next) in
      omega (arith, valid.marks.free file number p (record { there = there; within = inside }) forlopp nowhere))
      (among file number s.next)

  cell_small : (i : ℕ) (c : Cell) → IsCell x.blocks c → cell_number x.blocks c ≡ i → slice_index s.store i < 2 ^ 32
  unfolding files_of
  cell_small i (cell.Variable b v) is e =
      let t = there_from (slice_get x.blocks b) (λ (k : Block). v < length k.variables) is in
      let w = some_at t.value.variables v t.holds in
      let fits = variable_kept x kept b v t.value w.0 t.is w.1 in
      subst (λ j. slice_index s.store j < 2 ^ 32) e
      (width_small w.0 (slice_index s.store (variable_cell x.blocks b v)) fits
      (valid.store.variables b v t.value w.0 t.is w.1))
  cell_small i (cell.Field f n y) is e =
      let t = there_from (slice_get (placed_files x.blocks) f) (λ (p : Placed). (n < p.file.size) × (y < length p.file.fields)) is in
      let w = some_at t.value.file.fields y t.holds.1 in
      let fits = field_kept x kept f y t.value w.0 t.is w.1 in
      let value = width_small w.0 (slice_index s.store (field_cell t.value n y)) fits
      (valid.store.fields f n y t.value w.0 (record { there = t.is; within = t.holds.0 }) w.1) in
      subst (λ j. slice_index s.store j < 2 ^ 32) (sym (cell_number-field x.blocks f n y t.value t.is) ∙ e) value
  cell_small i (cell.Mark f n) is e =
      let t = there_from (slice_get (placed_files x.blocks) f) (λ (p : Placed). (n < p.file.size) × (p.file.forlopp ≡ true)) is in
      subst (λ j. slice_index s.store j < 2 ^ 32) (sym (cell_number-mark x.blocks f n t.value t.is) ∙ e) (mark_small f n t.value t.is t.holds.0 t.holds.1)

  pub valid_words : AllSmall s.store
  valid_words i =
      ⊎_elim
      (λ (lt : i < x.cells). let c = cell_numbered x.blocks i (omega (arith, lt, kept.numbered.cells)) in cell_small i c.cell c.is c.same)
      (λ (le : x.cells ≤ i). let none : slice_index s.store i ≡ 0 = get_or_past s.store i 0 (omega (arith, le, valid.store.whole)) in omega (arith, none))
      (cases_lt i x.cells)
