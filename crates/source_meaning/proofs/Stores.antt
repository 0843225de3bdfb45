-- A store whose values fit their widths still does once a cell has got a value that fits.
use Rattle.std.proofs.Common.{◌≡◌, ℕ, suc, ◌+◌, ◌<◌, ◌^◌, true, List, [], ◌∷◌, length, Some, refl}
use Rattle.std.proofs.Common.{sym, ap, ◌∙◌, subst, slice_get, arith, ⊎_elim}
use Rattle.std.proofs.Math.ListN.{length-set}
use Rattle.std.proofs.lemmas.Bool.{cases_eq}
use Rattle.std.proofs.lemmas.List.{get_or-set_same, get_or-set_other}
use Rattle.std.proofs.lemmas.Option.{same_Some, slice_get_within}
use Rattle.std.specs.Prelude.{slice_index, slice_set}
use Rattle.job_types.specs.Own.{World, writes}
use Rattle.exchange_model.specs.declared.exchange.Exchange.{Exchange}
use Rattle.exchange_model.specs.declared.block.Block.{Block}
use Rattle.exchange_model.specs.declared.block.Variable.{Variable}
use Rattle.exchange_model.specs.declared.entry.Cell.{Cell}
use Rattle.exchange_model.specs.declared.entry.Cell.TheVariants as cell
use Rattle.exchange_model.specs.Cells.{Placed, placed_files, IsCell, cell_number, field_cell}
use Rattle.exchange_model.specs.Cells.{mark_cell, variable_cell}
use Rattle.exchange_model.specs.Kept.{IsExchange}
use Rattle.exchange_model.proofs.Facts.{field_kept}
use Rattle.exchange_model.proofs.Numbers.{variable_is_cell, field_is_cell, mark_is_cell}
use Rattle.exchange_model.proofs.Numbers.{cell_number-field, cell_number-mark, cell_number-below}
use Rattle.exchange_model.proofs.Numbers.{cell_number-once}
use Rattle.source_meaning.specs.Config.{files_of}
use Rattle.source_meaning.specs.Changes.{opens_fields, opens_record}
use Rattle.source_meaning.specs.Valid.{StoreFits, IsRecordAt}

-- a value fits the width of the variable or the field
abbrev pub CellFits : Exchange → Cell → ℕ → Type 0
CellFits x (cell.Variable b i) v = (k : Block) (e : Variable) → slice_get x.blocks b ≡ Some k → slice_get k.variables i ≡ Some e → v < 2 ^ e.width
CellFits x (cell.Field f n i) v = (p : Placed) (e : Variable) → slice_get (placed_files x.blocks) f ≡ Some p
    → slice_get p.file.fields i ≡ Some e → v < 2 ^ e.width
CellFits x (cell.Mark f n) v = Unit {0}

-- what a cell's word is after a store to a cell
module _ (x : Exchange) (kept : IsExchange x) where
  pub cell_within : (c : Cell) → IsCell x.blocks c → cell_number x.blocks c < x.cells
  cell_within c is = let below = cell_number-below x.blocks c is in let all = kept.numbered.cells in omega arith

  pub word_of_same : (store : List ℕ) (c : Cell) (v : ℕ) → length store ≡ x.cells → IsCell x.blocks c
      → slice_index (slice_set store (cell_number x.blocks c) v) (cell_number x.blocks c) ≡ v
  word_of_same store c v whole is = let below = cell_within c is in get_or-set_same store (cell_number x.blocks c) v 0 (omega arith)

  -- either the cell is the same, or its word stays
  pub word_after : (store : List ℕ) (c d : Cell) (v : ℕ) (P : ℕ → Type 0) → length store ≡ x.cells → IsCell x.blocks c
      → IsCell x.blocks d → (c ≡ d → P v) → P (slice_index store (cell_number x.blocks d))
      → P (slice_index (slice_set store (cell_number x.blocks c) v) (cell_number x.blocks d))
  word_after store c d v P whole is at new old =
      ⊎_elim (λ same. let e = cell_number-once x.blocks c d is at (sym same) in
      subst (λ n. P (slice_index (slice_set store (cell_number x.blocks c) v) n)) (sym same) (subst P (sym (word_of_same store c v whole is)) (new e)))
      (λ other. subst P (sym (get_or-set_other store (cell_number x.blocks c) (cell_number x.blocks d) v 0 other)) old)
      (cases_eq (cell_number x.blocks d) (cell_number x.blocks c))

  pub put_fits : (store : List ℕ) (c : Cell) (v : ℕ) → IsCell x.blocks c → CellFits x c v → StoreFits x store
      → StoreFits x (slice_set store (cell_number x.blocks c) v)
  unfolding files_of
  put_fits store c v is fits h = record {
    whole = length-set store (cell_number x.blocks c) v ∙ h.whole;
    variables = λ b i k e there own.
        let d = cell.Variable b i in
        let at = variable_is_cell x.blocks b i k there (slice_get_within k.variables i e own) in
        word_after store c d v (λ w. w < 2 ^ e.width) h.whole is at
        (λ same. (subst (λ z. CellFits x z v) same fits) k e there own) (h.variables b i k e there own);
    fields = λ file number field p e rec own.
        let d = cell.Field file number field in
        let at = field_is_cell x.blocks file number field p rec.there rec.within (slice_get_within p.file.fields field e own) in
        let n = cell_number-field x.blocks file number field p rec.there in
        subst (λ i. slice_index (slice_set store (cell_number x.blocks c) v) i < 2 ^ e.width) n
        (word_after store c d v (λ w. w < 2 ^ e.width) h.whole is at (λ same. (subst (λ z. CellFits x z v) same fits) p e rec.there own)
        (subst (λ i. slice_index store i < 2 ^ e.width) (sym n) (h.fields file number field p e rec own)));
  }

  -- a variable, a field and a mark by their words

  pub put_variable : (store : List ℕ) (b i v : ℕ) (k : Block) (e : Variable) → slice_get x.blocks b ≡ Some k
      → slice_get k.variables i ≡ Some e → v < 2 ^ e.width → StoreFits x store
      → StoreFits x (slice_set store (variable_cell x.blocks b i) v)
  put_variable store b i v k e there own lt h =
      put_fits store (cell.Variable b i) v (variable_is_cell x.blocks b i k there (slice_get_within k.variables i e own))
      (λ k' e' there' own'.
      let same : k ≡ k' = same_Some k k' (sym there ∙ there') in
      let alike : e ≡ e' = same_Some e e' (sym own ∙ ap (λ (z : Block). slice_get z.variables i) same ∙ own') in
      subst (λ (z : Variable). v < 2 ^ z.width) alike lt) h

  pub put_field : (store : List ℕ) (file number field v : ℕ) (p : Placed) (e : Variable) → IsRecordAt x file number p
      → slice_get p.file.fields field ≡ Some e → v < 2 ^ e.width → StoreFits x store
      → StoreFits x (slice_set store (field_cell p number field) v)
  unfolding files_of
  put_field store file number field v p e rec own lt h =
      subst (λ n. StoreFits x (slice_set store n v)) (cell_number-field x.blocks file number field p rec.there)
      (put_fits store (cell.Field file number field) v
      (field_is_cell x.blocks file number field p rec.there rec.within (slice_get_within p.file.fields field e own))
      (λ p' e' there' own'.
      let same : p ≡ p' = same_Some p p' (sym rec.there ∙ there') in
      let alike : e ≡ e' = same_Some e e' (sym own ∙ ap (λ (z : Placed). slice_get z.file.fields field) same ∙ own') in
      subst (λ (z : Variable). v < 2 ^ z.width) alike lt) h)

  pub put_mark : (store : List ℕ) (file number v : ℕ) (p : Placed) → IsRecordAt x file number p → p.file.forlopp ≡ true
      → StoreFits x store → StoreFits x (slice_set store (mark_cell p number) v)
  unfolding files_of
  put_mark store file number v p rec marked h =
      subst (λ n. StoreFits x (slice_set store n v)) (cell_number-mark x.blocks file number p rec.there)
      (put_fits store (cell.Mark file number) v (mark_is_cell x.blocks file number p rec.there rec.within marked) tt h)

  -- a record that is opened

  fields_fit : (file number : ℕ) (p : Placed) (field : ℕ) (fields : List Variable) (w : World)
      → IsRecordAt x file number p → ((i : ℕ) (v : Variable) → slice_get fields i ≡ Some v
      → slice_get p.file.fields (field + i) ≡ Some v)
      → StoreFits x w.store → StoreFits x (opens_fields p number field fields w).store
  unfolding files_of
  fields_fit file number p field [] w rec at h = h
  fields_fit file number p field (v ∷ rest) w rec at h =
      let first : field + 0 ≡ field = omega arith in
      let own : slice_get p.file.fields field ≡ Some v = subst (λ n. slice_get p.file.fields n ≡ Some v) first (at 0 v refl) in
      fields_fit file number p (field + 1) rest (writes (field_cell p number field) v.init w) rec
      (λ i e there. let past : field + suc i ≡ field + 1 + i = omega arith in subst (λ n. slice_get p.file.fields n ≡ Some e) past (at (suc i) e there))
      (put_field w.store file number field v.init p v rec own (field_kept x kept file field p v rec.there own).init h)

  pub opens_fit : (file number : ℕ) (p : Placed) (w : World) → IsRecordAt x file number p → p.file.forlopp ≡ true
      → StoreFits x w.store → StoreFits x (opens_record p number w).store
  opens_fit file number p w rec marked h =
      put_mark (opens_fields p number 0 p.file.fields w).store file number 0 p rec marked
      (fields_fit file number p 0 p.file.fields w rec
      (λ i v there. let none : i ≡ 0 + i = omega arith in subst (λ n. slice_get p.file.fields n ≡ Some v) none
      there) h)
