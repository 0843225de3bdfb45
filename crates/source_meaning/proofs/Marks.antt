-- The word of a mark, when a cell of the exchange gets a value or a record is opened.
use Rattle.std.proofs.Common.{◌≡◌, ℕ, ◌+◌, ◌<◌, ◌≤◌, true, List, [], ◌∷◌, length, Some, refl, sym}
use Rattle.std.proofs.Common.{ap, ◌∙◌, subst, slice_get, arith}
use Rattle.std.proofs.Math.ListN.{length-set}
use Rattle.std.specs.Prelude.{slice_index, slice_set}
use Rattle.job_types.specs.Own.{World, writes}
use Rattle.exchange_model.specs.declared.exchange.Exchange.{Exchange}
use Rattle.exchange_model.specs.declared.block.Block.{Block}
use Rattle.exchange_model.specs.declared.block.Variable.{Variable}
use Rattle.exchange_model.specs.declared.entry.Cell.{Cell}
use Rattle.exchange_model.specs.declared.entry.Cell.TheVariants as cell
use Rattle.exchange_model.specs.Cells.{Placed, IsCell, cell_number, field_cell, mark_cell}
use Rattle.exchange_model.specs.Cells.{variable_cell}
use Rattle.exchange_model.specs.Kept.{IsExchange}
use Rattle.exchange_model.proofs.Numbers.{variable_is_cell, field_is_cell, mark_is_cell}
use Rattle.exchange_model.proofs.Numbers.{cell_number-field, cell_number-mark}
use Rattle.source_meaning.specs.Config.{files_of}
use Rattle.source_meaning.specs.Changes.{opens_fields, opens_record}
use Rattle.source_meaning.specs.Valid.{IsRecordAt}
use Rattle.source_meaning.proofs.Stores.{word_of_same, word_after}

-- a record of a forlopp file
pub record HasMark (x : Exchange) (file number : ℕ) (p : Placed) : Type 0 where
  pub at : IsRecordAt x file number p
  pub kind : p.file.forlopp ≡ true

module _ (x : Exchange) (kept : IsExchange x) where
  mark_cell_of : (file number : ℕ) (p : Placed) → HasMark x file number p → IsCell x.blocks (cell.Mark file number)
  unfolding files_of
  mark_cell_of file number p m = mark_is_cell x.blocks file number p m.at.there m.at.within m.kind

  mark_number : (file number : ℕ) (p : Placed) → HasMark x file number p → cell_number x.blocks (cell.Mark file number) ≡ mark_cell p number
  unfolding files_of
  mark_number file number p m = cell_number-mark x.blocks file number p m.at.there

  -- a cell that is no mark gets a value
  other_put : (store : List ℕ) (c : Cell) (v : ℕ) → IsCell x.blocks c → length store ≡ x.cells → (f n : ℕ) (q : Placed)
      → (c ≡ cell.Mark f n → slice_index store (mark_cell q n) ≡ v) → HasMark x f n q
      → slice_index (slice_set store (cell_number x.blocks c) v) (mark_cell q n) ≡ slice_index store (mark_cell q n)
  other_put store c v is whole f n q never m =
      let old = slice_index store (mark_cell q n) in
      let at = mark_number f n q m in
      subst (λ i. slice_index (slice_set store (cell_number x.blocks c) v) i ≡ old) at
      (word_after x kept store c (cell.Mark f n) v (λ w. w ≡ old) whole is (mark_cell_of f n q m) (λ same. sym (never same)) (ap (slice_index store) at))

  pub variable_put : (store : List ℕ) (b i v : ℕ) (k : Block) → slice_get x.blocks b ≡ Some k → i < length k.variables
      → length store ≡ x.cells → (f n : ℕ) (q : Placed) → HasMark x f n q
      → slice_index (slice_set store (variable_cell x.blocks b i) v) (mark_cell q n) ≡ slice_index store (mark_cell q n)
  variable_put store b i v k there lt whole f n q m = other_put store (cell.Variable b i) v
      (variable_is_cell x.blocks b i k there lt) whole f n q (λ same. cc) m

  pub field_put : (store : List ℕ) (file number field v : ℕ) (p : Placed) → IsRecordAt x file number p
      → field < length p.file.fields → length store ≡ x.cells → (f n : ℕ) (q : Placed) → HasMark x f n q
      → slice_index (slice_set store (field_cell p number field) v) (mark_cell q n) ≡ slice_index store (mark_cell q n)
  unfolding files_of
  field_put store file number field v p rec lt whole f n q m =
      subst (λ i. slice_index (slice_set store i v) (mark_cell q n) ≡ slice_index store (mark_cell q n))
      (cell_number-field x.blocks file number field p rec.there)
      (other_put store (cell.Field file number field) v (field_is_cell x.blocks file number field p rec.there rec.within lt) whole f n q (λ same. cc) m)

  -- a mark gets a value: it is that of this record, or it stays
  pub mark_put : (store : List ℕ) (file number v : ℕ) (p : Placed) → HasMark x file number p → length store ≡ x.cells
      → (f n : ℕ) (q : Placed) → HasMark x f n q → (P : ℕ → Type 0) → (file ≡ f → number ≡ n → P v)
      → P (slice_index store (mark_cell q n))
      → P (slice_index (slice_set store (mark_cell p number) v) (mark_cell q n))
  mark_put store file number v p m whole f n q o P new old =
      let here = mark_number file number p m in
      let there = mark_number f n q o in
      subst (λ i. P (slice_index (slice_set store i v) (mark_cell q n))) here
      (subst (λ i. P (slice_index (slice_set store (cell_number x.blocks (cell.Mark file number)) v) i)) there
      (word_after x kept store (cell.Mark file number) (cell.Mark f n) v P whole (mark_cell_of file number p m)
      (mark_cell_of f n q o) (λ same. new (file_is same) (number_is same))
      (subst (λ i. P (slice_index store i)) (sym there) old)))
    where
      file_is : cell.Mark file number ≡ cell.Mark f n → file ≡ f
      file_is same = cc

      number_is : cell.Mark file number ≡ cell.Mark f n → number ≡ n
      number_is same = cc

  pub mark_set : (store : List ℕ) (file number v : ℕ) (p : Placed) → HasMark x file number p → length store ≡ x.cells
      → slice_index (slice_set store (mark_cell p number) v) (mark_cell p number) ≡ v
  mark_set store file number v p m whole =
      subst (λ i. slice_index (slice_set store i v) i ≡ v) (mark_number file number p m)
      (word_of_same x kept store (cell.Mark file number) v whole (mark_cell_of file number p m))

  -- a record is opened

  fields_put : (file number : ℕ) (p : Placed) (field : ℕ) (fields : List Variable) (w : World)
      → IsRecordAt x file number p → field + length fields ≤ length p.file.fields → length w.store ≡ x.cells
      → (f n : ℕ) (q : Placed) → HasMark x f n q
      → (slice_index (opens_fields p number field fields w).store (mark_cell q n) ≡ slice_index w.store (mark_cell q n))
      × (length (opens_fields p number field fields w).store ≡ x.cells)
  fields_put file number p field [] w rec few whole f n q m = (refl, whole)
  fields_put file number p field (v ∷ rest) w rec few whole f n q m =
      let u = writes (field_cell p number field) v.init w in
      let long : length u.store ≡ x.cells = length-set w.store (field_cell p number field) v.init ∙ whole in
      let r = fields_put file number p (field + 1) rest u rec (omega arith) long f n q m in
      (r.0 ∙ field_put w.store file number field v.init p rec (omega arith) whole f n q m, r.1)

  -- the mark of the record is 0 then, and each other mark stays
  pub opened_mark : (file number : ℕ) (p : Placed) (w : World) → HasMark x file number p → length w.store ≡ x.cells
      → slice_index (opens_record p number w).store (mark_cell p number) ≡ 0
  opened_mark file number p w m whole =
      let u = opens_fields p number 0 p.file.fields w in
      let r = fields_put file number p 0 p.file.fields w m.at (omega arith) whole file number p m in
      mark_set u.store file number 0 p m r.1

  pub opened_other : (file number : ℕ) (p : Placed) (w : World) → HasMark x file number p → length w.store ≡ x.cells
      → (f n : ℕ) (q : Placed) → HasMark x f n q → (P : ℕ → Type 0) → (file ≡ f → number ≡ n → P 0)
      → P (slice_index w.store (mark_cell q n))
      → P (slice_index (opens_record p number w).store (mark_cell q n))
  opened_other file number p w m whole f n q o P new old =
      let u = opens_fields p number 0 p.file.fields w in
      let r = fields_put file number p 0 p.file.fields w m.at (omega arith) whole f n q o in
      mark_put u.store file number 0 p m r.1 f n q o P new (subst P (sym r.0) old)

  pub opened_long : (file number : ℕ) (p : Placed) (w : World) → HasMark x file number p → length w.store ≡ x.cells
      → length (opens_record p number w).store ≡ x.cells
  opened_long file number p w m whole =
      let u = opens_fields p number 0 p.file.fields w in
      let r = fields_put file number p 0 p.file.fields w m.at (omega arith) whole file number p m in
      length-set u.store (mark_cell p number) 0 ∙ r.1
