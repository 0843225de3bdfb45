-- The lines of variables and of fields, while they are written.
use Rattle.std.proofs.Common.{◌≡◌, ℕ, ◌+◌, Bool, true, false, List, [], ◌∷◌, ◌++◌, length, take}
use Rattle.std.proofs.Common.{drop, map, nat_eq, sum_by, slice_index, refl, sym, ap, ◌∙◌}
use Rattle.std.proofs.Common.{if◌then◌else◌}
use Rattle.std.specs.List.{enumerate_from, flat_map, range_with_len}
use Rattle.std.proofs.lemmas.Bool.{ne_eqb}
use Rattle.std.proofs.lemmas.List.{append-nil, nil_from_length}
use Rattle.exchange_model.specs.declared.block.Block.{Block}
use Rattle.exchange_model.specs.declared.block.File.{File}
use Rattle.exchange_model.specs.declared.block.Variable.{Variable}
use Rattle.exchange_model.specs.Cells.{Placed, field_cell, file_cells, first_cell, placed_files}
use Rattle.exchange_model.specs.Cells.{placed_from, placed_in}
use Rattle.report_text.specs.Names.{record_name}
use Rattle.report_text.specs.Report.{block_lines, field_line, field_lines, file_lines}
use Rattle.report_text.specs.Report.{line_of_field, record_lines, text_of, variable_line, written}
use Rattle.report_text.proofs.Lines.{Left, no_lines}

-- the variables of a block, from this one on
abbrev pub block_left : List ℕ → ℕ → Block → ℕ → List (List ℕ)
block_left store first b i = map (λ (v : ℕ × Variable). variable_line b.name v.1.name (slice_index store (first + v.0))) (enumerate_from i (drop i b.variables))

-- the variables of the blocks, from this block on
abbrev pub variables_left : List Block → List ℕ → ℕ → List (List ℕ)
variables_left blocks store i = flat_map (λ (b : ℕ × Block). block_lines store (first_cell blocks b.0) b.1) (enumerate_from i (drop i blocks))

-- the fields of a record, from this one on
abbrev pub record_left : List Block → List ℕ → Placed → ℕ → ℕ → List (List ℕ)
record_left blocks store p r i = flat_map (λ (f : ℕ × Variable). line_of_field (record_name blocks p r) f.1
    (slice_index store (field_cell p r f.0))) (enumerate_from i (drop i p.file.fields))

-- the files of a block, the next of which begins at this cell
pub record FilesLeft (blocks : List Block) (store before text : List ℕ) (block first cell index : ℕ) (fs : List File) : Type 0 where
  pub counted : cell ≡ first + sum_by file_cells (take index fs)
  pub left : Left before text (flat_map (file_lines blocks store) (placed_in block cell (drop index fs)))
      (flat_map (file_lines blocks store) (placed_in block first fs))

-- the files of the blocks, from this block on
abbrev pub fields_left : List Block → List ℕ → ℕ → List (List ℕ)
fields_left blocks store i = flat_map (file_lines blocks store) (placed_from i (first_cell blocks i) (drop i blocks))

pub fields_begin : (blocks : List Block) (store before : List ℕ) → Left before before (fields_left blocks store 0) (field_lines blocks store)
unfolding placed_files
fields_begin blocks store before = record { same = refl }

-- records without fields have no line
pub no_fields : (blocks : List Block) (store : List ℕ) (p : Placed) → length p.file.fields ≡ 0 → file_lines blocks store p ≡ []
no_fields blocks store p none =
    let bare : p.file.fields ≡ [] = nil_from_length p.file.fields none in
    no_lines (record_lines blocks store p) (λ r. ap
    (λ (vs : List Variable). flat_map (λ (f : ℕ × Variable). line_of_field (record_name blocks p r) f.1
    (slice_index store (field_cell p r f.0))) (enumerate_from 0 vs)) bare) (range_with_len 0 p.file.size)

-- a field that has another value than its INIT value has a line
told_if_other : (b : Bool) (line : List ℕ) → b ≡ false → text_of (if b then [] else line ∷ []) ≡ written line
told_if_other b line other = ap (λ c. text_of (if c then [] else line ∷ [])) other ∙ append-nil (written line)

pub other_told : (record_is : List ℕ) (field : Variable) (value : ℕ) → (value ≡ field.init → ⊥)
    → text_of (line_of_field record_is field value) ≡ written (field_line record_is field.name value)
other_told record_is field value other = told_if_other (nat_eq value field.init) (field_line record_is field.name value) (ne_eqb value field.init other)

pub field_told : (new old record_is name : List ℕ) (field : Variable) (value : ℕ) → (value ≡ field.init → ⊥)
    → name ≡ field.name → new ≡ old ++ written (field_line record_is name value)
    → new ≡ old ++ text_of (line_of_field record_is field value)
field_told new old record_is name field value other named is =
    is ∙ ap (λ n. old ++ written (field_line record_is n value)) named ∙ ap (λ t. old ++ t) (sym (other_told record_is field value other))
