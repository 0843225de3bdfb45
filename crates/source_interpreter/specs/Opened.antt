-- The stored words once a record has its INIT values.
use Rattle.std.specs.Prelude.{ℕ, ◌+◌, List, [], ◌∷◌, slice_set}
use Rattle.exchange_model.specs.declared.block.Variable.{Variable}
use Rattle.exchange_model.specs.Cells.{Placed, field_cell, mark_cell}

-- these fields, from this one on, have their INIT values
abbrev pub fields_opened : Placed → ℕ → ℕ → List Variable → List ℕ → List ℕ
fields_opened p number field [] store = store
fields_opened p number field (v ∷ rest) store =
    fields_opened p number (field + 1) rest (slice_set store (field_cell p number field) v.init)

-- and the record is marked free
abbrev pub opened : Placed → ℕ → List ℕ → List ℕ
opened p number store =
    slice_set (fields_opened p number 0 p.file.fields store) (mark_cell p number) 0
