-- The code of FOR FIRST, SEIZE and FREE, which go through the records of a file or write all fields
-- of one.
use Rattle.std.specs.Prelude.{ℕ, ◌+◌, List, [], ◌∷◌, ◌++◌, length, Option, Some, None}
use Rattle.machine_code.specs.declared.op.Op.{Op}
use Rattle.machine_code.specs.declared.op.Op.TheVariants as op
use Rattle.exchange_model.specs.declared.block.File.{File}
use Rattle.exchange_model.specs.declared.block.Variable.{Variable}
use Rattle.exchange_model.specs.declared.expr.Rel.{Rel}
use Rattle.exchange_model.specs.Cells.{Placed, record_cells}
use Rattle.expr_code.specs.Code.{pointer_code, rel_op}
use Rattle.stmt_code.specs.declared.lengths.TheConstants.{LOOK_LENGTH, FOUND_LENGTH, AGAIN_LENGTH}

-- a search looks at the record whose number register 1 has: a word of it goes into register 2, or
-- on at an address where no record is left; the word is told for the first record of the file
abbrev pub look_code : File → ℕ → ℕ → List Op
look_code f word none =
    op.Ldi 2 f.size ∷ op.Gt 2 1 ∷ op.Jz 2 none ∷ op.Ldx 2 word (record_cells f) 1 ∷ []

-- the next record is looked at, at the head of the search
abbrev pub again_code : ℕ → List Op
again_code head = op.Ldi 2 1 ∷ op.Add 1 2 ∷ op.Jmp head ∷ []

-- to the label with the record in the temporary, or on at an address unless its word stands so to
-- the value in register 0
abbrev pub found_code : ℕ → Rel → ℕ → ℕ → List Op
found_code temp rel label other = rel_op rel 2 0 ∷ op.Jz 2 other ∷ op.Stt temp 1 ∷ op.Jmp label ∷ []

-- the search of FOR FIRST, at this address, where register 0 has the value
abbrev pub search_code : File → ℕ → ℕ → Rel → ℕ → ℕ → List Op
search_code f word temp rel label a =
    let head = a + 1 in
    let other = head + LOOK_LENGTH + FOUND_LENGTH in
    op.Ldi 1 0 ∷ (look_code f word (other + AGAIN_LENGTH)
    ++ (found_code temp rel label other ++ again_code head))

abbrev pub for_first_code : Option Placed → ℕ → ℕ → Rel → ℕ → ℕ → List Op
for_first_code None temp field rel label a = []
for_first_code (Some p) temp field rel label a =
    search_code p.file (p.first + field) temp rel label a

-- the record joins the chain and is marked, and the temporary gets its number
abbrev pub take_code : File → ℕ → ℕ → ℕ → List Op
take_code f mark file temp =
    op.Chn 1 file ∷ op.Ldi 2 1 ∷ op.Stx mark (record_cells f) 1 2 ∷ op.Stt temp 1 ∷ []

-- the search for a free record, at this address, and how that is seized; the mark is told for the
-- first record
abbrev pub free_search_code : File → ℕ → ℕ → ℕ → ℕ → ℕ → List Op
free_search_code f mark file temp label a =
    let head = a + 1 + 1 in
    let free = head + LOOK_LENGTH + 1 + AGAIN_LENGTH in
    op.Ckf ∷ op.Ldi 1 0 ∷ (look_code f mark label
    ++ (op.Jz 2 free ∷ (again_code head ++ take_code f mark file temp)))

abbrev pub seize_code : Option Placed → ℕ → ℕ → ℕ → ℕ → List Op
seize_code None file temp label a = []
seize_code (Some p) file temp label a =
    free_search_code p.file (p.first + length p.file.fields) file temp label a

-- the fields of the record in register 0 get their INIT values
abbrev pub inits_code : Placed → ℕ → List Variable → List Op
inits_code p field [] = []
inits_code p field (v ∷ rest) = op.Ldi 1 v.init ∷ op.Stx (p.first + field) (record_cells p.file) 0 1
    ∷ inits_code p (field + 1) rest

abbrev pub free_code : Option Placed → ℕ → ℕ → List Op
free_code None file temp = []
free_code (Some p) file temp =
    op.Ldt 0 temp ∷ (pointer_code p file 0 ++ (inits_code p 0 p.file.fields ++
    (op.Ldi 1 0 ∷ op.Stx (p.first + length p.file.fields) (record_cells p.file) 0 1 ∷ op.Unc 0 file
    ∷ [])))
