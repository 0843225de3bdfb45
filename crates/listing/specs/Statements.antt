-- One line between the first and the last, as it is read.
use Rattle.std.specs.Prelude.{◌≡◌, ◌≢◌, ℕ, Bool, true, ◌⊎◌, List, [], ◌∷◌, ◌++◌, length, map}
use Rattle.std.specs.Prelude.{Option, Some, None, Result, Ok, Err, codes}
use Rattle.machine_code.specs.declared.op.Op.{Op}
use Rattle.machine_code.specs.Operands.{OpFits, IsNumber}
use Rattle.listing.specs.declared.fault.LineFault.{LineFault}
use Rattle.listing.specs.declared.fault.LineFault.TheVariants.{Form, Operand}
use Rattle.listing.specs.declared.fault.ListFault.{ListFault}
use Rattle.listing.specs.declared.fault.ListFault.TheVariants.{BadLine, BadOperand}
use Rattle.listing.specs.declared.statement.Statement.{Statement}
use Rattle.listing.specs.declared.statement.Statement.TheVariants.{Entry, Instruction}
use Rattle.listing.specs.Forms.{HasEntryForm, HasOpForm, IsEntryLine, IsOpLine}
use Rattle.listing.specs.Instructions.{written}
use Rattle.listing.specs.Listing.{entry_line, last_line, op_line}

-- the instruction is written with this name and these operands, each in its range
pub record IsNamed (name : List ℕ) (os : List (Option ℕ)) (op : Op) : Type 0 where
  pub named : (written op).name ≡ name
  pub operands : os ≡ map (λ n. Some n) (written op).operands
  pub fits : OpFits op

-- it has this name, and as many operands
pub record IsAlike (name : List ℕ) (os : List (Option ℕ)) (op : Op) : Type 0 where
  pub named : (written op).name ≡ name
  pub as_many : length os ≡ length (written op).operands

-- a name and operands are read
abbrev pub ReadsNamed : List ℕ → List (Option ℕ) → Result Op LineFault → Type 0
ReadsNamed name os (Ok op) = IsNamed name os op
ReadsNamed name os (Err Form) = (op : Op) → IsAlike name os op → ⊥
ReadsNamed name os (Err Operand) =
    ((op : Op) × IsAlike name os op) × ((op : Op) → IsNamed name os op → ⊥)

-- the operands of the entry i are read
abbrev pub ReadsAddress : ℕ → List (Option ℕ) → Result ℕ LineFault → Type 0
ReadsAddress i os (Ok address) = os ≡ Some i ∷ Some address ∷ []
ReadsAddress i os (Err Form) = (o : Option ℕ) → os ≢ Some i ∷ o ∷ []
ReadsAddress i os (Err Operand) = os ≡ Some i ∷ None ∷ []

-- the operands are those of the entry i, at this address
pub record IsEntry (i : ℕ) (at_entries : Bool) (name : List ℕ) (os : List (Option ℕ))
    (address : ℕ) : Type 0 where
  pub here : at_entries ≡ true
  pub named : name ≡ codes "ENTRY"
  pub operands : os ≡ Some i ∷ Some address ∷ []
  pub fits : IsNumber address

-- they are neither those of the entry i, whatever its address is, nor as many as those of an
-- instruction of the name
pub record AreStrange (i : ℕ) (at_entries : Bool) (name : List ℕ) (os : List (Option ℕ)) : Type
    0 where
  pub entry : (address : Option ℕ) → at_entries ≡ true → name ≡ codes "ENTRY"
      → os ≢ Some i ∷ address ∷ []
  pub op : (op : Op) → IsAlike name os op → ⊥

-- they are, but one is out of its range
pub record AreOutside (i : ℕ) (at_entries : Bool) (name : List ℕ) (os : List (Option ℕ)) : Type
    0 where
  pub form : ((at_entries ≡ true) × (name ≡ codes "ENTRY") × (os ≡ Some i ∷ None ∷ []))
      ⊎ ((op : Op) × IsAlike name os op)
  pub entry : (address : ℕ) → name ≡ codes "ENTRY" → os ≢ Some i ∷ Some address ∷ []
  pub op : (op : Op) → IsNamed name os op → ⊥

-- a name and operands are read behind i entries
abbrev pub ReadsParts : ℕ → Bool → List ℕ → List (Option ℕ) → Result Statement LineFault → Type 0
ReadsParts i at_entries name os (Ok (Entry address)) = IsEntry i at_entries name os address
ReadsParts i at_entries name os (Ok (Instruction op)) = IsNamed name os op
ReadsParts i at_entries name os (Err Form) = AreStrange i at_entries name os
ReadsParts i at_entries name os (Err Operand) = AreOutside i at_entries name os

-- no line of the form: neither the entry i, where entries may stand, nor an instruction, nor the
-- last line
pub record HasNoForm (i : ℕ) (at_entries : Bool) (line : List ℕ) : Type 0 where
  pub entry : at_entries ≡ true → HasEntryForm i line → ⊥
  pub op : HasOpForm line → ⊥
  pub last : line ≢ last_line

-- an operand is out of its range
pub record HasBadNumber (i : ℕ) (at_entries : Bool) (line : List ℕ) : Type 0 where
  pub form : ((at_entries ≡ true) × HasEntryForm i line) ⊎ HasOpForm line
  pub entry : IsEntryLine i line → ⊥
  pub op : IsOpLine line → ⊥
  pub last : line ≢ last_line

-- a line's fault as that of the text
abbrev pub fault_at : LineFault → ℕ → ListFault
fault_at Form l = BadLine l
fault_at Operand l = BadOperand l

-- a line that is not the last is read behind i entries, where entries may stand only if all lines
-- so far are entries
abbrev pub ReadsStatement : ℕ → Bool → List ℕ → Result Statement LineFault → Type 0
ReadsStatement i at_entries line (Ok (Entry address)) =
    (at_entries ≡ true) × IsNumber address × (line ≡ entry_line i address)
ReadsStatement i at_entries line (Ok (Instruction op)) = OpFits op × (line ≡ op_line op)
ReadsStatement i at_entries line (Err Form) = HasNoForm i at_entries line
ReadsStatement i at_entries line (Err Operand) = HasBadNumber i at_entries line

-- instructions and entries with one more
abbrev pub AddsStatement : Statement → List Op → List ℕ → List Op → List ℕ → Type 0
AddsStatement (Entry address) ops entries new_ops new_entries =
    (new_ops ≡ ops) × (new_entries ≡ entries ++ address ∷ [])
AddsStatement (Instruction op) ops entries new_ops new_entries =
    (new_ops ≡ ops ++ op ∷ []) × (new_entries ≡ entries)
