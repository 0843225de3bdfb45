-- The variables and the fields of plain files that accesses concern.
use Rattle.std.specs.Prelude.{◌≡◌, ◌↔◌, ℕ, Bool, false, true, List, Option, Some, None}
use Rattle.std.specs.List.{Contains}
use Rattle.exchange_model.specs.declared.exchange.Exchange.{Exchange}
use Rattle.flow_points.specs.Facts.{Facts}
use Rattle.entry_summary.specs.Accesses.{IsAccess}
use Rattle.entry_summary.specs.declared.summary.Access.{Access}
use Rattle.entry_summary.specs.declared.summary.Access.TheVariants.{Field, Variable}
use Rattle.entry_additions.specs.declared.cells.CellKind.{CellKind}
use Rattle.entry_additions.specs.declared.cells.CellKind.TheVariants as kind

abbrev pub is_of_variables : CellKind → Bool
is_of_variables kind.Variable = true
is_of_variables kind.Field = false

abbrev pub is_of_fields : CellKind → Bool
is_of_fields kind.Variable = false
is_of_fields kind.Field = true

abbrev pub variable_of : Access → Option ℕ
variable_of (Variable write number) = Some number
variable_of _ = None

abbrev pub field_of : Access → Option ℕ
field_of (Field write number selector) = Some number
field_of _ = None

abbrev pub written_by : Access → Option ℕ
written_by (Variable true number) = Some number
written_by _ = None

-- the variable or field that an access concerns
abbrev pub number_in : CellKind → Access → Option ℕ
number_in kind.Variable a = variable_of a
number_in kind.Field a = field_of a

-- the variable that an access writes, or the field that it concerns, read or written: a field that
-- is only added to is also written
abbrev pub listed_by : CellKind → Access → Option ℕ
listed_by kind.Variable a = written_by a
listed_by kind.Field a = field_of a

-- the accesses to variables and to fields of plain files

abbrev pub is_cell_access : Access → Bool
is_cell_access (Variable write number) = true
is_cell_access (Field write number selector) = true
is_cell_access _ = false

abbrev pub HasCells : List Access → List Access → Type 0
HasCells all some = (a : Access) → is_cell_access a ≡ true → Contains some a ↔ Contains all a

-- these accesses are those of the entry
abbrev pub AreCells : Exchange → Facts → ℕ → List Access → Type 0
AreCells x P e accesses = (a : Access) → is_cell_access a ≡ true
    → Contains accesses a ↔ IsAccess x P e a
