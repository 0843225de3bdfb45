-- What is said of all layers of a statement, at whatever depth: one layer, and the same of each of
-- its parts.
use Rattle.std.specs.Prelude.{List}
use Rattle.std.specs.List.{AllByRecursion}
use Rattle.exchange_model.specs.declared.stmt.Stmt.{Stmt}
use Rattle.exchange_model.specs.declared.stmt.When.{When, out-When}
use Rattle.exchange_model.specs.declared.stmt.StmtKind.{StmtKind, StmtKind-F, every-StmtKind}
use Rattle.exchange_model.specs.declared.stmt.StmtKind.TheOpen as layer

-- one layer of a statement, with the statements in it
abbrev pub Layer : Type 0
Layer = StmtKind-F StmtKind Stmt When

-- each layer of a statement keeps it
unfoldable pub Everywhere : (Layer → Type 0) → StmtKind → Type 0
Everywhere P = every-StmtKind P (λ _. Unit {0}) (λ _. Unit {0})

-- all of these statements, with all those in them, keep it
abbrev pub AllIn : (Layer → Type 0) → List Stmt → Type 0
AllIn P list = AllByRecursion (λ (one : Stmt). Everywhere P one.kind) list

-- the statements in one layer
abbrev pub PartsKeep : {K : Type 0} → (Layer → Type 0) → StmtKind-F K Stmt When → Type 0
PartsKeep P (layer.If cond yes_part no_part) = AllIn P yes_part × AllIn P no_part
PartsKeep P (layer.Case value whens otherwise) =
    AllByRecursion (λ w. AllIn P (out-When w).body) whens × AllIn P otherwise
PartsKeep P (layer.On temp from upto body) = AllIn P body
PartsKeep P _ = Unit {0}
