-- Tables of the choices of CASEs, by the points of these.
use Rattle.std.specs.Prelude.{ℕ, nat_eq, List, map, Option, IfSome}
use Rattle.std.specs.HashMap.{get}
use Rattle.std.specs.List.{AllByRecursion}
use Rattle.case_lookup.specs.Tables.{IsTable}
use Rattle.exchange_model.specs.declared.block.Block.{Block}
use Rattle.exchange_model.specs.declared.stmt.Stmt.{Stmt}
use Rattle.exchange_model.specs.declared.stmt.When.{When, out-When}
use Rattle.exchange_model.specs.declared.stmt.StmtKind.{out-StmtKind}
use Rattle.exchange_model.specs.declared.stmt.StmtKind.TheOpen as layer
use Rattle.exchange_model.specs.Everywhere.{Layer, Everywhere}
use Rattle.source_interpreter.specs.declared.cases.Cases.{Cases}

-- the table that is held for a point, if any
abbrev pub table_at : Cases → ℕ → Option (List ℕ)
table_at cases point = get nat_eq cases.tables point

-- the numbers of choices
abbrev pub numbers_of : List When → List ℕ
numbers_of whens = map (λ w. (out-When w).number) whens

-- where a table is held for a point, it is that of these choices
pub record FindsOwn (cases : Cases) (point : ℕ) (whens : List When) : Type 0 where
  pub table : IfSome (table_at cases point) (λ keys. IsTable (numbers_of whens) keys)

-- a statement at a point finds its own where it is a CASE
abbrev pub LayerOwn : Cases → ℕ → Layer → Type 0
LayerOwn cases point (layer.Case value whens otherwise) = FindsOwn cases point whens
LayerOwn cases point _ = Unit {0}

abbrev pub IsOwn : Cases → Stmt → Type 0
IsOwn cases s = LayerOwn cases s.point (out-StmtKind s.kind)

abbrev pub AllOwn : Cases → List Stmt → Type 0
AllOwn cases statements = AllByRecursion (IsOwn cases) statements

-- so does each statement of the lists in a layer
abbrev pub ListsOwn : Cases → Layer → Type 0
ListsOwn cases (layer.If cond first other) = AllOwn cases first × AllOwn cases other
ListsOwn cases (layer.Case value whens otherwise) =
    AllByRecursion (λ w. AllOwn cases (out-When w).body) whens × AllOwn cases otherwise
ListsOwn cases (layer.On temp from upto body) = AllOwn cases body
ListsOwn cases _ = Unit {0}

-- a statement and all those in it find their own
pub record IsKnown (cases : Cases) (s : Stmt) : Type 0 where
  pub own : IsOwn cases s
  pub inner : Everywhere (ListsOwn cases) s.kind

-- so do all statements of a list, those of a choice, and those of a block
abbrev pub AreKnown : Cases → List Stmt → Type 0
AreKnown cases statements = AllByRecursion (IsKnown cases) statements

abbrev pub WhenKnown : Cases → When → Type 0
WhenKnown cases w = AreKnown cases (out-When w).body

abbrev pub BlockKnown : Cases → Block → Type 0
BlockKnown cases b = AreKnown cases b.body

-- and those of all blocks: so the tables are theirs
unfoldable pub AreTablesOf : Cases → List Block → Type 0
AreTablesOf cases blocks = AllByRecursion (BlockKnown cases) blocks

-- the same of a CASE at a point, told part by part
pub record CaseKnown (cases : Cases) (point : ℕ) (whens : List When) (otherwise : List Stmt) : Type
    0 where
  pub own : FindsOwn cases point whens
  pub choices : AllByRecursion (WhenKnown cases) whens
  pub other : AreKnown cases otherwise

-- and of any statement at a point
abbrev pub LayerKnown : Cases → ℕ → Layer → Type 0
LayerKnown cases point (layer.If cond first other) = AreKnown cases first × AreKnown cases other
LayerKnown cases point (layer.Case value whens otherwise) = CaseKnown cases point whens otherwise
LayerKnown cases point (layer.On temp from upto body) = AreKnown cases body
LayerKnown cases point _ = Unit {0}
