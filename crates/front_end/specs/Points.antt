-- The points of statements, of a block of this number.
use Rattle.std.specs.Prelude.{ℕ, List, map}
use Rattle.std.specs.List.{flat_map}
use Rattle.exchange_model.specs.declared.entry.PointInfo.{PointInfo}
use Rattle.exchange_model.specs.declared.stmt.Stmt.{Stmt}
use Rattle.exchange_model.specs.declared.stmt.StmtKind.{StmtKind}
use Rattle.exchange_model.specs.declared.stmt.When.{When}
use Rattle.exchange_model.specs.Inside.{PointLine, inner_spots}
use Rattle.exchange_model.specs.PartCounts.{stmt_spots, when_spots}

abbrev pub point_of : ℕ → PointLine → PointInfo
point_of b s = record { block = b; line = s.line }

abbrev pub stmt_points : ℕ → Stmt → List PointInfo
stmt_points b s = map (point_of b) (stmt_spots s)

abbrev pub kind_points : ℕ → StmtKind → List PointInfo
kind_points b k = map (point_of b) (inner_spots k)

abbrev pub when_points : ℕ → When → List PointInfo
when_points b w = map (point_of b) (when_spots w)

abbrev pub body_points : ℕ → List Stmt → List PointInfo
body_points b stmts = flat_map (stmt_points b) stmts
