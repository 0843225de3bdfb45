-- Statements with numbers for names, one line for each alternative of the grammar. Each is made
-- from the number that it gets, and leaves the number of the next one.
use Rattle.std.specs.Prelude.{ℕ, ◌+◌, List, [], ◌∷◌, map, unwrap_or}
use Rattle.plex_ast.specs.declared.stmt.Stmt.{Stmt, fold-Stmt}
use Rattle.plex_ast.specs.declared.stmt.When.{When, fold-When}
use Rattle.plex_ast.specs.declared.stmt.StmtKind.{StmtKind, StmtKind-F, fold-StmtKind}
use Rattle.plex_ast.specs.declared.stmt.StmtKind.TheOpen as tree
use Rattle.plex_ast.specs.declared.stmt.StmtKind.TheOpen.{Stmt-F, When-F}
use Rattle.exchange_model.specs.declared.stmt.Stmt.{Stmt as MStmt}
use Rattle.exchange_model.specs.declared.stmt.When.{When as MWhen, roll-When}
use Rattle.exchange_model.specs.declared.stmt.StmtKind.{StmtKind as MKind}
use Rattle.exchange_model.specs.declared.stmt.StmtKind.TheVariants as stmt
use Rattle.resolved_block.specs.Names.{Env}
use Rattle.resolved_block.specs.Meant.{temporary_of, file_of, field_file, field_place, label_of}
use Rattle.resolved_block.specs.Meant.{signal_of, target_in, sent_to}
use Rattle.resolved_block.specs.Expressions.{typed_expr, typed_cond, typed_rel, typed_values}
use Rattle.resolved_block.specs.Expressions.{typed_temps}

-- made from the number of the next statement, with the number after what is made
abbrev pub Made : Type 0 → Type 0
Made A = ℕ → A × ℕ

-- one after the other
abbrev pub in_turn : {A : Type 0} → List (Made A) → Made (List A)
in_turn [] point = ([], point)
in_turn (m ∷ ms) point = ((m point).0 ∷ (in_turn ms (m point).1).0, (in_turn ms (m point).1).1)

-- what stands in a statement is numbered after it
abbrev pub kind_layer : Env → StmtKind-F (Made MKind) (Made MStmt) (Made MWhen) → Made MKind
kind_layer env (tree.Assign n e) point = (target_in (env.name n.name) (typed_expr env e), point)
kind_layer env (tree.SetField n pointer e) point = (
  stmt.SetField (field_file env n)
      (field_place env n) (temporary_of env pointer) (typed_expr env e),
  point,
)
kind_layer env (tree.Goto l) point = (stmt.Goto (label_of env l), point)
kind_layer env (tree.IfGoto c l) point = (stmt.IfGoto (typed_cond env c) (label_of env l), point)
kind_layer env (tree.If c first other) point =
    let a = in_turn first point in
    let b = in_turn (unwrap_or other []) a.1 in
    (stmt.If (typed_cond env c) a.0 b.0, b.1)
kind_layer env (tree.Case e whens other) point =
    let a = in_turn whens point in
    let b = in_turn other a.1 in
    (stmt.Case (typed_expr env e) a.0 b.0, b.1)
kind_layer env (tree.On n from upto body) point =
    let a = in_turn body point in
    (stmt.On (temporary_of env n) (typed_expr env from) (typed_expr env upto) a.0, a.1)
kind_layer env (tree.ForFirst n file field r e l) point = (
  stmt.ForFirst (temporary_of env n) (file_of env file) (field_place env field)
      (typed_rel r.kind) (typed_expr env e) (label_of env l),
  point,
)
kind_layer env (tree.Send s r es fresh) point =
    (stmt.Send (signal_of env s) (sent_to env s r) (typed_values env es) fresh, point)
kind_layer env (tree.Retrieve s ns) point =
    (stmt.Retrieve (signal_of env s) (typed_temps env ns), point)
kind_layer env (tree.Return s es) point =
    (stmt.Return (signal_of env s) (typed_values env es), point)
kind_layer env (tree.Transfer s r) point =
    (stmt.Transfer (signal_of env s) (sent_to env s r), point)
kind_layer env (tree.Seize n file l) point =
    (stmt.Seize (temporary_of env n) (file_of env file) (label_of env l), point)
kind_layer env (tree.Free n file) point = (stmt.Free (temporary_of env n) (file_of env file), point)
kind_layer env tree.Exit point = (stmt.Exit, point)

abbrev pub stmt_layer : Stmt-F (Made MKind) (Made MStmt) (Made MWhen) → Made MStmt
stmt_layer s point =
    let k = s.kind (point + 1) in
    (record { point = point; line = s.line; kind = k.0 }, k.1)

abbrev pub when_layer : When-F (Made MKind) (Made MStmt) (Made MWhen) → Made MWhen
when_layer w point =
    let b = in_turn w.body point in
    (roll-When (record { number = w.number.value; body = b.0 }), b.1)

unfoldable pub typed_kind : Env → StmtKind → Made MKind
typed_kind env = fold-StmtKind (Made MKind) (Made MStmt) (Made MWhen) (kind_layer env) stmt_layer
    when_layer

unfoldable pub typed_stmt : Env → Stmt → Made MStmt
typed_stmt env = fold-Stmt (Made MKind) (Made MStmt) (Made MWhen) (kind_layer env) stmt_layer
    when_layer

unfoldable pub typed_when : Env → When → Made MWhen
typed_when env = fold-When (Made MKind) (Made MStmt) (Made MWhen) (kind_layer env) stmt_layer
    when_layer

-- the statements of a list
abbrev pub typed_list : Env → List Stmt → Made (List MStmt)
typed_list env stmts = in_turn (map (typed_stmt env) stmts)

-- the choices of a CASE
abbrev pub typed_whens : Env → List When → Made (List MWhen)
typed_whens env whens = in_turn (map (typed_when env) whens)
