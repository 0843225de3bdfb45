-- One layer of a statement, opened.
use Rattle.std.proofs.Common.{◌≡◌, ℕ, List, ◌+◌, map, sym, ◌∙◌, ap}
use Rattle.plex_ast.specs.declared.stmt.Stmt.{Stmt, fold_out-Stmt}
use Rattle.plex_ast.specs.declared.stmt.When.{When, out-When, fold_out-When}
use Rattle.plex_ast.specs.declared.stmt.StmtKind.{StmtKind, StmtKind-F, out-StmtKind}
use Rattle.plex_ast.specs.declared.stmt.StmtKind.{fold_out-StmtKind, map-StmtKind}
use Rattle.exchange_model.specs.declared.stmt.Stmt.{Stmt as MStmt}
use Rattle.exchange_model.specs.declared.stmt.When.{When as MWhen, roll-When}
use Rattle.exchange_model.specs.declared.stmt.StmtKind.{StmtKind as MKind}
use Rattle.resolved_block.specs.Names.{Env}
use Rattle.resolved_block.specs.Statements.{Made, kind_layer, stmt_layer, when_layer, typed_kind}
use Rattle.resolved_block.specs.Statements.{typed_stmt, typed_when, typed_list}

-- one layer, in which the parts are those of the tree
abbrev pub opened : Env → StmtKind-F StmtKind Stmt When → StmtKind-F (Made MKind) (Made MStmt) (Made MWhen)
opened env l = map-StmtKind StmtKind Stmt When (Made MKind) (Made MStmt) (Made MWhen) (typed_kind env) (typed_stmt env) (typed_when env) l

module _ (env : Env) where
  pub typed_kind-out : (k : StmtKind) → typed_kind env k ≡ kind_layer env (opened env (out-StmtKind k))
  unfolding typed_kind typed_stmt typed_when
  typed_kind-out k = fold_out-StmtKind (Made MKind) (Made MStmt) (Made MWhen) (kind_layer env) stmt_layer when_layer k

  pub typed_stmt-out : (s : Stmt) → typed_stmt env s ≡ stmt_layer (record { line = s.line; kind = typed_kind env s.kind })
  unfolding typed_kind typed_stmt typed_when
  typed_stmt-out s = fold_out-Stmt (Made MKind) (Made MStmt) (Made MWhen) (kind_layer env) stmt_layer when_layer s

  pub typed_when-out : (w : When) → typed_when env w
      ≡ when_layer (record {
        line = (out-When w).line;
        number = (out-When w).number;
        body = map (typed_stmt env) (out-When w).body;
      })
  unfolding typed_kind typed_stmt typed_when
  typed_when-out w = fold_out-When (Made MKind) (Made MStmt) (Made MWhen) (kind_layer env) stmt_layer when_layer w

  -- one layer of a kind, from the form that it has in the program
  pub kind_is : (k : StmtKind) (l : StmtKind-F StmtKind Stmt When) (p : ℕ) → out-StmtKind k ≡ l → typed_kind env k p ≡ kind_layer env (opened env l) p
  kind_is k l p is = ap (λ g. g p) (typed_kind-out k) ∙ ap (λ x. kind_layer env (opened env x) p) is

  pub typed_stmt-at : (s : Stmt) (p : ℕ) → typed_stmt env s p
      ≡ (
        record { point = p; line = s.line; kind = (typed_kind env s.kind (p + 1)).0 },
        (typed_kind env s.kind (p + 1)).1,
      )
  typed_stmt-at s p = ap (λ m. m p) (typed_stmt-out s)

  pub typed_when-at : (w : When) (p : ℕ) → typed_when env w p
      ≡ (
        roll-When (record { number = (out-When w).number.value; body = (typed_list env (out-When w).body p).0 }),
        (typed_list env (out-When w).body p).1,
      )
  typed_when-at w p = ap (λ m. m p) (typed_when-out w)

  -- a value that was made of its parts, and the number after it

  pub stmt_made : (s : Stmt) (p : ℕ) (k : MKind) → k ≡ (typed_kind env s.kind (p + 1)).0
      → record { point = p; line = s.line; kind = k } ≡ (typed_stmt env s p).0
  stmt_made s p k is = ap (λ x. record { point = p; line = s.line; kind = x }) is ∙ sym (ap (λ m. m.0) (typed_stmt-at s p))

  pub stmt_next : (s : Stmt) (p after : ℕ) → after ≡ (typed_kind env s.kind (p + 1)).1 → after ≡ (typed_stmt env s p).1
  stmt_next s p after is = is ∙ sym (ap (λ m. m.1) (typed_stmt-at s p))

  pub when_made : (w : When) (p : ℕ) (b : List MStmt) → b ≡ (typed_list env (out-When w).body p).0
      → roll-When (record { number = (out-When w).number.value; body = b }) ≡ (typed_when env w p).0
  when_made w p b is = ap (λ x. roll-When (record { number = (out-When w).number.value; body = x })) is ∙ sym (ap (λ m. m.0) (typed_when-at w p))

  pub when_next : (w : When) (p after : ℕ) → after ≡ (typed_list env (out-When w).body p).1 → after ≡ (typed_when env w p).1
  when_next w p after is = is ∙ sym (ap (λ m. m.1) (typed_when-at w p))
