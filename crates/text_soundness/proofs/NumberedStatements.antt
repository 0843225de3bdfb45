-- A typed statement and those in it are numbered in the order of the text.
use Rattle.std.proofs.Common.{◌≡◌, ℕ, ◌+◌, List, [], ◌∷◌, ◌++◌, map, Option, Some, None, refl, sym}
use Rattle.std.proofs.Common.{◌∙◌, ap, subst}
use Rattle.plex_ast.specs.declared.stmt.StmtKind.TheOpen as tree
use Rattle.plex_ast.specs.declared.stmt.Stmt.{Stmt, roll-Stmt, map-Stmt}
use Rattle.plex_ast.specs.declared.stmt.When.{When, out-When, roll-When, out-roll-When}
use Rattle.plex_ast.specs.declared.stmt.StmtKind.{StmtKind, StmtKind-F, out-StmtKind, roll-StmtKind}
use Rattle.plex_ast.specs.declared.stmt.StmtKind.{ind-StmtKind, out-roll-StmtKind, map-StmtKind}
use Rattle.text_events.specs.declared.role.Meaning.{Meaning}
use Rattle.text_events.specs.declared.role.Meaning.TheVariants.{Variable, Temporary, File, Field}
use Rattle.text_events.specs.declared.role.Meaning.TheVariants.{Label}
use Rattle.exchange_model.specs.declared.expr.Expr.{Expr as MExpr}
use Rattle.exchange_model.specs.declared.stmt.Stmt.{Stmt as MStmt}
use Rattle.exchange_model.specs.declared.stmt.When.{When as MWhen, When-F as MWhen-F}
use Rattle.exchange_model.specs.declared.stmt.When.{out-roll-When as out-roll-MWhen}
use Rattle.exchange_model.specs.declared.stmt.StmtKind.{StmtKind as MKind, StmtKind-F as MKind-F}
use Rattle.exchange_model.specs.declared.stmt.StmtKind.{out-StmtKind as out-MKind}
use Rattle.exchange_model.specs.declared.stmt.StmtKind.TheVariants as stmt
use Rattle.exchange_model.specs.Inside.{PointLine, spots, joined, inner_spots}
use Rattle.exchange_model.specs.PartCounts.{parts_spots, when_spots, stmt_spots}
use Rattle.exchange_model.proofs.Counted.{inner_spots-out}
use Rattle.resolved_block.specs.Meant.{byte_of, target_in}
use Rattle.resolved_block.specs.Expressions.{typed_expr, typed_cond}
use Rattle.resolved_block.specs.Names.{Env}
use Rattle.resolved_block.specs.Meant.{temporary_of}
use Rattle.resolved_block.specs.Statements.{in_turn, kind_layer, typed_kind, typed_stmt, typed_when}
use Rattle.resolved_block.specs.Statements.{typed_list}
use Rattle.resolved_block.proofs.Turns.{opened}
use Rattle.text_soundness.proofs.Ranges.{Follows, follows_none, follows_first, follows_join}
use Rattle.resolved_block.proofs.Turns.{typed_kind-out, typed_stmt-at, typed_when-at}

set_temp_alone : (t : ℕ) (e : MExpr) → inner_spots (stmt.SetTemp t e) ≡ []
set_temp_alone t e = inner_spots-out (stmt.SetTemp t e) ∙ ap parts_spots (stmt.outs-SetTemp t e)

target_alone : (m : Option Meaning) (e : MExpr) → inner_spots (target_in m e) ≡ []
target_alone None e = set_temp_alone 0 e
target_alone (Some (Variable v)) e = inner_spots-out (stmt.SetVariable v e) ∙ ap parts_spots (stmt.outs-SetVariable v e)
target_alone (Some (Temporary t)) e = set_temp_alone (byte_of t) e
target_alone (Some (File f forlopp)) e = set_temp_alone 0 e
target_alone (Some (Field f field)) e = set_temp_alone 0 e
target_alone (Some (Label l)) e = set_temp_alone 0 e

-- a kind whose statement holds none
pub alone : (k : MKind) (l : MKind-F MKind MStmt MWhen) (p q : ℕ) → out-MKind k ≡ l → parts_spots l ≡ [] → q ≡ p → Follows (inner_spots k) p q
alone k l p q is none same = rw (inner_spots-out k, is, none, same) (follows_none p)

module _ (env : Env) where
  abbrev KindFollows : StmtKind → Type 0
  KindFollows k = (p : ℕ) → Follows (inner_spots (typed_kind env k p).0) p (typed_kind env k p).1

  abbrev StmtFollows : Stmt → Type 0
  StmtFollows s = (p : ℕ) → Follows (stmt_spots (typed_stmt env s p).0) p (typed_stmt env s p).1

  abbrev WhenFollows : When → Type 0
  WhenFollows w = (p : ℕ) → Follows (when_spots (typed_when env w p).0) p (typed_when env w p).1

  abbrev LayerFollows : StmtKind-F StmtKind Stmt When → Type 0
  LayerFollows l = (p : ℕ) → Follows (inner_spots (kind_layer env (opened env l) p).0) p (kind_layer env (opened env l) p).1

  stmts_follow : (ss : List ((s : Stmt) × StmtFollows s)) (p : ℕ)
      → Follows (spots (typed_list env (map (λ e. e.0) ss) p).0) p (typed_list env (map (λ e. e.0) ss) p).1
  stmts_follow [] p = follows_none p
  stmts_follow (s ∷ ss) p =
      let m = typed_stmt env s.0 p in
      let r = typed_list env (map (λ e. e.0) ss) m.1 in
      follows_join (stmt_spots m.0) (spots r.0) p m.1 r.1 (s.1 p) (stmts_follow ss m.1)

  whens_follow : (ws : List ((w : When) × WhenFollows w)) (p : ℕ)
      → Follows (joined (map when_spots (in_turn (map (typed_when env) (map (λ e. e.0) ws)) p).0)) p
      (in_turn (map (typed_when env) (map (λ e. e.0) ws)) p).1
  whens_follow [] p = follows_none p
  whens_follow (w ∷ ws) p =
      let m = typed_when env w.0 p in
      let r = in_turn (map (typed_when env) (map (λ e. e.0) ws)) m.1 in
      follows_join (when_spots m.0) (joined (map when_spots r.0)) p m.1 r.1 (w.1 p) (whens_follow ws m.1)

  two_follow : (k : MKind) (xs ys : List PointLine) (p q r : ℕ) → inner_spots k ≡ xs ++ ys → Follows xs p q → Follows ys q r → Follows (inner_spots k) p r
  two_follow k xs ys p q r is f g = rw is (follows_join xs ys p q r f g)

  layer_follows : (y : StmtKind-F ((k : StmtKind) × KindFollows k) ((s : Stmt) × StmtFollows s)
      ((w : When) × WhenFollows w)) → LayerFollows (map-StmtKind _ _ _ _ _ _ (λ e. e.0) (λ e. e.0) (λ e. e.0) y)
  layer_follows (tree.Assign n e) p = rw (target_alone (env.name n.name) (typed_expr env e)) (follows_none p)
  layer_follows (tree.SetField n pointer e) p = alone _ _ p p (stmt.outs-SetField _ _ _ _) refl refl
  layer_follows (tree.Goto l) p = alone _ _ p p (stmt.outs-Goto _) refl refl
  layer_follows (tree.IfGoto c l) p = alone _ _ p p (stmt.outs-IfGoto _ _) refl refl
  layer_follows (tree.If c first None) p =
      let a = typed_list env (map (λ e. e.0) first) p in
      two_follow (stmt.If (typed_cond env c) a.0 []) (spots a.0) [] p a.1 a.1
      (inner_spots-out _ ∙ ap parts_spots (stmt.outs-If _ _ _)) (stmts_follow first p) (follows_none a.1)
  layer_follows (tree.If c first (Some other)) p =
      let a = typed_list env (map (λ e. e.0) first) p in
      let b = typed_list env (map (λ e. e.0) other) a.1 in
      two_follow (stmt.If (typed_cond env c) a.0 b.0) (spots a.0) (spots b.0) p a.1 b.1
      (inner_spots-out _ ∙ ap parts_spots (stmt.outs-If _ _ _)) (stmts_follow first p) (stmts_follow other a.1)
  layer_follows (tree.Case e whens other) p =
      let a = in_turn (map (typed_when env) (map (λ e. e.0) whens)) p in
      let b = typed_list env (map (λ e. e.0) other) a.1 in
      two_follow (stmt.Case (typed_expr env e) a.0 b.0) (joined (map when_spots a.0)) (spots b.0) p a.1 b.1
      (inner_spots-out _ ∙ ap parts_spots (stmt.outs-Case _ _ _)) (whens_follow whens p) (stmts_follow other a.1)
  layer_follows (tree.On n from upto body) p =
      let a = typed_list env (map (λ e. e.0) body) p in
      rw (inner_spots-out (stmt.On (temporary_of env n) (typed_expr env from) (typed_expr env upto) a.0)
      ∙ ap parts_spots (stmt.outs-On _ _ _ _)) (stmts_follow body p)
  layer_follows (tree.ForFirst n file field r e l) p = alone _ _ p p (stmt.outs-ForFirst _ _ _ _ _ _) refl refl
  layer_follows (tree.Send s r es fresh) p = alone _ _ p p (stmt.outs-Send _ _ _ _) refl refl
  layer_follows (tree.Retrieve s ns) p = alone _ _ p p (stmt.outs-Retrieve _ _) refl refl
  layer_follows (tree.Return s es) p = alone _ _ p p (stmt.outs-Return _ _) refl refl
  layer_follows (tree.Transfer s r) p = alone _ _ p p (stmt.outs-Transfer _ _) refl refl
  layer_follows (tree.Seize n file l) p = alone _ _ p p (stmt.outs-Seize _ _ _) refl refl
  layer_follows (tree.Free n file) p = alone _ _ p p (stmt.outs-Free _ _) refl refl
  layer_follows tree.Exit p = alone _ _ p p stmt.outs-Exit refl refl

  kind_step : (k : StmtKind) (l : StmtKind-F StmtKind Stmt When) → out-StmtKind k ≡ l → LayerFollows l → KindFollows k
  kind_step k l is h p =
      let e : typed_kind env k p ≡ kind_layer env (opened env l) p = ap (λ g. g p) (typed_kind-out env k) ∙ ap (λ x. kind_layer env (opened env x) p) is in
      rw e (h p)

  stmt_step : (s : Stmt) → KindFollows s.kind → StmtFollows s
  stmt_step s h p =
      let k = typed_kind env s.kind (p + 1) in
      rw (typed_stmt-at env s p) (follows_first (record { point = p; line = s.line }) (inner_spots k.0) k.1 (h (p + 1)))

  when_step : (w : When) (body : List ((s : Stmt) × StmtFollows s)) → (out-When w).body ≡ map (λ e. e.0) body → WhenFollows w
  when_step w body is p =
      let b = typed_list env (out-When w).body p in
      let held : Follows (spots b.0) p b.1 = rw is (stmts_follow body p) in
      rw (
        typed_when-at env w p,
        ap (λ (l : MWhen-F MKind MStmt MWhen). spots l.body)
            (out-roll-MWhen (record { number = (out-When w).number.value; body = b.0 })),
      ) held

  pub kind_follows : (k : StmtKind) → KindFollows k
  kind_follows = ind-StmtKind KindFollows StmtFollows WhenFollows
      (λ x y is. kind_step (roll-StmtKind x) x (out-roll-StmtKind x) (subst LayerFollows is (layer_follows y)))
      (λ x y is. subst (λ z. StmtFollows (roll-Stmt z)) is (stmt_step (roll-Stmt (map-Stmt _ _ _ _ _ _ (λ e. e.0) (λ e. e.0) (λ e. e.0) y)) y.kind.1))
      (λ x y is. when_step (roll-When x) y.body
      (ap (λ (l : tree.When-F StmtKind Stmt When). l.body) (out-roll-When x)
      ∙ sym (ap (λ (l : tree.When-F StmtKind Stmt When). l.body) is)))

  pub stmt_follows : (s : Stmt) → StmtFollows s
  stmt_follows s = stmt_step s (kind_follows s.kind)
