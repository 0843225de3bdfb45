-- The choices of the CASEs of a text are no more than its tokens: each is spelled with a WHEN of
-- its own.
use Rattle.std.proofs.Common.{◌≡◌, ℕ, ◌+◌, ◌≤◌, zero, suc, Bool, true, List, [], ◌∷◌, length, map}
use Rattle.std.proofs.Common.{Option, Some, None, sym, ◌∙◌, ap, subst, arith, length-append}
use Rattle.plex_lexer.specs.declared.token.Token.{Token}
use Rattle.token_grammar.specs.Language.{Lang, word, ◌·◌, on, each}
use Rattle.plex_ast.specs.declared.stmt.Stmt.{Stmt}
use Rattle.plex_ast.specs.declared.stmt.When.{When, out-When}
use Rattle.plex_ast.specs.declared.stmt.StmtKind.{StmtKind, StmtKind-F, out-StmtKind}
use Rattle.plex_ast.specs.declared.stmt.StmtKind.TheOpen as tree
use Rattle.plex_ast.specs.Words.{WHEN}
use Rattle.plex_ast.specs.Grammar.{when_with, kind_at, stmt_with, body}
use Rattle.exchange_model.specs.declared.expr.Expr.{Expr as MExpr}
use Rattle.exchange_model.specs.declared.stmt.Stmt.{Stmt as MStmt}
use Rattle.exchange_model.specs.declared.stmt.When.{When as MWhen, out-When as mout-When}
use Rattle.exchange_model.specs.declared.stmt.When.{out-roll-When}
use Rattle.exchange_model.specs.declared.stmt.StmtKind.{StmtKind as MKind, StmtKind-F as MKind-F}
use Rattle.exchange_model.specs.declared.stmt.StmtKind.{out-StmtKind as mout-StmtKind}
use Rattle.exchange_model.specs.declared.stmt.StmtKind.TheVariants as stmt
use Rattle.exchange_model.specs.Inside.{total, inner_whens, when_count}
use Rattle.exchange_model.specs.PartCounts.{when_whens, parts_whens}
use Rattle.exchange_model.proofs.Counted.{inner_whens-out}
use Rattle.text_events.specs.declared.role.Meaning.{Meaning}
use Rattle.text_events.specs.declared.role.Meaning.TheVariants.{Variable, Temporary, File, Field}
use Rattle.text_events.specs.declared.role.Meaning.TheVariants.{Label}
use Rattle.resolved_block.specs.Meant.{target_in}
use Rattle.resolved_block.specs.Names.{Env}
use Rattle.resolved_block.specs.Statements.{in_turn, kind_layer, typed_stmt, typed_when, typed_list}
use Rattle.resolved_block.proofs.Turns.{opened}
use Rattle.resolved_block.proofs.Turns.{typed_kind-out, typed_stmt-at, typed_when-at}

-- what these tokens spell takes so many of them
pub record AtLeast (n : ℕ) (L : Lang) : Type 0 where
  pub long : (u : List Token) → L u → n ≤ length u

pub least_none : {L : Lang} → AtLeast 0 L
least_none = record { long = λ u h. omega arith }

pub least_then : {n m : ℕ} {L M : Lang} → AtLeast n L → AtLeast m M → AtLeast (n + m) (L · M)
least_then {n} {m} {L} {M} x y = record { long = long }
  where
    long : (u : List Token) → (L · M) u → n + m ≤ length u
    long u (a, b, is, l, r) =
        let first = x.long a l in
        let second = y.long b r in
        let both : length u ≡ length a + length b = ap length is ∙ length-append a b in
        omega arith

pub least_after : {m : ℕ} {L M : Lang} → AtLeast m M → AtLeast m (L · M)
least_after {m} {L} {M} y = record { long = long }
  where
    long : (u : List Token) → (L · M) u → m ≤ length u
    long u (a, b, is, l, r) =
        let second = y.long b r in
        let both : length u ≡ length a + length b = ap length is ∙ length-append a b in
        omega arith

pub least_before : {m : ℕ} {L M : Lang} → AtLeast m L → AtLeast m (L · M)
least_before {m} {L} {M} x = record { long = long }
  where
    long : (u : List Token) → (L · M) u → m ≤ length u
    long u (a, b, is, l, r) =
        let first = x.long a l in
        let both : length u ≡ length a + length b = ap length is ∙ length-append a b in
        omega arith

pub least_word : (cs : List ℕ) → AtLeast 1 (word cs)
least_word cs = record { long = long }
  where
    long : (u : List Token) → word cs u → 1 ≤ length u
    long u (t, is, m) = let one : length u ≡ 1 = ap length is in omega arith

pub least_on : {n : ℕ} {s : Bool} {line : ℕ} {L : Lang} → AtLeast n L → AtLeast n (on s line L)
least_on x = record { long = λ u h. x.long u h.0 }

pub least_same : {n m : ℕ} {L : Lang} → n ≡ m → AtLeast m L → AtLeast n L
least_same {n} {m} {L} e x = subst (λ k. AtLeast k L) (sym e) x

-- a kind of which one layer is known
pub layer_whens : (k : MKind) (l : MKind-F MKind MStmt MWhen) → mout-StmtKind k ≡ l → inner_whens k ≡ parts_whens l
layer_whens k l is = inner_whens-out k ∙ ap parts_whens is

target_whens : (m : Option Meaning) (e : MExpr) → inner_whens (target_in m e) ≡ 0
target_whens (Some (Variable v)) e = layer_whens _ _ (stmt.outs-SetVariable _ _)
target_whens (Some (Temporary t)) e = layer_whens _ _ (stmt.outs-SetTemp _ _)
target_whens (Some (File f forlopp)) e = layer_whens _ _ (stmt.outs-SetTemp _ _)
target_whens (Some (Field f g)) e = layer_whens _ _ (stmt.outs-SetTemp _ _)
target_whens (Some (Label l)) e = layer_whens _ _ (stmt.outs-SetTemp _ _)
target_whens None e = layer_whens _ _ (stmt.outs-SetTemp _ _)

module _ (env : Env) where
  module _ (b : ℕ) (B : List Stmt → Lang) (inside : (xs : List Stmt) (p : ℕ) → AtLeast (when_count (typed_list env xs p).0) (B xs)) where
    when_least : (w : When) (p : ℕ) → AtLeast (1 + when_whens (typed_when env w p).0) (when_with true B w)
    when_least w p =
        let made : (mout-When (typed_when env w p).0).body
        ≡ (typed_list env (out-When w).body p).0 = ap (λ m. (mout-When m.0).body) (typed_when-at env w p)
        ∙ ap (λ l. l.body) (out-roll-When (record
        { number = (out-When w).number.value; body = (typed_list env (out-When w).body p).0 })) in
        least_same (ap (λ list. 1 + when_count list) made) (least_on (least_then (least_word WHEN) (least_after (least_after (inside (out-When w).body p)))))

    whens_least : (ws : List When) (p : ℕ) → AtLeast
        (length (in_turn (map (typed_when env) ws) p).0
        + total (map when_whens (in_turn (map (typed_when env) ws) p).0)) (each (when_with true B) ws)
    whens_least [] p = least_none
    whens_least (w ∷ ws) p =
        least_same (moved (length (in_turn (map (typed_when env) ws) (typed_when env w p).1).0)
        (when_whens (typed_when env w p).0)
        (total (map when_whens (in_turn (map (typed_when env) ws) (typed_when env w p).1).0)))
        (least_then (when_least w p) (whens_least ws (typed_when env w p).1))
      where
        moved : (a b c : ℕ) → suc a + (b + c) ≡ (1 + b) + (a + c)
        moved a b c = omega arith

    kind_least : (l : StmtKind-F StmtKind Stmt When) (p : ℕ) → AtLeast (inner_whens (kind_layer env (opened env l) p).0) (kind_at true b B l)
    kind_least (tree.Assign n e) p = least_same (target_whens (env.name n.name) _) least_none
    kind_least (tree.SetField n q e) p = least_same (layer_whens _ _ (stmt.outs-SetField _ _ _ _)) least_none
    kind_least (tree.Goto l) p = least_same (layer_whens _ _ (stmt.outs-Goto _)) least_none
    kind_least (tree.IfGoto c l) p = least_same (layer_whens _ _ (stmt.outs-IfGoto _ _)) least_none
    kind_least (tree.If c list None) p =
        least_same (layer_whens _ _ (stmt.outs-If _ _ _)) (least_after (least_after (least_after (least_then (inside list p) least_none))))
    kind_least (tree.If c list (Some other)) p =
        least_same (layer_whens _ _ (stmt.outs-If _ _ _))
        (least_after (least_after (least_after
        (least_then (inside list p) (least_before (least_after (inside other (typed_list env list p).1)))))))
    kind_least (tree.Case e whens other) p =
        least_same (layer_whens _ _ (stmt.outs-Case _ _ _))
        (least_after (least_after (least_after
        (least_then (whens_least whens p) (least_after
        (least_after (least_before (inside other (in_turn (map (typed_when env) whens) p).1))))))))
    kind_least (tree.On n from upto list) p =
        least_same (layer_whens _ _ (stmt.outs-On _ _ _ _))
        (least_after (least_after (least_after
        (least_after (least_after (least_after (least_after (least_before (inside list p)))))))))
    kind_least (tree.ForFirst n file field r e l) p = least_same (layer_whens _ _ (stmt.outs-ForFirst _ _ _ _ _ _)) least_none
    kind_least (tree.Send n r es fresh) p = least_same (layer_whens _ _ (stmt.outs-Send _ _ _ _)) least_none
    kind_least (tree.Retrieve n ns) p = least_same (layer_whens _ _ (stmt.outs-Retrieve _ _)) least_none
    kind_least (tree.Return n es) p = least_same (layer_whens _ _ (stmt.outs-Return _ _)) least_none
    kind_least (tree.Transfer n r) p = least_same (layer_whens _ _ (stmt.outs-Transfer _ _)) least_none
    kind_least (tree.Seize n file l) p = least_same (layer_whens _ _ (stmt.outs-Seize _ _ _)) least_none
    kind_least (tree.Free n file) p = least_same (layer_whens _ _ (stmt.outs-Free _ _)) least_none
    kind_least tree.Exit p = least_same (layer_whens _ _ stmt.outs-Exit) least_none

    pub stmt_least : (x : Stmt) (p : ℕ) → AtLeast (inner_whens (typed_stmt env x p).0.kind) (stmt_with true b B x)
    stmt_least x p =
        least_same (ap (λ m. inner_whens m.0.kind) (typed_stmt-at env x p) ∙ ap (λ g. inner_whens (g (p + 1)).0) (typed_kind-out env x.kind))
        (least_on (kind_least (out-StmtKind x.kind) (p + 1)))

    pub list_least : (xs : List Stmt) (p : ℕ) → AtLeast (when_count (typed_list env xs p).0) (each (stmt_with true b B) xs)
    list_least [] p = least_none
    list_least (x ∷ xs) p = least_then (stmt_least x p) (list_least xs (typed_stmt env x p).1)

  pub body_least : (b n : ℕ) (xs : List Stmt) (p : ℕ) → AtLeast (when_count (typed_list env xs p).0) (body true b n xs)
  unfolding body
  body_least b zero xs p = record { long = λ u h. absurd h }
  body_least b (suc n) xs p = list_least b (body true b n) (body_least b n) xs p
