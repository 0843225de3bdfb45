-- Statements are read exactly, within both limits.
use Rattle.std.proofs.Common.{◌≡◌, ℕ, zero, suc, ◌<◌, true, false, List, [], ◌∷◌, ◌++◌, length, Err}
use Rattle.std.proofs.Common.{Option, Some, None, refl, sym, ◌∙◌, ap, subst, inl, inr, arith}
use Rattle.plex_lexer.specs.declared.token.Token.{Token}
use Rattle.token_grammar.specs.declared.named.Named.{Named}
use Rattle.token_grammar.specs.declared.named.Numbered.{Numbered}
use Rattle.token_grammar.specs.Language.{Lang, word, ◌·◌, each, maybe, never, line_at, named}
use Rattle.token_grammar.specs.Language.{numbered, class, mem, NAME}
use Rattle.token_grammar.specs.Reading.{Reader, after, at}
use Rattle.token_grammar.proofs.Exact.{Exact, Exact-both, Exact-pair, Exact-same, Exact-lined}
use Rattle.token_grammar.proofs.Exact.{Exact-branch, Exact-halt, Exact-many, Exact-after}
use Rattle.token_grammar.proofs.Exact.{Exact-closed, Exact-weak, Exact-optional, Either, Lined}
use Rattle.token_grammar.proofs.Exact.{Both, after_stops, lined_stops, mem_split, at_append}
use Rattle.token_grammar.proofs.Exact.{branch_else, three_left, three_right}
use Rattle.token_grammar.proofs.Words.{a_keyword, a_mark, a_name, a_number, Exact-name}
use Rattle.token_grammar.proofs.Words.{Exact-number}
use Rattle.plex_ast.specs.declared.expr.Expr.{Expr}
use Rattle.plex_ast.specs.declared.expr.Cond.{Cond}
use Rattle.plex_ast.specs.declared.stmt.Stmt.{Stmt}
use Rattle.plex_ast.specs.declared.stmt.StmtKind.{StmtKind, Case, On, out-StmtKind, roll-StmtKind}
use Rattle.plex_ast.specs.declared.stmt.StmtKind.{roll-out-StmtKind, StmtKind-F}
use Rattle.plex_ast.specs.declared.stmt.StmtKind.TheVariants.{outs-Assign, outs-SetField}
use Rattle.plex_ast.specs.declared.stmt.StmtKind.TheVariants.{outs-IfGoto, outs-If, outs-Case}
use Rattle.plex_ast.specs.declared.stmt.StmtKind.TheVariants.{outs-On, rolls-Assign, rolls-SetField}
use Rattle.plex_ast.specs.declared.stmt.StmtKind.TheVariants.{rolls-Goto, rolls-IfGoto, rolls-If}
use Rattle.plex_ast.specs.declared.stmt.StmtKind.TheVariants.{rolls-Case, rolls-On, rolls-ForFirst}
use Rattle.plex_ast.specs.declared.stmt.StmtKind.TheVariants.{rolls-Send, rolls-Retrieve}
use Rattle.plex_ast.specs.declared.stmt.StmtKind.TheVariants.{rolls-Return, rolls-Transfer}
use Rattle.plex_ast.specs.declared.stmt.StmtKind.TheVariants.{rolls-Seize, rolls-Free, rolls-Exit}
use Rattle.plex_ast.specs.declared.stmt.StmtKind.TheOpen as layer
use Rattle.plex_ast.specs.declared.stmt.When.{When, When-F, out-When, roll-When, roll-out-When}
use Rattle.plex_ast.specs.declared.stmt.When.{out-roll-When}
use Rattle.plex_ast.specs.Words.{GOTO, IF, THEN, ELSE, FI, CASE, IS, WHEN, DO, OTHERWISE, ESAC, ON}
use Rattle.plex_ast.specs.Words.{FROM, UPTO, NO, SEMI, OPEN, CLOSE, EQUAL}
use Rattle.plex_ast.specs.Grammar as grammar
use Rattle.plex_ast.specs.Grammar.{expr, cond_of, when_with, when_at, stmt_with, body, stmt}
use Rattle.plex_expr_parser.proofs.Expressions.{a_zero, zero_spelled, Exact-expr}
use Rattle.plex_expr_parser.proofs.Conditions.{Exact-cond}
use Rattle.plex_parser.specs.Statements.{assign_made, PLAIN, IfTail, Goes, Does, if_made, gone_read}
use Rattle.plex_parser.specs.Statements.{else_by, then_rest, then_by, if_tail_at, if_at, when_made}
use Rattle.plex_parser.specs.Statements.{when_by, case_made, case_by, on_made, on_rest, on_by}
use Rattle.plex_parser.specs.Statements.{nest_by, held_at, other_at, kind_at, stmt_made, stmt_at}
use Rattle.plex_parser.specs.Statements.{HELD, STMT, body_read, stmt_read}
use Rattle.plex_parser.proofs.PlainStatements.{Assigned, Exact-assigned, ToLabel, Exact-to-label}
use Rattle.plex_parser.proofs.PlainStatements.{ByPlain, Exact-plain, plain_to}

abbrev pub Body : Type 1
Body = List Stmt → Lang

-- what follows a condition

abbrev Does-so : Body → List Stmt × Option (List Stmt) → Lang
Does-so body p = word THEN · (body p.0 · (maybe (λ stmts. word ELSE · body stmts) p.1 · (word FI · word SEMI)))

abbrev pub if_tail_of : Body → IfTail → Lang
if_tail_of body (Goes l) = ToLabel l
if_tail_of body (Does first other) = Does-so body (first, other)

abbrev Gone : IfTail → Lang
Gone = Lined (λ _ (l : Named). Goes l) ToLabel

abbrev Then : Body → IfTail → Lang
Then body = Lined (λ _ (p : List Stmt × Option (List Stmt)). Does p.0 p.1) (Does-so body)

if_tail_to : (body : Body) (x : IfTail) (u : List Token) → Either Gone (Then body) x u → if_tail_of body x u
if_tail_to body x u (inl h) = subst (λ y. if_tail_of body y u) (sym h.1) h.2
if_tail_to body x u (inr h) = subst (λ y. if_tail_of body y u) (sym h.1) h.2

gone_to : (body : Body) (x : IfTail) (u : List Token) → Gone x u → if_tail_of body x u
gone_to body x u h = if_tail_to body x u (inl h)

if_tail_from : (body : Body) (x : IfTail) (u : List Token) → if_tail_of body x u → Either Gone (Then body) x u
if_tail_from body (Goes l) u h = inl (l, refl, h)
if_tail_from body (Does first other) u h = inr ((first, other), refl, h)

gone_from : (x : IfTail) (u : List Token) → if_tail_of never x u → Gone x u
gone_from (Goes l) u h = (l, refl, h)
gone_from (Does first other) u h = absurd (h.4.3)

Exact-gone : Exact Gone Gone GOTO false [] gone_read gone_read
unfolding gone_read
Exact-gone = Exact-lined (λ _ (l : Named). Goes l) Exact-to-label

-- the statements that hold statements

abbrev pub ByIf : ℕ → Body → StmtKind → Lang
ByIf b body k = word IF · Both if_made (cond_of true b) (if_tail_of body) k

abbrev pub ByCase : ℕ → Body → StmtKind → Lang
ByCase b body = Lined case_made (λ (p : Expr × (List When × List Stmt)). word CASE ·
    (expr true b p.0 · (word IS · (each (when_with true body) p.1.0 ·
    (word OTHERWISE · (word DO · (body p.1.1 · (word ESAC · word SEMI))))))))

abbrev pub ByOn : ℕ → Body → StmtKind → Lang
ByOn b body = Lined on_made (λ (p : Named × (Expr × (Expr × List Stmt))). word ON ·
    (named true p.0 · (word FROM · (expr true b p.1.0 ·
    (word UPTO · (expr true b p.1.1.0 · (word DO · (body p.1.1.1 · (word NO · word SEMI)))))))))

abbrev pub ByNest : ℕ → Body → StmtKind → Lang
ByNest b body = Either (ByCase b body) (ByOn b body)

abbrev pub ByHeld : ℕ → Body → StmtKind → Lang
ByHeld b body = Either (ByIf b body) (ByNest b body)

-- none stands where none may
held_from-never : (b : ℕ) (x : StmtKind) (u : List Token) → ByHeld b never x u → ByIf b never x u
held_from-never b x u (inl h) = h
held_from-never b x u (inr (inl h)) = absurd (h.2.4.4.4.4.4.4.3)
held_from-never b x u (inr (inr h)) = absurd (h.2.4.4.4.4.4.4.4.3)

held_to : (b : ℕ) (body : Body) (x : StmtKind) (u : List Token) → ByHeld b body x u → grammar.kind_at true b body (out-StmtKind x) u
held_to b body x u (inl h) = subst (λ y. grammar.kind_at true b body (out-StmtKind y) u) (sym h.4.2) (ends h.4.0 h.4.1 (h.0, h.1, h.2, h.3, h.4.3))
  where
    ends : (c : Cond) (t : IfTail) → (word IF · (cond_of true b c · if_tail_of body t)) u → grammar.kind_at true b body (out-StmtKind (if_made c t)) u
    ends c (Goes l) k = subst (λ y. grammar.kind_at true b body y u) (sym (outs-IfGoto c l)) k
    ends c (Does first other) k = subst (λ y. grammar.kind_at true b body y u) (sym (outs-If c first other)) k
held_to b body x u (inr (inl h)) = subst (λ y. grammar.kind_at true b body y u) (sym (ap out-StmtKind h.1 ∙ outs-Case h.0.0 h.0.1.0 h.0.1.1)) h.2
held_to b body x u (inr (inr h)) = subst (λ y. grammar.kind_at true b body y u) (sym (ap out-StmtKind h.1 ∙ outs-On h.0.0 h.0.1.0 h.0.1.1.0 h.0.1.1.1)) h.2

-- any statement

abbrev pub ByName : ℕ → StmtKind → Lang
ByName b = Both assign_made (named true) (Assigned b)

abbrev pub ByOther : ℕ → Body → StmtKind → Lang
ByOther b body = Either (ByPlain b) (ByHeld b body)

abbrev pub ByAny : ℕ → Body → StmtKind → Lang
ByAny b body = Either (ByName b) (ByOther b body)

pub kind_to : (b : ℕ) (body : Body) (x : StmtKind) (u : List Token) → ByAny b body x u → grammar.kind_at true b body (out-StmtKind x) u
kind_to b body x u (inl h) = subst (λ y. grammar.kind_at true b body (out-StmtKind y) u) (sym h.2) (ends h.0 h.1 h.3)
  where
    ends : (n : Named) (p : Option Named × Expr) → (named true n · Assigned b p) u → grammar.kind_at true b body (out-StmtKind (assign_made n p)) u
    ends n (None, e) k = subst (λ y. grammar.kind_at true b body y u) (sym (outs-Assign n e)) (
      k.0,
      k.1,
      k.2,
      k.3,
      subst (word EQUAL · (expr true b e · word SEMI)) (sym (k.4.2 ∙ ap (λ z. z ++ k.4.1) k.4.3))
          k.4.4,
    )
    ends n (Some p, e) k = subst (λ y. grammar.kind_at true b body y u) (sym (outs-SetField n p e)) (
      k.0,
      k.1,
      k.2,
      k.3,
      three_right (word OPEN) (named true p) (word CLOSE)
          (word EQUAL · (expr true b e · word SEMI)) k.1 k.4,
    )
kind_to b body x u (inr (inl h)) = plain_to b body x u h
kind_to b body x u (inr (inr h)) = held_to b body x u h

layer_from : (b : ℕ) (body : Body) (y : StmtKind-F StmtKind Stmt When) (u : List Token) → grammar.kind_at true b body y u → ByAny b body (roll-StmtKind y) u
layer_from b body (layer.Assign n e) u h = inl (n, (None, e), rolls-Assign n e, (h.0, h.1, h.2, h.3, ([], h.1, refl, refl, h.4)))
layer_from b body (layer.SetField n p e) u h = inl (
  n,
  (Some p, e),
  rolls-SetField n p e,
  (
    h.0,
    h.1,
    h.2,
    h.3,
    three_left (word OPEN) (named true p) (word CLOSE)
        (word EQUAL · (expr true b e · word SEMI)) h.1 h.4,
  ),
)
layer_from b body (layer.Goto l) u h = inr (inl (inr (inl (l, rolls-Goto l, h))))
layer_from b body (layer.IfGoto c l) u h = inr (inr (inl (h.0, h.1, h.2, h.3, (c, Goes l, rolls-IfGoto c l, h.4))))
layer_from b body (layer.If c first other) u h = inr (inr (inl (h.0, h.1, h.2, h.3, (c, Does first other, rolls-If c first other, h.4))))
layer_from b body (layer.Case e whens other) u h = inr (inr (inr (inl ((e, (whens, other)), rolls-Case e whens other, h))))
layer_from b body (layer.On n lower upper stmts) u h = inr (inr (inr (inr ((n, (lower, (upper, stmts))), rolls-On n lower upper stmts, h))))
layer_from b body (layer.ForFirst n file field r e l) u h = inr
    (inl (inr (inr (inl ((n, (file, (field, (r, (e, l))))), rolls-ForFirst n file field r e l, h)))))
layer_from b body (layer.Send n r es fresh) u h = inr (inl (inl (inl ((n, (r, (es, fresh))), rolls-Send n r es fresh, h))))
layer_from b body (layer.Retrieve n ns) u h = inr (inl (inl (inr (inl ((n, ns), rolls-Retrieve n ns, h)))))
layer_from b body (layer.Return n es) u h = inr (inl (inl (inr (inr (inl ((n, es), rolls-Return n es, h))))))
layer_from b body (layer.Transfer n r) u h = inr (inl (inl (inr (inr (inr ((n, r), rolls-Transfer n r, h))))))
layer_from b body (layer.Seize n file l) u h = inr (inl (inr (inr (inr (inl ((n, (file, l)), rolls-Seize n file l, h))))))
layer_from b body (layer.Free n file) u h = inr (inl (inr (inr (inr (inr (inl ((n, file), rolls-Free n file, h)))))))
layer_from b body layer.Exit u h = inr (inl (inr (inr (inr (inr (inr (h.4.0, rolls-Exit, (h.0, h.1, h.2, h.3, (h.4.1, h.4.2)))))))))

pub kind_from : (b : ℕ) (body : Body) (x : StmtKind) (u : List Token) → grammar.kind_at true b body (out-StmtKind x) u → ByAny b body x u
kind_from b body x u h = subst (λ y. ByAny b body y u) (roll-out-StmtKind x) (layer_from b body (out-StmtKind x) u h)

-- one choice of a CASE
pub Exact-when : (L M : Body) {r q : Reader (List Stmt)} → Exact L M STMT true STMT r q
    → Exact (when_with true L) (when_with true M) WHEN false STMT (when_by r) (when_by q)
unfolding when_by
Exact-when L M E = Exact-same (when_with true L) (when_with true M) (to L) (from L) (to M)
    (Exact-lined when_made (Exact-after WHEN (a_keyword 30) refl (Exact-pair Exact-number (Exact-after DO (a_keyword 31) refl E) refl)))
  where
    layer_of : ℕ → Numbered × List Stmt → When-F StmtKind Stmt When
    layer_of line p = record { line = line; number = p.0; body = p.1 }

    to : (N : Body) (x : When) (u : List Token)
        → Lined when_made (λ (p : Numbered × List Stmt). word WHEN · (numbered true p.0 · (word DO · N p.1))) x u
        → when_with true N x u
    to N x u h = subst (λ y. when_at true N y u) (sym (ap out-When h.1 ∙ out-roll-When (layer_of (line_at u) h.0))) (h.2, λ _. refl)

    from : (N : Body) (x : When) (u : List Token) → when_with true N x u
        → Lined when_made (λ (p : Numbered × List Stmt). word WHEN · (numbered true p.0 · (word DO · N p.1))) x u
    from N x u h = (
      ((out-When x).number, (out-When x).body),
      sym (roll-out-When x)
          ∙ ap roll-When (λ i. record { line = h.1 refl i; number = (out-When x).number; body = (out-When x).body }),
      h.0,
    )

-- the statements that hold statements, where some may stand
module _ (b c : ℕ) (less : b < c) (L M : Body) (r q : Reader (List Stmt)) (E : Exact L M STMT true STMT r q) where
  Exact-then : Exact (Then L) (Then M) THEN false [] (then_by r) (then_by q)
  unfolding then_by else_by
  Exact-then = Exact-lined (λ _ (p : List Stmt × Option (List Stmt)). Does p.0 p.1)
      (Exact-after THEN (a_keyword 25) refl (Exact-pair E
      (Exact-closed FI SEMI (a_keyword 27) (a_mark 0) refl refl
      (Exact-optional ELSE (Exact-after ELSE (a_keyword 26) refl E) refl) refl) refl))

  Exact-case : Exact (ByCase b L) (ByCase c M) CASE false [] (case_by b r) (case_by c q)
  unfolding case_by
  Exact-case = Exact-lined case_made
      (Exact-after CASE (a_keyword 28) refl (Exact-pair (Exact-expr b c less) (Exact-after IS (a_keyword 29) refl
      (Exact-pair (Exact-many (Exact-when L M E) refl)
      (Exact-after OTHERWISE (a_keyword 32) refl
      (Exact-after DO (a_keyword 31) refl (Exact-closed ESAC SEMI (a_keyword 33) (a_mark 0) refl refl E refl)))
      refl)) refl))

  Exact-on : Exact (ByOn b L) (ByOn c M) ON false [] (on_by b r) (on_by c q)
  unfolding on_by
  Exact-on = Exact-lined on_made
      (Exact-after ON (a_keyword 34) refl (Exact-pair Exact-name
      (Exact-after FROM (a_keyword 35) refl (Exact-pair (Exact-expr b c less) (Exact-after UPTO (a_keyword 36) refl
      (Exact-pair (Exact-expr b c less) (Exact-after DO (a_keyword 31) refl
      (Exact-closed NO SEMI (a_keyword 37) (a_mark 0) refl refl E refl)) refl)) refl)) refl))

  Exact-nest : Exact (ByNest b L) (ByNest c M) (CASE ++ ON) false [] (nest_by b r) (nest_by c q)
  unfolding nest_by
  Exact-nest = Exact-branch CASE Exact-case Exact-on refl refl

  Exact-if-tail : (m n : ℕ) → Exact (if_tail_of L) (if_tail_of M) (GOTO ++ THEN) false [] (if_tail_at (suc m) r) (if_tail_at (suc n) q)
  Exact-if-tail m n = Exact-same (if_tail_of L) (if_tail_of M) (if_tail_to L) (if_tail_from L) (if_tail_to M)
      (Exact-branch GOTO Exact-gone Exact-then refl refl)

  Exact-if : (m n : ℕ) → Exact (ByIf b L) (ByIf c M) IF false [] (if_at b (suc m) r) (if_at c (suc n) q)
  unfolding if_at
  Exact-if m n = Exact-after IF (a_keyword 24) refl (Exact-both if_made (Exact-cond b c less) (Exact-if-tail m n) refl)

  Exact-held-some : (m n : ℕ) → Exact (ByHeld b L) (ByHeld c M) HELD false [] (held_at b (suc m) r) (held_at c (suc n) q)
  unfolding held_at
  Exact-held-some m n = Exact-branch IF (Exact-if m n) Exact-nest refl refl

-- .. and where none may
then_stops : (q : Reader (List Stmt)) (w : List Token) → at THEN w ≡ false → then_by q w ≡ Err (record { left = length w; deep = false })
unfolding then_by
then_stops q w h = lined_stops (λ _ (p : List Stmt × Option (List Stmt)). Does p.0 p.1) (after THEN (then_rest q)) w _ (after_stops THEN (then_rest q) w h)

on_stops : (c : ℕ) (q : Reader (List Stmt)) (w : List Token) → at ON w ≡ false → on_by c q w ≡ Err (record { left = length w; deep = false })
unfolding on_by
on_stops c q w h = lined_stops on_made (after ON (on_rest c q)) w _ (after_stops ON (on_rest c q) w h)

nest_stops : (c : ℕ) (q : Reader (List Stmt)) (w : List Token) → at (CASE ++ ON) w ≡ false → nest_by c q w ≡ Err (record { left = length w; deep = false })
unfolding nest_by
nest_stops c q w h = let k = at_append CASE ON w h in branch_else CASE (case_by c q) (on_by c q) w k.0 ∙ on_stops c q w k.1

module _ (L : Stmt → Lang) where
  then_opens : (t : Token) → mem (class t) THEN ≡ true → (x : IfTail) × (v : List Token) × Then (each L) x (t ∷ v)
  then_opens t h =
      let v : List Token = a_keyword 27 ∷ a_mark 0 ∷ [] in (
        Does [] None,
        v,
        (
          ([], None),
          refl,
          (
            t ∷ [],
            v,
            refl,
            (t, refl, h),
            (
              [],
              v,
              refl,
              refl,
              (
                [],
                v,
                refl,
                refl,
                (a_keyword 27 ∷ [], a_mark 0 ∷ [], refl, (a_keyword 27, refl, refl), (a_mark 0, refl, refl)),
              ),
            ),
          ),
        ),
      )

  case_opens : (c : ℕ) (t : Token) → mem (class t) CASE ≡ true → (x : StmtKind) × (v : List Token) × ByCase c (each L) x (t ∷ v)
  case_opens c t h =
      let close : List Token = a_keyword 33 ∷ a_mark 0 ∷ [] in
      let other : List Token = a_keyword 32 ∷ a_keyword 31 ∷ close in
      let v : List Token = a_number ∷ a_keyword 29 ∷ other in (
        Case a_zero [] [],
        v,
        (
          (a_zero, ([], [])),
          refl,
          (
            t ∷ [],
            v,
            refl,
            (t, refl, h),
            (
              a_number ∷ [],
              a_keyword 29 ∷ other,
              refl,
              zero_spelled c,
              (
                a_keyword 29 ∷ [],
                other,
                refl,
                (a_keyword 29, refl, refl),
                (
                  [],
                  other,
                  refl,
                  refl,
                  (
                    a_keyword 32 ∷ [],
                    a_keyword 31 ∷ close,
                    refl,
                    (a_keyword 32, refl, refl),
                    (
                      a_keyword 31 ∷ [],
                      close,
                      refl,
                      (a_keyword 31, refl, refl),
                      ([], close, refl, refl, (a_keyword 33 ∷ [], a_mark 0 ∷ [], refl, (a_keyword 33, refl, refl), (a_mark 0, refl, refl))),
                    ),
                  ),
                ),
              ),
            ),
          ),
        ),
      )

  on_opens : (c : ℕ) (t : Token) → mem (class t) ON ≡ true → (x : StmtKind) × (v : List Token) × ByOn c (each L) x (t ∷ v)
  on_opens c t h =
      let n : Named = record { line = 1; name = [] } in
      let close : List Token = a_keyword 37 ∷ a_mark 0 ∷ [] in
      let upper : List Token = a_number ∷ a_keyword 31 ∷ close in
      let lower : List Token = a_number ∷ a_keyword 36 ∷ upper in
      let v : List Token = a_name ∷ a_keyword 35 ∷ lower in (
        On n a_zero a_zero [],
        v,
        (
          (n, (a_zero, (a_zero, []))),
          refl,
          (
            t ∷ [],
            v,
            refl,
            (t, refl, h),
            (
              a_name ∷ [],
              a_keyword 35 ∷ lower,
              refl,
              (a_name, refl, refl, λ _. refl),
              (
                a_keyword 35 ∷ [],
                lower,
                refl,
                (a_keyword 35, refl, refl),
                (
                  a_number ∷ [],
                  a_keyword 36 ∷ upper,
                  refl,
                  zero_spelled c,
                  (
                    a_keyword 36 ∷ [],
                    upper,
                    refl,
                    (a_keyword 36, refl, refl),
                    (
                      a_number ∷ [],
                      a_keyword 31 ∷ close,
                      refl,
                      zero_spelled c,
                      (
                        a_keyword 31 ∷ [],
                        close,
                        refl,
                        (a_keyword 31, refl, refl),
                        ([], close, refl, refl, (a_keyword 37 ∷ [], a_mark 0 ∷ [], refl, (a_keyword 37, refl, refl), (a_mark 0, refl, refl))),
                      ),
                    ),
                  ),
                ),
              ),
            ),
          ),
        ),
      )

  nest_opens : (c : ℕ) (t : Token) → mem (class t) (CASE ++ ON) ≡ true → (x : StmtKind) × (v : List Token) × ByNest c (each L) x (t ∷ v)
  nest_opens c t h = elim (mem_split (class t) CASE ON h) [
    | inl m ↦ let k = case_opens c t m in (k.0, k.1, inl k.2)
    | inr m ↦ let k = on_opens c t m in (k.0, k.1, inr k.2)
  ]

  module _ (b c : ℕ) (less : b < c) (n : ℕ) (r q : Reader (List Stmt)) where
    if_tail-none : Exact (if_tail_of never) (if_tail_of (each L)) (GOTO ++ THEN) false [] (if_tail_at zero r) (if_tail_at (suc n) q)
    if_tail-none = Exact-weak (GOTO ++ THEN) [] (Exact-same (if_tail_of never) (if_tail_of (each L)) (gone_to never) gone_from (if_tail_to (each L))
        (Exact-halt GOTO THEN (Then (each L)) (then_by q) Exact-gone refl (then_stops q) then_opens)) refl refl

    if-none : Exact (ByIf b never) (ByIf c (each L)) IF false [] (if_at b zero r) (if_at c (suc n) q)
    unfolding if_at
    if-none = Exact-after IF (a_keyword 24) refl (Exact-both if_made (Exact-cond b c less) if_tail-none refl)

    Exact-held-none : Exact (ByHeld b never) (ByHeld c (each L)) HELD false [] (held_at b zero r) (held_at c (suc n) q)
    unfolding held_at
    Exact-held-none = Exact-same (ByHeld b never) (ByHeld c (each L)) (λ x u k. inl k) (held_from-never b) (λ x u k. k)
        (Exact-weak HELD [] (Exact-halt IF (CASE ++ ON) (ByNest c (each L)) (nest_by c q) if-none refl (nest_stops c q) (nest_opens c)) refl refl)

-- any statement, over those that hold statements
module _ (b c : ℕ) (less : b < c) (L M : Body) (m n : ℕ) (r q : Reader (List Stmt))
    (E : Exact (ByHeld b L) (ByHeld c M) HELD false [] (held_at b m r) (held_at c n q)) where
  Exact-other-at : Exact (ByOther b L) (ByOther c M) (PLAIN ++ HELD) false [] (other_at b m r) (other_at c n q)
  unfolding other_at
  Exact-other-at = Exact-branch PLAIN (Exact-plain b c less) E refl refl

  Exact-kind-at : Exact (λ k. grammar.kind_at true b L (out-StmtKind k))
      (λ k. grammar.kind_at true c M (out-StmtKind k)) STMT false [] (kind_at b m r) (kind_at c n q)
  unfolding kind_at
  Exact-kind-at = Exact-same (λ k. grammar.kind_at true b L (out-StmtKind k))
      (λ k. grammar.kind_at true c M (out-StmtKind k)) (kind_to b L) (kind_from b L) (kind_to c M)
      (Exact-branch NAME (Exact-both assign_made Exact-name (Exact-assigned b c less) refl) Exact-other-at refl refl)

  Exact-stmt-at : Exact (stmt_with true b L) (stmt_with true c M) STMT false [] (stmt_at b m r) (stmt_at c n q)
  unfolding stmt_at
  Exact-stmt-at = Exact-same (stmt_with true b L) (stmt_with true c M) (to b L) from (to c M) (Exact-lined stmt_made Exact-kind-at)
    where
      to : (b : ℕ) (L : Body) (x : Stmt) (u : List Token) → Lined stmt_made (λ k. grammar.kind_at true b L (out-StmtKind k)) x u → stmt_with true b L x u
      to b L x u h = subst (λ y. stmt_with true b L y u) (sym h.1) (h.2, λ _. refl)

      from : (x : Stmt) (u : List Token) → stmt_with true b L x u → Lined stmt_made (λ k. grammar.kind_at true b L (out-StmtKind k)) x u
      from x u h = (x.kind, λ i. record { line = h.1 refl i; kind = x.kind }, h.0)

-- within both limits

pub Exact-held : (b c : ℕ) → b < c → (m n : ℕ) → m < n
    → Exact (ByHeld b (body true b m)) (ByHeld c (body true c n)) HELD false [] (held_at b m (body_read b m))
    (held_at c n (body_read c n))
unfolding body body_read
Exact-held b c h m zero k = absurd (omega arith)
Exact-held b c h zero (suc n) k = Exact-held-none (stmt_with true c (body true c n)) b c h n (body_read b zero) (body_read c (suc n))
Exact-held b c h (suc m) (suc n) k =
    Exact-held-some b c h (each (stmt_with true b (body true b m))) (each (stmt_with true c (body true c n))) (body_read b (suc m)) (body_read c (suc n))
    (Exact-many (Exact-stmt-at b c h (body true b m) (body true c n) m n (body_read b m) (body_read c n) (Exact-held b c h m n (omega arith))) refl) m n

pub Exact-other : (b c : ℕ) → b < c → (m n : ℕ) → m < n
    → Exact (ByOther b (body true b m)) (ByOther c (body true c n)) (PLAIN ++ HELD) false []
    (other_at b m (body_read b m)) (other_at c n (body_read c n))
Exact-other b c h m n k = Exact-other-at b c h (body true b m) (body true c n) m n (body_read b m) (body_read c n) (Exact-held b c h m n k)

pub Exact-stmt : (b c : ℕ) → b < c → (m n : ℕ) → m < n → Exact (stmt true b m) (stmt true c n) STMT false [] (stmt_read b m) (stmt_read c n)
unfolding stmt_read
Exact-stmt b c h m n k = Exact-stmt-at b c h (body true b m) (body true c n) m n (body_read b m) (body_read c n) (Exact-held b c h m n k)

-- what a statement holds, one limit further in
pub Exact-body : (b c : ℕ) → b < c → (m n : ℕ) → m < n
    → Exact (body true b (suc m)) (body true c (suc n)) STMT true STMT (body_read b (suc m)) (body_read c (suc n))
unfolding body body_read stmt_read
Exact-body b c h m n k = Exact-many (Exact-stmt b c h m n k) refl
