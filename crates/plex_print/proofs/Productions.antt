-- What is written for each production spells it, one line for each production or alternative of the
-- grammar.
use Rattle.std.proofs.Common.{◌≡◌, ℕ, zero, suc, Bool, false, List, [], ◌++◌, length, Result, Ok}
use Rattle.std.proofs.Common.{Err, IfOk, ◌↔◌, refl, sym, ◌∙◌, ap}
use Rattle.token_grammar.specs.declared.named.Numbered.{Numbered}
use Rattle.token_grammar.specs.declared.named.Named.{Named}
use Rattle.plex_ast.specs.declared.expr.Expr.{Expr}
use Rattle.plex_ast.specs.declared.expr.Added.{Added, out-Added}
use Rattle.plex_ast.specs.declared.expr.Added.TheOpen as open_expr
use Rattle.plex_ast.specs.declared.expr.Term.{Term}
use Rattle.plex_ast.specs.declared.expr.Multiplied.{Multiplied, out-Multiplied}
use Rattle.plex_ast.specs.declared.expr.Factor.{Factor}
use Rattle.plex_ast.specs.declared.expr.FactorKind.{FactorKind, out-FactorKind}
use Rattle.plex_ast.specs.declared.expr.Rel.{Rel}
use Rattle.plex_ast.specs.declared.expr.RelKind.{RelKind}
use Rattle.plex_ast.specs.declared.expr.RelKind.TheVariants as rels
use Rattle.plex_ast.specs.declared.expr.Relation.{Relation}
use Rattle.plex_ast.specs.declared.expr.Conj.{Conj}
use Rattle.plex_ast.specs.declared.expr.Cond.{Cond}
use Rattle.plex_ast.specs.declared.expr.Exprs.{Exprs}
use Rattle.plex_ast.specs.declared.stmt.Names.{Names}
use Rattle.plex_ast.specs.declared.stmt.Reference.{Reference}
use Rattle.plex_ast.specs.declared.stmt.ReferenceKind.{ReferenceKind}
use Rattle.plex_ast.specs.declared.stmt.ReferenceKind.TheVariants as references
use Rattle.plex_ast.specs.declared.stmt.Stmt.{Stmt}
use Rattle.plex_ast.specs.declared.stmt.StmtKind.{StmtKind, out-StmtKind}
use Rattle.plex_ast.specs.declared.stmt.StmtKind.TheOpen as open_stmt
use Rattle.plex_ast.specs.declared.stmt.When.{When, out-When}
use Rattle.plex_ast.specs.declared.block.Item.{Item}
use Rattle.plex_ast.specs.declared.block.ItemKind.{ItemKind}
use Rattle.plex_ast.specs.declared.block.ItemKind.TheVariants as items
use Rattle.plex_ast.specs.declared.block.Survey.{Survey}
use Rattle.plex_ast.specs.declared.block.SurveyKind.{SurveyKind}
use Rattle.plex_ast.specs.declared.block.SurveyKind.TheVariants as surveys
use Rattle.plex_ast.specs.declared.block.Decl.{Decl}
use Rattle.plex_ast.specs.declared.block.DeclKind.{DeclKind}
use Rattle.plex_ast.specs.declared.block.DeclKind.TheVariants as decls
use Rattle.plex_ast.specs.declared.block.Field.{Field}
use Rattle.plex_ast.specs.declared.block.Block.{Block}
use Rattle.plex_ast.specs.declared.tree.Signal.{Signal}
use Rattle.plex_ast.specs.declared.tree.Shape.{Shape}
use Rattle.plex_ast.specs.declared.tree.ShapeKind.{ShapeKind}
use Rattle.plex_ast.specs.declared.tree.ShapeKind.TheVariants as shapes
use Rattle.plex_ast.specs.declared.tree.Tree.{Tree}
use Rattle.std.proofs.lemmas.List.{append-nil}
use Rattle.plex_lexer.specs.declared.token.Token.{Token}
use Rattle.plex_lexer.specs.Lexed.{Between, lexed, tokens_of}
use Rattle.plex_lexer.specs.Pieces.{with_tokens}
use Rattle.token_grammar.specs.Language.{Lang, ◌·◌, word, named}
use Rattle.plex_limits.specs.declared.limits.TheConstants.{MOST_BRACKETS, MOST_NESTED}
use Rattle.plex_num.specs.declared.seq.Memory.{Memory}
use Rattle.plex_ast.specs.Grammar as grammar
use Rattle.plex_ast.specs.Words as classes
use Rattle.plex_print.specs.Writing.{Writer}
use Rattle.plex_print.specs.Printed as printed
use Rattle.plex_print.specs.PrintedExpressions as printed_exprs
use Rattle.kept_trees.specs.Keeps as keeps
use Rattle.kept_trees.specs.Keeps.{Keeps}
use Rattle.plex_print.specs.Spelled.{Spells}
use Rattle.kept_trees.proofs.Texts.{read_keeps}
use Rattle.plex_print.proofs.Fits.{Fits, Fits-then, Fits-after, Fits-ended, Fits-never, Fits-on}
use Rattle.plex_print.proofs.Fits.{Fits-each, Fits-maybe, Fits-flag, Fits-semi, Fits-name}
use Rattle.plex_print.proofs.Fits.{Fits-number, Fits-level}
use Rattle.plex_print.proofs.Vocabulary.{fits-SIGNAL, fits-SINGLE, fits-COMBINED, fits-BUFFERED}
use Rattle.plex_print.proofs.Vocabulary.{fits-DIRECT, fits-OUTSIDE, fits-DATA, fits-ANSWER}
use Rattle.plex_print.proofs.Vocabulary.{fits-BLOCK, fits-DECLARE, fits-VARIABLE, fits-TEMPORARY}
use Rattle.plex_print.proofs.Vocabulary.{fits-FILE, fits-FORLOPP, fits-FIELD, fits-WIDTH, fits-SIZE}
use Rattle.plex_print.proofs.Vocabulary.{fits-INIT, fits-SURVEY, fits-RECEIVE, fits-SEND}
use Rattle.plex_print.proofs.Vocabulary.{fits-PROGRAM, fits-END, fits-GOTO, fits-IF, fits-THEN}
use Rattle.plex_print.proofs.Vocabulary.{fits-ELSE, fits-FI, fits-CASE, fits-IS, fits-WHEN, fits-DO}
use Rattle.plex_print.proofs.Vocabulary.{fits-OTHERWISE, fits-ESAC, fits-ON, fits-FROM, fits-UPTO}
use Rattle.plex_print.proofs.Vocabulary.{fits-NO, fits-FOR, fits-FIRST, fits-IN, fits-WHERE}
use Rattle.plex_print.proofs.Vocabulary.{fits-ENTER, fits-WITH, fits-REFERENCE, fits-NEW}
use Rattle.plex_print.proofs.Vocabulary.{fits-RETRIEVE, fits-RETURN, fits-TRANSFER, fits-EXIT}
use Rattle.plex_print.proofs.Vocabulary.{fits-SEIZE, fits-FREE, fits-AND, fits-OR, fits-MOD}
use Rattle.plex_print.proofs.Vocabulary.{fits-CLEAR, fits-COMMA, fits-OPEN, fits-CLOSE, fits-EQUAL}
use Rattle.plex_print.proofs.Vocabulary.{fits-PLUS, fits-MINUS, fits-TIMES, fits-OVER, fits-BELOW}
use Rattle.plex_print.proofs.Vocabulary.{fits-ABOVE, fits-AT_MOST, fits-AT_LEAST, fits-UNEQUAL}

-- expressions

Fits-factor-at : {K : Expr → Type 0} {I J : Expr → Lang} {w : Expr → Writer} (s : Bool)
    → ((e : Expr) → Fits (K e) (I e) (J e) (w e))
    → (x : open_expr.FactorKind-F Added FactorKind Multiplied Expr Factor Term)
    → Fits (keeps.KeepsFactorAt K x) (grammar.factor_at s I x) (grammar.factor_at false J x)
    (printed_exprs.factor_at w x)
Fits-factor-at s inner (open_expr.Number n) = Fits-number s n
Fits-factor-at s inner (open_expr.Name n) = Fits-name s n
Fits-factor-at s inner (open_expr.Field n p) = Fits-then (Fits-name s n) (Fits-after fits-OPEN (Fits-ended (Fits-name s p) fits-CLOSE))
Fits-factor-at s inner (open_expr.Bracket e) = Fits-after fits-OPEN (Fits-ended (inner e) fits-CLOSE)
Fits-factor-at s inner (open_expr.Reference m) = Fits-after fits-REFERENCE (Fits-name s m)

Fits-factor-with : {K : Expr → Type 0} {I J : Expr → Lang} {w : Expr → Writer} (s : Bool)
    → ((e : Expr) → Fits (K e) (I e) (J e) (w e)) → (f : Factor)
    → Fits (keeps.KeepsFactorWith K f) (grammar.factor_with s I f) (grammar.factor_with false J f)
    (printed_exprs.factor_with w f)
Fits-factor-with s inner f = Fits-on s f.line (Fits-factor-at s inner (out-FactorKind f.kind))

Fits-multiplied-at : {K : Factor → Type 0} {F G : Factor → Lang} {w : Factor → Writer}
    → ((f : Factor) → Fits (K f) (F f) (G f) (w f))
    → (x : open_expr.Multiplied-F Added FactorKind Multiplied Expr Factor Term)
    → Fits (keeps.KeepsMultipliedAt K x) (grammar.multiplied_at F x) (grammar.multiplied_at G x)
    (printed_exprs.multiplied_at w x)
Fits-multiplied-at factor (open_expr.Times f) = Fits-after fits-TIMES (factor f)
Fits-multiplied-at factor (open_expr.Over f) = Fits-after fits-OVER (factor f)
Fits-multiplied-at factor (open_expr.Mod f) = Fits-after fits-MOD (factor f)

Fits-term-with : {K : Factor → Type 0} {F G : Factor → Lang} {w : Factor → Writer} (s : Bool)
    → ((f : Factor) → Fits (K f) (F f) (G f) (w f)) → (t : Term)
    → Fits (keeps.KeepsTermWith K t) (grammar.term_with s F t) (grammar.term_with false G t)
    (printed_exprs.term_with w t)
Fits-term-with s factor t = Fits-on s t.line (Fits-then (factor t.first) (Fits-each (λ m. Fits-multiplied-at factor (out-Multiplied m)) t.rest))

Fits-added-at : {K : Term → Type 0} {T U : Term → Lang} {w : Term → Writer}
    → ((t : Term) → Fits (K t) (T t) (U t) (w t)) → (x : open_expr.Added-F Added FactorKind Multiplied Expr Factor Term)
    → Fits (keeps.KeepsAddedAt K x) (grammar.added_at T x) (grammar.added_at U x) (printed_exprs.added_at w x)
Fits-added-at term (open_expr.Plus t) = Fits-after fits-PLUS (term t)
Fits-added-at term (open_expr.Minus t) = Fits-after fits-MINUS (term t)

Fits-expr-with : {K : Term → Type 0} {T U : Term → Lang} {w : Term → Writer} (s : Bool)
    → ((t : Term) → Fits (K t) (T t) (U t) (w t)) → (e : Expr)
    → Fits (keeps.KeepsExprWith K e) (grammar.expr_with s T e) (grammar.expr_with false U e)
    (printed_exprs.expr_with w e)
Fits-expr-with s term e = Fits-on s e.line (Fits-then (term e.first) (Fits-each (λ a. Fits-added-at term (out-Added a)) e.rest))

Fits-inside : (s : Bool) (b : ℕ) (e : Expr) → Fits (keeps.KeepsInside b e) (grammar.inside s b e) (grammar.inside false b e) (printed_exprs.inside_text b e)
unfolding grammar.inside printed_exprs.inside_text keeps.KeepsInside
Fits-inside s zero e = Fits-never e (printed_exprs.inside_text zero e)
Fits-inside s (suc b) e = Fits-expr-with s (Fits-term-with s (Fits-factor-with s (Fits-inside s b))) e

Fits-expr : (s : Bool) (b : ℕ) (e : Expr) → Fits (keeps.KeepsExpr b e) (grammar.expr s b e) (grammar.expr false b e) (printed_exprs.expr_text b e)
unfolding printed_exprs.expr_text printed_exprs.added_text printed_exprs.term_text printed_exprs.multiplied_text printed_exprs.factor_text
Fits-expr s b e = Fits-expr-with s (Fits-term-with s (Fits-factor-with s (Fits-inside s b))) e

-- conditions

Fits-rel-at : (k : RelKind) → Fits (Unit {0}) (grammar.rel_at k) (grammar.rel_at k) (printed_exprs.rel_at k)
Fits-rel-at rels.Equal = fits-EQUAL
Fits-rel-at rels.Unequal = fits-UNEQUAL
Fits-rel-at rels.Below = fits-BELOW
Fits-rel-at rels.AtMost = fits-AT_MOST
Fits-rel-at rels.Above = fits-ABOVE
Fits-rel-at rels.AtLeast = fits-AT_LEAST

Fits-rel : (s : Bool) (r : Rel) → Fits (Unit {0}) (grammar.rel s r) (grammar.rel false r) (printed_exprs.rel_text r)
unfolding printed_exprs.rel_text
Fits-rel s r = Fits-on s r.line (Fits-rel-at r.kind)

Fits-relation : (s : Bool) (b : ℕ) (r : Relation)
    → Fits (keeps.KeepsRelation b r) (grammar.relation s b r) (grammar.relation false b r)
    (printed_exprs.relation_text b r)
unfolding printed_exprs.relation_text
Fits-relation s b r = Fits-on s r.line (Fits-then (Fits-expr s b r.left) (Fits-after (Fits-rel s r.rel) (Fits-expr s b r.right)))

Fits-conj : (s : Bool) (b : ℕ) (c : Conj) → Fits (keeps.KeepsConj b c) (grammar.conj s b c) (grammar.conj false b c) (printed_exprs.conj_text b c)
unfolding printed_exprs.conj_text printed_exprs.and_text
Fits-conj s b c = Fits-on s c.line (Fits-then (Fits-relation s b c.first) (Fits-each (λ r. Fits-after fits-AND (Fits-relation s b r)) c.rest))

Fits-cond : (s : Bool) (b : ℕ) (c : Cond) → Fits (keeps.KeepsCond b c) (grammar.cond_of s b c) (grammar.cond_of false b c) (printed_exprs.cond_text b c)
unfolding printed_exprs.cond_text printed_exprs.or_text
Fits-cond s b c = Fits-on s c.line (Fits-then (Fits-conj s b c.first) (Fits-each (λ j. Fits-after fits-OR (Fits-conj s b j)) c.rest))

-- lists of names and of values, and a receiver

Fits-names : (s : Bool) (x : Names) → Fits (keeps.KeepsNames x) (grammar.names s x) (grammar.names false x) (printed.names_text x)
unfolding printed.names_text printed.comma_name_text
Fits-names s x = Fits-on s x.line (Fits-after fits-WITH (Fits-then (Fits-name s x.first) (Fits-each (λ n. Fits-after fits-COMMA (Fits-name s n)) x.rest)))

Fits-exprs : (s : Bool) (b : ℕ) (x : Exprs) → Fits (keeps.KeepsExprs b x) (grammar.exprs s b x) (grammar.exprs false b x) (printed.exprs_text b x)
unfolding printed.exprs_text printed.comma_expr_text
Fits-exprs s b x = Fits-on s x.line (Fits-after fits-WITH (Fits-then (Fits-expr s b x.first) (Fits-each (λ e. Fits-after fits-COMMA (Fits-expr s b e)) x.rest)))

Fits-reference-at : (s : Bool) (k : ReferenceKind)
    → Fits (keeps.KeepsReferenceAt k) (grammar.reference_at s k) (grammar.reference_at false k) (printed.reference_at k)
Fits-reference-at s (references.Block m) = Fits-after fits-REFERENCE (Fits-name s m)
Fits-reference-at s (references.Held v) = Fits-after fits-REFERENCE (Fits-after fits-OPEN (Fits-ended (Fits-name s v) fits-CLOSE))

Fits-reference : (s : Bool) (x : Reference) → Fits (keeps.KeepsReference x) (grammar.reference s x) (grammar.reference false x) (printed.reference_text x)
unfolding printed.reference_text
Fits-reference s x = Fits-on s x.line (Fits-reference-at s x.kind)

-- statements

Fits-to-label : (s : Bool) (l : Named) → Fits (keeps.IsNamed l) (word classes.GOTO · (named s l · word classes.SEMI))
    (word classes.GOTO · (named false l · word classes.SEMI)) (printed.to_label_text l)
unfolding printed.to_label_text
Fits-to-label s l = Fits-after fits-GOTO (Fits-ended (Fits-name s l) Fits-semi)

Fits-when-at : {K : List Stmt → Type 0} {B C : List Stmt → Lang} {w : List Stmt → Writer} (s : Bool)
    → ((xs : List Stmt) → Fits (K xs) (B xs) (C xs) (w xs)) → (x : open_stmt.When-F StmtKind Stmt When)
    → Fits (keeps.KeepsWhenAt K x) (grammar.when_at s B x) (grammar.when_at false C x) (printed.when_at w x)
Fits-when-at s body x = Fits-on s x.line (Fits-after fits-WHEN (Fits-then (Fits-number s x.number) (Fits-after fits-DO (body x.body))))

Fits-when : {K : List Stmt → Type 0} {B C : List Stmt → Lang} {w : List Stmt → Writer} (s : Bool)
    → ((xs : List Stmt) → Fits (K xs) (B xs) (C xs) (w xs)) → (x : When)
    → Fits (keeps.KeepsWhen K x) (grammar.when_with s B x) (grammar.when_with false C x) (printed.when_text w x)
unfolding printed.when_text
Fits-when s body x = Fits-when-at s body (out-When x)

Fits-kind-at : {K : List Stmt → Type 0} {B C : List Stmt → Lang} {w : List Stmt → Writer} (s : Bool) (b : ℕ)
    → ((xs : List Stmt) → Fits (K xs) (B xs) (C xs) (w xs)) → (x : open_stmt.StmtKind-F StmtKind Stmt When)
    → Fits (keeps.KeepsKindAt b K x) (grammar.kind_at s b B x) (grammar.kind_at false b C x) (printed.kind_at b w x)
unfolding printed.assign_text printed.set_field_text printed.if_goto_text printed.else_text printed.if_text
    printed.case_text printed.on_text printed.for_first_text printed.send_text printed.retrieve_text printed.return_text
    printed.transfer_text printed.seize_text printed.free_text printed.exit_text
Fits-kind-at s b body (open_stmt.Assign n e) = Fits-then (Fits-name s n) (Fits-after fits-EQUAL (Fits-ended (Fits-expr s b e) Fits-semi))
Fits-kind-at s b body (open_stmt.SetField n p e) = Fits-then (Fits-name s n)
    (Fits-after fits-OPEN (Fits-then (Fits-name s p)
    (Fits-after fits-CLOSE (Fits-after fits-EQUAL (Fits-ended (Fits-expr s b e) Fits-semi)))))
Fits-kind-at s b body (open_stmt.Goto l) = Fits-to-label s l
Fits-kind-at s b body (open_stmt.IfGoto c l) = Fits-after fits-IF (Fits-then (Fits-cond s b c) (Fits-to-label s l))
Fits-kind-at s b body (open_stmt.If c first other) = Fits-after fits-IF
    (Fits-then (Fits-cond s b c) (Fits-after fits-THEN
    (Fits-then (body first) (Fits-ended (Fits-maybe (λ xs. Fits-after fits-ELSE (body xs)) other)
    (Fits-after fits-FI Fits-semi)))))
Fits-kind-at s b body (open_stmt.Case e whens other) = Fits-after fits-CASE
    (Fits-then (Fits-expr s b e) (Fits-after fits-IS
    (Fits-then (Fits-each (Fits-when s body) whens)
    (Fits-after fits-OTHERWISE (Fits-after fits-DO (Fits-ended (body other) (Fits-after fits-ESAC Fits-semi)))))))
Fits-kind-at s b body (open_stmt.On n from upto stmts) = Fits-after fits-ON
    (Fits-then (Fits-name s n) (Fits-after fits-FROM
    (Fits-then (Fits-expr s b from) (Fits-after fits-UPTO
    (Fits-then (Fits-expr s b upto) (Fits-after fits-DO (Fits-ended (body stmts) (Fits-after fits-NO Fits-semi))))))))
Fits-kind-at s b body (open_stmt.ForFirst n file field r e l) = Fits-after fits-FOR
    (Fits-after fits-FIRST (Fits-then (Fits-name s n)
    (Fits-after fits-IN (Fits-then (Fits-name s file)
    (Fits-after fits-WHERE (Fits-then (Fits-name s field)
    (Fits-after (Fits-rel s r) (Fits-then (Fits-expr s b e) (Fits-to-label s l)))))))))
Fits-kind-at s b body (open_stmt.Send n r es fresh) = Fits-after fits-SEND
    (Fits-then (Fits-name s n) (Fits-then (Fits-maybe (Fits-reference s) r)
    (Fits-ended (Fits-maybe (Fits-exprs s b) es)
    (Fits-ended (Fits-flag (Fits-after fits-NEW fits-FORLOPP) fresh) Fits-semi))))
Fits-kind-at s b body (open_stmt.Retrieve n ns) = Fits-after fits-RETRIEVE (Fits-then (Fits-name s n) (Fits-ended (Fits-maybe (Fits-names s) ns) Fits-semi))
Fits-kind-at s b body (open_stmt.Return n es) = Fits-after fits-RETURN (Fits-then (Fits-name s n) (Fits-ended (Fits-maybe (Fits-exprs s b) es) Fits-semi))
Fits-kind-at s b body (open_stmt.Transfer n r) = Fits-after fits-TRANSFER (Fits-then (Fits-name s n) (Fits-ended (Fits-maybe (Fits-reference s) r) Fits-semi))
Fits-kind-at s b body (open_stmt.Seize n file l) = Fits-after fits-SEIZE
    (Fits-then (Fits-name s n) (Fits-after fits-IN
    (Fits-then (Fits-name s file) (Fits-after fits-ELSE (Fits-to-label s l)))))
Fits-kind-at s b body (open_stmt.Free n file) = Fits-after fits-FREE (Fits-then (Fits-name s n) (Fits-after fits-IN (Fits-ended (Fits-name s file) Fits-semi)))
Fits-kind-at s b body open_stmt.Exit = Fits-after fits-EXIT Fits-semi

Fits-stmt-with : {K : List Stmt → Type 0} {B C : List Stmt → Lang} {w : List Stmt → Writer} (s : Bool) (b : ℕ)
    → ((xs : List Stmt) → Fits (K xs) (B xs) (C xs) (w xs)) → (x : Stmt)
    → Fits (keeps.KeepsStmtWith b K x) (grammar.stmt_with s b B x) (grammar.stmt_with false b C x)
    (printed.stmt_with b w x)
Fits-stmt-with s b body x = Fits-on s x.line (Fits-kind-at s b body (out-StmtKind x.kind))

Fits-body : (s : Bool) (b n : ℕ) (xs : List Stmt) → Fits (keeps.KeepsBody b n xs) (grammar.body s b n xs) (grammar.body false b n xs) (printed.body_text b n xs)
unfolding grammar.body printed.body_text keeps.KeepsBody
Fits-body s b zero xs = Fits-never xs (printed.body_text b zero xs)
Fits-body s b (suc n) xs = Fits-each (Fits-stmt-with s b (Fits-body s b n)) xs

Fits-stmt : (s : Bool) (b n : ℕ) (x : Stmt) → Fits (keeps.KeepsStmtWith b (keeps.KeepsBody b n) x)
    (grammar.stmt s b n x) (grammar.stmt false b n x) (printed.stmt_text b n x)
unfolding printed.stmt_text printed.kind_text
Fits-stmt s b n x = Fits-stmt-with s b (Fits-body s b n) x

-- blocks

Fits-item-at : (s : Bool) (b n : ℕ) (k : ItemKind)
    → Fits (keeps.KeepsItemAt b n k) (grammar.item_at s b n k) (grammar.item_at false b n k) (printed.item_at b n k)
Fits-item-at s b n (items.Label l) = Fits-ended (Fits-name s l) fits-CLOSE
Fits-item-at s b n (items.Enter m ns) = Fits-after fits-ENTER (Fits-then (Fits-name s m) (Fits-ended (Fits-maybe (Fits-names s) ns) Fits-semi))
Fits-item-at s b n (items.Stmt x) = Fits-stmt s b n x

Fits-item : (s : Bool) (b n : ℕ) (x : Item) → Fits (keeps.KeepsItem b n x) (grammar.item s b n x) (grammar.item false b n x) (printed.item_text b n x)
unfolding printed.item_text
Fits-item s b n x = Fits-on s x.line (Fits-item-at s b n x.kind)

Fits-survey-at : (s : Bool) (k : SurveyKind) → Fits (keeps.KeepsSurveyAt k) (grammar.survey_at s k) (grammar.survey_at false k) (printed.survey_at k)
Fits-survey-at s (surveys.Receive m) = Fits-after fits-RECEIVE (Fits-ended (Fits-name s m) Fits-semi)
Fits-survey-at s (surveys.Send m) = Fits-after fits-SEND (Fits-ended (Fits-name s m) Fits-semi)

Fits-survey : (s : Bool) (x : Survey) → Fits (keeps.KeepsSurvey x) (grammar.survey s x) (grammar.survey false x) (printed.survey_text x)
unfolding printed.survey_text
Fits-survey s x = Fits-on s x.line (Fits-survey-at s x.kind)

Fits-init : (s : Bool) (i : Numbered) → Fits (keeps.KeepsNumber i) (grammar.init s i) (grammar.init false i) (printed.init_text i)
unfolding printed.init_text
Fits-init s i = Fits-after fits-INIT (Fits-number s i)

Fits-field : (s : Bool) (x : Field) → Fits (keeps.KeepsField x) (grammar.field s x) (grammar.field false x) (printed.field_text x)
unfolding printed.field_text
Fits-field s x = Fits-on s x.line (Fits-after fits-FIELD
    (Fits-then (Fits-name s x.name) (Fits-after fits-WIDTH
    (Fits-then (Fits-number s x.width) (Fits-ended (Fits-maybe (Fits-init s) x.init) Fits-semi)))))

Fits-decl-at : (s : Bool) (k : DeclKind) → Fits (keeps.KeepsDeclAt k) (grammar.decl_at s k) (grammar.decl_at false k) (printed.decl_at k)
unfolding printed.variable_text printed.temporary_text printed.file_text
Fits-decl-at s (decls.Variable n w i clear) = Fits-after fits-VARIABLE
    (Fits-then (Fits-name s n) (Fits-after fits-WIDTH
    (Fits-then (Fits-number s w) (Fits-ended (Fits-maybe (Fits-init s) i)
    (Fits-ended (Fits-flag fits-CLEAR clear) Fits-semi)))))
Fits-decl-at s (decls.Temporary n) = Fits-after fits-TEMPORARY (Fits-ended (Fits-name s n) Fits-semi)
Fits-decl-at s (decls.File forlopp n size fields) = Fits-after (Fits-flag fits-FORLOPP forlopp)
    (Fits-after fits-FILE (Fits-then (Fits-name s n)
    (Fits-after fits-SIZE (Fits-then (Fits-number s size) (Fits-after Fits-semi (Fits-each (Fits-field s) fields))))))

Fits-decl : (s : Bool) (x : Decl) → Fits (keeps.KeepsDecl x) (grammar.decl s x) (grammar.decl false x) (printed.decl_text x)
unfolding printed.decl_text
Fits-decl s x = Fits-on s x.line (Fits-decl-at s x.kind)

Fits-block : (s : Bool) (b n : ℕ) (x : Block) → Fits (keeps.KeepsBlock b n x) (grammar.block s b n x) (grammar.block false b n x) (printed.block_text b n x)
unfolding printed.block_text printed.declare_text printed.surveyed_text printed.program_text
Fits-block s b n x =
    Fits-on s x.line (Fits-after fits-BLOCK (Fits-then (Fits-name s x.name) (Fits-after Fits-semi
    (Fits-after fits-DECLARE (Fits-after Fits-semi (Fits-then (Fits-each (Fits-decl s) x.decls)
    (Fits-after fits-SURVEY (Fits-after Fits-semi (Fits-then (Fits-each (Fits-survey s) x.surveys)
    (Fits-after fits-PROGRAM (Fits-after Fits-semi (Fits-ended (Fits-each (Fits-item s b n) x.items)
    (Fits-on s x.end_line (Fits-after fits-END (Fits-after fits-BLOCK Fits-semi)))))))))))))))

-- signals and the whole

Fits-shape-at : (s : Bool) (k : ShapeKind) → Fits (keeps.KeepsShapeAt k) (grammar.shape_at s k) (grammar.shape_at false k) (printed.shape_at k)
unfolding printed.data_text
Fits-shape-at s (shapes.Buffered l d) = Fits-after fits-SINGLE (Fits-after fits-BUFFERED (Fits-after (Fits-level s l) (Fits-after fits-DATA (Fits-number s d))))
Fits-shape-at s (shapes.Direct d) = Fits-after fits-SINGLE (Fits-after fits-DIRECT (Fits-after fits-DATA (Fits-number s d)))
Fits-shape-at s (shapes.Combined d a e) = Fits-after fits-COMBINED
    (Fits-after fits-DATA (Fits-then (Fits-number s d)
    (Fits-after fits-ANSWER (Fits-then (Fits-name s a) (Fits-after fits-DATA (Fits-number s e))))))
Fits-shape-at s (shapes.Outside d) = Fits-after fits-OUTSIDE (Fits-after fits-DATA (Fits-number s d))

Fits-shape : (s : Bool) (x : Shape) → Fits (keeps.KeepsShape x) (grammar.shape s x) (grammar.shape false x) (printed.shape_text x)
unfolding printed.shape_text
Fits-shape s x = Fits-on s x.line (Fits-shape-at s x.kind)

Fits-signal : (s : Bool) (x : Signal) → Fits (keeps.KeepsSignal x) (grammar.signal s x) (grammar.signal false x) (printed.signal_text x)
unfolding printed.signal_text
Fits-signal s x = Fits-on s x.line (Fits-after fits-SIGNAL (Fits-then (Fits-name s x.name) (Fits-ended (Fits-shape s x.shape) Fits-semi)))

pub Fits-tree : (s : Bool) (b n : ℕ) (x : Tree) → Fits (keeps.Keeps b n x) (grammar.tree s b n x) (grammar.tree false b n x) (printed.tree_text b n x)
unfolding printed.tree_text
Fits-tree s b n x = Fits-on s x.line (Fits-then (Fits-each (Fits-signal s) x.signals) (Fits-each (Fits-block s b n) x.blocks))

-- the text of a tree is read as words that spell it

at_end : (n line : ℕ) (tokens : List Token) → with_tokens tokens (lexed Between n line []) ≡ Ok tokens
unfolding lexed
at_end n line tokens = ap (λ v. Ok v) (append-nil tokens)

pub spelled : (t : Tree) (text : List ℕ) → text ≡ printed.tree_text MOST_BRACKETS MOST_NESTED t [] → Keeps MOST_BRACKETS MOST_NESTED t → Spells text t
unfolding tokens_of
spelled t text e k =
    let F = Fits-tree false MOST_BRACKETS MOST_NESTED t in
    let u = F.has k in
    let w = F.wrote u.words u.are u.spell [] in
    let r = w.reads (length text) 1 [] in
    let is : text ≡ w.bytes ++ [] = e ∙ w.adds ∙ sym (append-nil w.bytes) in
    (r.tokens, ap (lexed Between (length text) 1) is ∙ r.is ∙ at_end (length text) r.next r.tokens, F.same u.words r.tokens (sym r.same) u.spell)

pub all_spelled : (t : Tree) (r : Result (List ℕ) Memory)
    → IfOk r (λ text. text ≡ printed.tree_text MOST_BRACKETS MOST_NESTED t [])
    → IfOk r (λ text. Keeps MOST_BRACKETS MOST_NESTED t → Spells text t)
all_spelled t (Ok text) h = spelled t text h
all_spelled t (Err e) h = tt

-- .. and which trees have a text
pub kept : (t : Tree) → Keeps MOST_BRACKETS MOST_NESTED t ↔ ((text : List ℕ) × Spells text t)
kept t = (
  λ k. (
    printed.tree_text MOST_BRACKETS MOST_NESTED t [],
    spelled t
        (printed.tree_text MOST_BRACKETS MOST_NESTED t []) refl k,
  ),
  λ x. read_keeps false x.0 x.1.0 t x.1.1 x.1.2,
)
