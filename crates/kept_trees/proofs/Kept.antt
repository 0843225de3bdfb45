-- What words that a text may have spell is kept, one line for each production or alternative of the
-- grammar.
use Rattle.std.proofs.Common.{◌≡◌, ℕ, zero, suc, Bool, List, [], ◌∷◌, ◌++◌, Option, Some, None}
use Rattle.std.proofs.Common.{IfSome, subst}
use Rattle.plex_lexer.specs.declared.token.Token.{Token}
use Rattle.plex_lexer.specs.declared.token.TokenKind.{TokenKind}
use Rattle.plex_lexer.specs.declared.token.TokenKind.TheVariants as kinds
use Rattle.token_grammar.specs.declared.named.Named.{Named}
use Rattle.token_grammar.specs.declared.named.Numbered.{Numbered}
use Rattle.token_grammar.specs.Language.{Lang, ◌·◌, never, on, each, maybe, named, numbered}
use Rattle.plex_ast.specs.declared.expr.Expr.{Expr}
use Rattle.plex_ast.specs.declared.expr.Added.{Added, out-Added}
use Rattle.plex_ast.specs.declared.expr.Added.TheOpen as open_expr
use Rattle.plex_ast.specs.declared.expr.Term.{Term}
use Rattle.plex_ast.specs.declared.expr.Multiplied.{Multiplied, out-Multiplied}
use Rattle.plex_ast.specs.declared.expr.Factor.{Factor}
use Rattle.plex_ast.specs.declared.expr.FactorKind.{FactorKind, out-FactorKind}
use Rattle.plex_ast.specs.declared.expr.Relation.{Relation}
use Rattle.plex_ast.specs.declared.expr.Conj.{Conj}
use Rattle.plex_ast.specs.declared.expr.Cond.{Cond}
use Rattle.plex_ast.specs.declared.expr.Exprs.{Exprs}
use Rattle.plex_ast.specs.declared.stmt.Names.{Names}
use Rattle.plex_ast.specs.declared.stmt.Reference.{Reference}
use Rattle.plex_ast.specs.declared.stmt.Stmt.{Stmt}
use Rattle.plex_ast.specs.declared.stmt.StmtKind.{StmtKind, out-StmtKind}
use Rattle.plex_ast.specs.declared.stmt.StmtKind.TheOpen as open_stmt
use Rattle.plex_ast.specs.declared.stmt.When.{When, out-When}
use Rattle.plex_ast.specs.declared.block.Item.{Item}
use Rattle.plex_ast.specs.declared.block.ItemKind.{ItemKind}
use Rattle.plex_ast.specs.declared.block.ItemKind.TheVariants as items
use Rattle.plex_ast.specs.declared.block.Survey.{Survey}
use Rattle.plex_ast.specs.declared.block.SurveyKind.{SurveyKind}
use Rattle.plex_ast.specs.declared.block.SurveyKind.TheVariants as surveys
use Rattle.plex_ast.specs.declared.block.Decl.{Decl}
use Rattle.plex_ast.specs.declared.block.DeclKind.{DeclKind}
use Rattle.plex_ast.specs.declared.block.DeclKind.TheVariants as decls
use Rattle.plex_ast.specs.declared.block.Field.{Field}
use Rattle.plex_ast.specs.declared.block.Block.{Block}
use Rattle.plex_ast.specs.declared.tree.Signal.{Signal}
use Rattle.plex_ast.specs.declared.tree.Shape.{Shape}
use Rattle.plex_ast.specs.declared.tree.ShapeKind.{ShapeKind}
use Rattle.plex_ast.specs.declared.tree.ShapeKind.TheVariants as shapes
use Rattle.plex_ast.specs.declared.tree.Tree.{Tree}
use Rattle.plex_ast.specs.declared.stmt.ReferenceKind.{ReferenceKind}
use Rattle.plex_ast.specs.declared.stmt.ReferenceKind.TheVariants as references
use Rattle.plex_ast.specs.Grammar as grammar
use Rattle.kept_trees.specs.Keeps as keeps
use Rattle.kept_trees.specs.Keeps.{IsNamed, KeepsNumber, Every}
use Rattle.kept_trees.specs.Words.{IsTextWord, AreWords}

-- what is spelled by words keeps K
pub record Kept (K : Type 0) (L : Lang) : Type 0 where
  pub keeps : (u : List Token) → AreWords u → L u → K

-- how languages are put together

pub words-first : (a b : List Token) → AreWords (a ++ b) → AreWords a
words-first [] b k = tt
words-first (t ∷ a) b k = (k.0, words-first a b k.1)

pub words-second : (a b : List Token) → AreWords (a ++ b) → AreWords b
words-second [] b k = k
words-second (t ∷ a) b k = words-second a b k.1

kept-then : {K J : Type 0} {L M : Lang} → Kept K L → Kept J M → Kept (K × J) (L · M)
kept-then {K} {J} {L} {M} E F = record { keeps = both }
  where
    both : (u : List Token) → AreWords u → (L · M) u → K × J
    both u w h =
        let v : AreWords (h.0 ++ h.1) = subst AreWords h.2 w in
        (E.keeps h.0 (words-first h.0 h.1 v) h.3, F.keeps h.1 (words-second h.0 h.1 v) h.4)

kept-any : {L : Lang} → Kept (Unit {0}) L
kept-any = record { keeps = λ u w h. tt }

kept-after : {J : Type 0} {L M : Lang} → Kept J M → Kept J (L · M)
kept-after {J} {L} {M} F = record { keeps = λ u w h. (E.keeps u w h).1 }
  where
    E : Kept (Unit {0} × J) (L · M)
    E = kept-then (kept-any {L = L}) F

kept-ended : {K : Type 0} {L M : Lang} → Kept K L → Kept K (L · M)
kept-ended {K} {L} {M} F = record { keeps = λ u w h. (E.keeps u w h).0 }
  where
    E : Kept (K × Unit {0}) (L · M)
    E = kept-then F (kept-any {L = M})

kept-on : {K : Type 0} {L : Lang} (s : Bool) (line : ℕ) → Kept K L → Kept K (on s line L)
kept-on s line F = record { keeps = λ u w h. F.keeps u w h.0 }

kept-never : {X : Type 0} (x : X) → Kept ⊥ (never x)
kept-never x = record { keeps = λ u w h. h }

kept-each : {X : Type 0} {K : X → Type 0} {L : X → Lang} → ((x : X) → Kept (K x) (L x)) → (xs : List X) → Kept (Every K xs) (each L xs)
kept-each F [] = record { keeps = λ u w h. tt }
kept-each F (x ∷ xs) = kept-then (F x) (kept-each F xs)

kept-maybe : {X : Type 0} {K : X → Type 0} {L : X → Lang} → ((x : X) → Kept (K x) (L x)) → (o : Option X) → Kept (IfSome o K) (maybe L o)
kept-maybe F None = record { keeps = λ u w h. tt }
kept-maybe F (Some x) = F x

pub word_at : (u : List Token) (t : Token) (k : TokenKind) → u ≡ t ∷ [] → t.kind ≡ k → AreWords u → IsTextWord k
word_at u t k e h w = subst IsTextWord h ((subst AreWords e w).0)

kept-name : (s : Bool) (x : Named) → Kept (IsNamed x) (named s x)
kept-name s x = record { keeps = λ u w h. word_at u h.0 (kinds.Name x.name) h.1 h.2 w }

kept-number : (s : Bool) (x : Numbered) → Kept (KeepsNumber x) (numbered s x)
kept-number s x = record { keeps = λ u w h. word_at u h.0 (kinds.Number x.value) h.1 h.2 w }

-- expressions

kept-factor-at : {K : Expr → Type 0} {I : Expr → Lang} (s : Bool) → ((e : Expr) → Kept (K e) (I e))
    → (x : open_expr.FactorKind-F Added FactorKind Multiplied Expr Factor Term)
    → Kept (keeps.KeepsFactorAt K x) (grammar.factor_at s I x)
kept-factor-at s inner (open_expr.Number n) = kept-number s n
kept-factor-at s inner (open_expr.Name n) = kept-name s n
kept-factor-at s inner (open_expr.Field n p) = kept-then (kept-name s n) (kept-after (kept-ended (kept-name s p)))
kept-factor-at s inner (open_expr.Bracket e) = kept-after (kept-ended (inner e))
kept-factor-at s inner (open_expr.Reference m) = kept-after (kept-name s m)

kept-factor-with : {K : Expr → Type 0} {I : Expr → Lang} (s : Bool) → ((e : Expr) → Kept (K e) (I e)) → (f : Factor)
    → Kept (keeps.KeepsFactorWith K f) (grammar.factor_with s I f)
kept-factor-with s inner f = kept-on s f.line (kept-factor-at s inner (out-FactorKind f.kind))

kept-multiplied-at : {K : Factor → Type 0} {F : Factor → Lang} → ((f : Factor) → Kept (K f) (F f))
    → (x : open_expr.Multiplied-F Added FactorKind Multiplied Expr Factor Term)
    → Kept (keeps.KeepsMultipliedAt K x) (grammar.multiplied_at F x)
kept-multiplied-at factor (open_expr.Times f) = kept-after (factor f)
kept-multiplied-at factor (open_expr.Over f) = kept-after (factor f)
kept-multiplied-at factor (open_expr.Mod f) = kept-after (factor f)

kept-term-with : {K : Factor → Type 0} {F : Factor → Lang} (s : Bool) → ((f : Factor) → Kept (K f) (F f)) → (t : Term)
    → Kept (keeps.KeepsTermWith K t) (grammar.term_with s F t)
kept-term-with s factor t = kept-on s t.line (kept-then (factor t.first) (kept-each (λ m. kept-multiplied-at factor (out-Multiplied m)) t.rest))

kept-added-at : {K : Term → Type 0} {T : Term → Lang} → ((t : Term) → Kept (K t) (T t))
    → (x : open_expr.Added-F Added FactorKind Multiplied Expr Factor Term)
    → Kept (keeps.KeepsAddedAt K x) (grammar.added_at T x)
kept-added-at term (open_expr.Plus t) = kept-after (term t)
kept-added-at term (open_expr.Minus t) = kept-after (term t)

kept-expr-with : {K : Term → Type 0} {T : Term → Lang} (s : Bool) → ((t : Term) → Kept (K t) (T t)) → (e : Expr)
    → Kept (keeps.KeepsExprWith K e) (grammar.expr_with s T e)
kept-expr-with s term e = kept-on s e.line (kept-then (term e.first) (kept-each (λ a. kept-added-at term (out-Added a)) e.rest))

kept-inside : (s : Bool) (b : ℕ) (e : Expr) → Kept (keeps.KeepsInside b e) (grammar.inside s b e)
unfolding grammar.inside keeps.KeepsInside
kept-inside s zero e = kept-never e
kept-inside s (suc b) e = kept-expr-with s (kept-term-with s (kept-factor-with s (kept-inside s b))) e

kept-expr : (s : Bool) (b : ℕ) (e : Expr) → Kept (keeps.KeepsExpr b e) (grammar.expr s b e)
kept-expr s b e = kept-expr-with s (kept-term-with s (kept-factor-with s (kept-inside s b))) e

-- conditions

kept-relation : (s : Bool) (b : ℕ) (r : Relation) → Kept (keeps.KeepsRelation b r) (grammar.relation s b r)
kept-relation s b r = kept-on s r.line (kept-then (kept-expr s b r.left) (kept-after (kept-expr s b r.right)))

kept-conj : (s : Bool) (b : ℕ) (c : Conj) → Kept (keeps.KeepsConj b c) (grammar.conj s b c)
kept-conj s b c = kept-on s c.line (kept-then (kept-relation s b c.first) (kept-each (λ r. kept-after (kept-relation s b r)) c.rest))

kept-cond : (s : Bool) (b : ℕ) (c : Cond) → Kept (keeps.KeepsCond b c) (grammar.cond_of s b c)
kept-cond s b c = kept-on s c.line (kept-then (kept-conj s b c.first) (kept-each (λ j. kept-after (kept-conj s b j)) c.rest))

-- lists of names and of values, and a receiver

kept-names : (s : Bool) (x : Names) → Kept (keeps.KeepsNames x) (grammar.names s x)
kept-names s x = kept-on s x.line (kept-after (kept-then (kept-name s x.first) (kept-each (λ n. kept-after (kept-name s n)) x.rest)))

kept-exprs : (s : Bool) (b : ℕ) (x : Exprs) → Kept (keeps.KeepsExprs b x) (grammar.exprs s b x)
kept-exprs s b x = kept-on s x.line (kept-after (kept-then (kept-expr s b x.first) (kept-each (λ e. kept-after (kept-expr s b e)) x.rest)))

kept-reference-at : (s : Bool) (k : ReferenceKind) → Kept (keeps.KeepsReferenceAt k) (grammar.reference_at s k)
kept-reference-at s (references.Block m) = kept-after (kept-name s m)
kept-reference-at s (references.Held v) = kept-after (kept-after (kept-ended (kept-name s v)))

kept-reference : (s : Bool) (x : Reference) → Kept (keeps.KeepsReference x) (grammar.reference s x)
kept-reference s x = kept-on s x.line (kept-reference-at s x.kind)

-- statements

kept-when-at : {K : List Stmt → Type 0} {B : List Stmt → Lang} (s : Bool) → ((xs : List Stmt) → Kept (K xs) (B xs))
    → (x : open_stmt.When-F StmtKind Stmt When) → Kept (keeps.KeepsWhenAt K x) (grammar.when_at s B x)
kept-when-at s body x = kept-on s x.line (kept-after (kept-then (kept-number s x.number) (kept-after (body x.body))))

kept-when : {K : List Stmt → Type 0} {B : List Stmt → Lang} (s : Bool) → ((xs : List Stmt) → Kept (K xs) (B xs))
    → (x : When) → Kept (keeps.KeepsWhen K x) (grammar.when_with s B x)
kept-when s body x = kept-when-at s body (out-When x)

-- a label, and the words after it
kept-label : {L M : Lang} (s : Bool) (l : Named) → Kept (IsNamed l) (L · (named s l · M))
kept-label s l = kept-after (kept-ended (kept-name s l))

kept-kind-at : {K : List Stmt → Type 0} {B : List Stmt → Lang} (s : Bool) (b : ℕ)
    → ((xs : List Stmt) → Kept (K xs) (B xs)) → (x : open_stmt.StmtKind-F StmtKind Stmt When)
    → Kept (keeps.KeepsKindAt b K x) (grammar.kind_at s b B x)
kept-kind-at s b body (open_stmt.Assign n e) = kept-then (kept-name s n) (kept-after (kept-ended (kept-expr s b e)))
kept-kind-at s b body (open_stmt.SetField n p e) = kept-then (kept-name s n)
    (kept-after (kept-then (kept-name s p) (kept-after (kept-after (kept-ended (kept-expr s b e))))))
kept-kind-at s b body (open_stmt.Goto l) = kept-label s l
kept-kind-at s b body (open_stmt.IfGoto c l) = kept-after (kept-then (kept-cond s b c) (kept-label s l))
kept-kind-at s b body (open_stmt.If c first other) = kept-after
    (kept-then (kept-cond s b c) (kept-after (kept-then (body first)
    (kept-ended (kept-maybe (λ xs. kept-after (body xs)) other)))))
kept-kind-at s b body (open_stmt.Case e whens other) = kept-after
    (kept-then (kept-expr s b e) (kept-after (kept-then (kept-each (kept-when s body) whens)
    (kept-after (kept-after (kept-ended (body other)))))))
kept-kind-at s b body (open_stmt.On n from upto stmts) = kept-after
    (kept-then (kept-name s n) (kept-after (kept-then (kept-expr s b from)
    (kept-after (kept-then (kept-expr s b upto) (kept-after (kept-ended (body stmts))))))))
kept-kind-at s b body (open_stmt.ForFirst n file field r e l) = kept-after
    (kept-after (kept-then (kept-name s n) (kept-after
    (kept-then (kept-name s file) (kept-after (kept-then (kept-name s field)
    (kept-after (kept-then (kept-expr s b e) (kept-label s l)))))))))
kept-kind-at s b body (open_stmt.Send n r es fresh) = kept-after
    (kept-then (kept-name s n) (kept-then (kept-maybe (kept-reference s) r)
    (kept-ended (kept-maybe (kept-exprs s b) es))))
kept-kind-at s b body (open_stmt.Retrieve n ns) = kept-after (kept-then (kept-name s n) (kept-ended (kept-maybe (kept-names s) ns)))
kept-kind-at s b body (open_stmt.Return n es) = kept-after (kept-then (kept-name s n) (kept-ended (kept-maybe (kept-exprs s b) es)))
kept-kind-at s b body (open_stmt.Transfer n r) = kept-after (kept-then (kept-name s n) (kept-ended (kept-maybe (kept-reference s) r)))
kept-kind-at s b body (open_stmt.Seize n file l) = kept-after
    (kept-then (kept-name s n) (kept-after (kept-then (kept-name s file) (kept-after (kept-label s l)))))
kept-kind-at s b body (open_stmt.Free n file) = kept-after (kept-then (kept-name s n) (kept-after (kept-ended (kept-name s file))))
kept-kind-at s b body open_stmt.Exit = kept-any

kept-stmt-with : {K : List Stmt → Type 0} {B : List Stmt → Lang} (s : Bool) (b : ℕ)
    → ((xs : List Stmt) → Kept (K xs) (B xs)) → (x : Stmt)
    → Kept (keeps.KeepsStmtWith b K x) (grammar.stmt_with s b B x)
kept-stmt-with s b body x = kept-on s x.line (kept-kind-at s b body (out-StmtKind x.kind))

kept-body : (s : Bool) (b n : ℕ) (xs : List Stmt) → Kept (keeps.KeepsBody b n xs) (grammar.body s b n xs)
unfolding grammar.body keeps.KeepsBody
kept-body s b zero xs = kept-never xs
kept-body s b (suc n) xs = kept-each (kept-stmt-with s b (kept-body s b n)) xs

-- blocks

kept-item-at : (s : Bool) (b n : ℕ) (k : ItemKind) → Kept (keeps.KeepsItemAt b n k) (grammar.item_at s b n k)
kept-item-at s b n (items.Label l) = kept-ended (kept-name s l)
kept-item-at s b n (items.Enter m ns) = kept-after (kept-then (kept-name s m) (kept-ended (kept-maybe (kept-names s) ns)))
kept-item-at s b n (items.Stmt x) = kept-stmt-with s b (kept-body s b n) x

kept-item : (s : Bool) (b n : ℕ) (x : Item) → Kept (keeps.KeepsItem b n x) (grammar.item s b n x)
kept-item s b n x = kept-on s x.line (kept-item-at s b n x.kind)

kept-survey-at : (s : Bool) (k : SurveyKind) → Kept (keeps.KeepsSurveyAt k) (grammar.survey_at s k)
kept-survey-at s (surveys.Receive m) = kept-label s m
kept-survey-at s (surveys.Send m) = kept-label s m

kept-survey : (s : Bool) (x : Survey) → Kept (keeps.KeepsSurvey x) (grammar.survey s x)
kept-survey s x = kept-on s x.line (kept-survey-at s x.kind)

kept-init : (s : Bool) (i : Numbered) → Kept (KeepsNumber i) (grammar.init s i)
kept-init s i = kept-after (kept-number s i)

kept-field : (s : Bool) (x : Field) → Kept (keeps.KeepsField x) (grammar.field s x)
kept-field s x = kept-on s x.line (kept-after (kept-then (kept-name s x.name)
    (kept-after (kept-then (kept-number s x.width) (kept-ended (kept-maybe (kept-init s) x.init))))))

kept-decl-at : (s : Bool) (k : DeclKind) → Kept (keeps.KeepsDeclAt k) (grammar.decl_at s k)
kept-decl-at s (decls.Variable n w i clear) = kept-after
    (kept-then (kept-name s n) (kept-after (kept-then (kept-number s w) (kept-ended (kept-maybe (kept-init s) i)))))
kept-decl-at s (decls.Temporary n) = kept-label s n
kept-decl-at s (decls.File forlopp n size fields) = kept-after
    (kept-after (kept-then (kept-name s n) (kept-after
    (kept-then (kept-number s size) (kept-after (kept-each (kept-field s) fields))))))

kept-decl : (s : Bool) (x : Decl) → Kept (keeps.KeepsDecl x) (grammar.decl s x)
kept-decl s x = kept-on s x.line (kept-decl-at s x.kind)

kept-block : (s : Bool) (b n : ℕ) (x : Block) → Kept (keeps.KeepsBlock b n x) (grammar.block s b n x)
kept-block s b n x =
    kept-on s x.line (kept-after (kept-then (kept-name s x.name) (kept-after
    (kept-after (kept-after (kept-then (kept-each (kept-decl s) x.decls)
    (kept-after (kept-after (kept-then (kept-each (kept-survey s) x.surveys)
    (kept-after (kept-after (kept-ended (kept-each (kept-item s b n) x.items)))))))))))))

-- signals and the whole

kept-shape-at : (s : Bool) (k : ShapeKind) → Kept (keeps.KeepsShapeAt k) (grammar.shape_at s k)
kept-shape-at s (shapes.Buffered l d) = kept-after (kept-after (kept-after (kept-after (kept-number s d))))
kept-shape-at s (shapes.Direct d) = kept-after (kept-after (kept-after (kept-number s d)))
kept-shape-at s (shapes.Combined d a e) = kept-after
    (kept-after (kept-then (kept-number s d) (kept-after (kept-then (kept-name s a) (kept-after (kept-number s e))))))
kept-shape-at s (shapes.Outside d) = kept-after (kept-after (kept-number s d))

kept-shape : (s : Bool) (x : Shape) → Kept (keeps.KeepsShape x) (grammar.shape s x)
kept-shape s x = kept-on s x.line (kept-shape-at s x.kind)

kept-signal : (s : Bool) (x : Signal) → Kept (keeps.KeepsSignal x) (grammar.signal s x)
kept-signal s x = kept-on s x.line (kept-after (kept-then (kept-name s x.name) (kept-ended (kept-shape s x.shape))))

pub kept-tree : (s : Bool) (b n : ℕ) (x : Tree) → Kept (keeps.Keeps b n x) (grammar.tree s b n x)
kept-tree s b n x = kept-on s x.line (kept-then (kept-each (kept-signal s) x.signals) (kept-each (kept-block s b n) x.blocks))
