-- What a tree keeps that is read: its names are names, its numbers have 32 bits, and it nests no
-- deeper than two limits. One line for each production or alternative of the grammar. As there, `b`
-- is how deep brackets may nest, and `n` how deep statements that hold statements may.
use Rattle.std.specs.Prelude.{◌≡◌, ℕ, zero, suc, ◌^◌, ◌<◌, ◌≤◌, true, List, [], ◌∷◌, length, get_or}
use Rattle.std.specs.Prelude.{None, IfSome}
use Rattle.std.specs.Char.{is_ascii_uppercase}
use Rattle.std.specs.List.{list_all}
use Rattle.plex_limits.specs.declared.limits.TheConstants.{MOST_BRACKETS, MOST_NESTED}
use Rattle.plex_lexer.specs.Bytes.{in_word}
use Rattle.plex_lexer.specs.Words.{keyword_of}
use Rattle.token_grammar.specs.declared.named.Named.{Named}
use Rattle.token_grammar.specs.declared.named.Numbered.{Numbered}
use Rattle.plex_ast.specs.declared.expr.Expr.{Expr}
use Rattle.plex_ast.specs.declared.expr.Added.{Added, out-Added}
use Rattle.plex_ast.specs.declared.expr.Added.TheOpen as open_expr
use Rattle.plex_ast.specs.declared.expr.Term.{Term}
use Rattle.plex_ast.specs.declared.expr.Multiplied.{Multiplied, out-Multiplied}
use Rattle.plex_ast.specs.declared.expr.Factor.{Factor}
use Rattle.plex_ast.specs.declared.expr.FactorKind.{FactorKind, out-FactorKind}
use Rattle.plex_ast.specs.declared.expr.Relation.{Relation}
use Rattle.plex_ast.specs.declared.expr.Conj.{Conj}
use Rattle.plex_ast.specs.declared.expr.Cond.{Cond}
use Rattle.plex_ast.specs.declared.expr.Exprs.{Exprs}
use Rattle.plex_ast.specs.declared.stmt.Names.{Names}
use Rattle.plex_ast.specs.declared.stmt.Reference.{Reference}
use Rattle.plex_ast.specs.declared.stmt.ReferenceKind.{ReferenceKind}
use Rattle.plex_ast.specs.declared.stmt.ReferenceKind.TheVariants as references
use Rattle.plex_ast.specs.declared.stmt.Stmt.{Stmt}
use Rattle.plex_ast.specs.declared.stmt.StmtKind.{StmtKind, out-StmtKind}
use Rattle.plex_ast.specs.declared.stmt.StmtKind.TheOpen as open_stmt
use Rattle.plex_ast.specs.declared.stmt.When.{When, out-When}
use Rattle.plex_ast.specs.declared.block.Item.{Item}
use Rattle.plex_ast.specs.declared.block.ItemKind.{ItemKind}
use Rattle.plex_ast.specs.declared.block.ItemKind.TheVariants as items
use Rattle.plex_ast.specs.declared.block.Survey.{Survey}
use Rattle.plex_ast.specs.declared.block.SurveyKind.{SurveyKind}
use Rattle.plex_ast.specs.declared.block.SurveyKind.TheVariants as surveys
use Rattle.plex_ast.specs.declared.block.Decl.{Decl}
use Rattle.plex_ast.specs.declared.block.DeclKind.{DeclKind}
use Rattle.plex_ast.specs.declared.block.DeclKind.TheVariants as decls
use Rattle.plex_ast.specs.declared.block.Field.{Field}
use Rattle.plex_ast.specs.declared.block.Block.{Block}
use Rattle.plex_ast.specs.declared.tree.Signal.{Signal}
use Rattle.plex_ast.specs.declared.tree.Shape.{Shape}
use Rattle.plex_ast.specs.declared.tree.ShapeKind.{ShapeKind}
use Rattle.plex_ast.specs.declared.tree.ShapeKind.TheVariants as shapes
use Rattle.plex_ast.specs.declared.tree.Tree.{Tree}

-- a name: capital letters and digits, a letter first, at most 31 of them, and no keyword
pub record IsName (name : List ℕ) : Type 0 where
  pub first : is_ascii_uppercase (get_or name 0 0) ≡ true
  pub others : list_all in_word name ≡ true
  pub short : length name ≤ 31
  pub free : keyword_of name ≡ None

abbrev pub IsNamed : Named → Type 0
IsNamed n = IsName n.name

-- a number of 32 bits
abbrev pub KeepsNumber : Numbered → Type 0
KeepsNumber n = n.value < 2 ^ 32

-- each of them keeps it
abbrev pub Every : {X : Type 0} → (X → Type 0) → List X → Type 0
Every K [] = Unit {0}
Every K (x ∷ xs) = K x × Every K xs

-- expressions: `I` is kept by what a bracket holds, `F` by a factor, `T` by a term

abbrev pub KeepsFactorAt : (Expr → Type 0) → open_expr.FactorKind-F Added FactorKind Multiplied Expr
    Factor Term → Type 0
KeepsFactorAt I (open_expr.Number n) = KeepsNumber n
KeepsFactorAt I (open_expr.Name n) = IsNamed n
KeepsFactorAt I (open_expr.Field n p) = IsNamed n × IsNamed p
KeepsFactorAt I (open_expr.Bracket e) = I e
KeepsFactorAt I (open_expr.Reference m) = IsNamed m

abbrev pub KeepsFactorWith : (Expr → Type 0) → Factor → Type 0
KeepsFactorWith I f = KeepsFactorAt I (out-FactorKind f.kind)

abbrev pub KeepsMultipliedAt : (Factor → Type 0)
    → open_expr.Multiplied-F Added FactorKind Multiplied Expr Factor Term → Type 0
KeepsMultipliedAt F (open_expr.Times f) = F f
KeepsMultipliedAt F (open_expr.Over f) = F f
KeepsMultipliedAt F (open_expr.Mod f) = F f

abbrev pub KeepsTermWith : (Factor → Type 0) → Term → Type 0
KeepsTermWith F t = F t.first × Every (λ m. KeepsMultipliedAt F (out-Multiplied m)) t.rest

abbrev pub KeepsAddedAt : (Term → Type 0) → open_expr.Added-F Added FactorKind Multiplied Expr
    Factor Term → Type 0
KeepsAddedAt T (open_expr.Plus t) = T t
KeepsAddedAt T (open_expr.Minus t) = T t

abbrev pub KeepsExprWith : (Term → Type 0) → Expr → Type 0
KeepsExprWith T e = T e.first × Every (λ a. KeepsAddedAt T (out-Added a)) e.rest

-- what a bracket holds, where brackets may nest b deep
unfoldable pub KeepsInside : ℕ → Expr → Type 0
KeepsInside zero e = ⊥
KeepsInside (suc b) e = KeepsExprWith (KeepsTermWith (KeepsFactorWith (KeepsInside b))) e

abbrev pub KeepsExpr : ℕ → Expr → Type 0
KeepsExpr b e = KeepsExprWith (KeepsTermWith (KeepsFactorWith (KeepsInside b))) e

-- conditions

abbrev pub KeepsRelation : ℕ → Relation → Type 0
KeepsRelation b r = KeepsExpr b r.left × KeepsExpr b r.right

abbrev pub KeepsConj : ℕ → Conj → Type 0
KeepsConj b c = KeepsRelation b c.first × Every (KeepsRelation b) c.rest

abbrev pub KeepsCond : ℕ → Cond → Type 0
KeepsCond b c = KeepsConj b c.first × Every (KeepsConj b) c.rest

-- lists of names and of values, and a receiver

abbrev pub KeepsNames : Names → Type 0
KeepsNames x = IsNamed x.first × Every IsNamed x.rest

abbrev pub KeepsExprs : ℕ → Exprs → Type 0
KeepsExprs b x = KeepsExpr b x.first × Every (KeepsExpr b) x.rest

abbrev pub KeepsReferenceAt : ReferenceKind → Type 0
KeepsReferenceAt (references.Block m) = IsNamed m
KeepsReferenceAt (references.Held v) = IsNamed v

abbrev pub KeepsReference : Reference → Type 0
KeepsReference x = KeepsReferenceAt x.kind

-- statements: `B` is kept by what one that holds statements holds

abbrev pub KeepsWhenAt : (List Stmt → Type 0) → open_stmt.When-F StmtKind Stmt When → Type 0
KeepsWhenAt B x = KeepsNumber x.number × B x.body

abbrev pub KeepsWhen : (List Stmt → Type 0) → When → Type 0
KeepsWhen B x = KeepsWhenAt B (out-When x)

abbrev pub KeepsKindAt : ℕ → (List Stmt → Type 0) → open_stmt.StmtKind-F StmtKind Stmt When → Type 0
KeepsKindAt b B (open_stmt.Assign n e) = IsNamed n × KeepsExpr b e
KeepsKindAt b B (open_stmt.SetField n p e) = IsNamed n × (IsNamed p × KeepsExpr b e)
KeepsKindAt b B (open_stmt.Goto l) = IsNamed l
KeepsKindAt b B (open_stmt.IfGoto c l) = KeepsCond b c × IsNamed l
KeepsKindAt b B (open_stmt.If c first other) = KeepsCond b c × (B first × IfSome other B)
KeepsKindAt b B (open_stmt.Case e whens other) =
    KeepsExpr b e × (Every (KeepsWhen B) whens × B other)
KeepsKindAt b B (open_stmt.On n from upto stmts) =
    IsNamed n × (KeepsExpr b from × (KeepsExpr b upto × B stmts))
KeepsKindAt b B (open_stmt.ForFirst n file field r e l) =
    IsNamed n × (IsNamed file × (IsNamed field × (KeepsExpr b e × IsNamed l)))
KeepsKindAt b B (open_stmt.Send n r es fresh) =
    IsNamed n × (IfSome r KeepsReference × IfSome es (KeepsExprs b))
KeepsKindAt b B (open_stmt.Retrieve n ns) = IsNamed n × IfSome ns KeepsNames
KeepsKindAt b B (open_stmt.Return n es) = IsNamed n × IfSome es (KeepsExprs b)
KeepsKindAt b B (open_stmt.Transfer n r) = IsNamed n × IfSome r KeepsReference
KeepsKindAt b B (open_stmt.Seize n file l) = IsNamed n × (IsNamed file × IsNamed l)
KeepsKindAt b B (open_stmt.Free n file) = IsNamed n × IsNamed file
KeepsKindAt b B open_stmt.Exit = Unit {0}

abbrev pub KeepsStmtWith : ℕ → (List Stmt → Type 0) → Stmt → Type 0
KeepsStmtWith b B x = KeepsKindAt b B (out-StmtKind x.kind)

-- what a statement holds, where statements that hold statements may nest n deep
unfoldable pub KeepsBody : ℕ → ℕ → List Stmt → Type 0
KeepsBody b zero xs = ⊥
KeepsBody b (suc n) xs = Every (KeepsStmtWith b (KeepsBody b n)) xs

-- blocks

abbrev pub KeepsItemAt : ℕ → ℕ → ItemKind → Type 0
KeepsItemAt b n (items.Label l) = IsNamed l
KeepsItemAt b n (items.Enter m ns) = IsNamed m × IfSome ns KeepsNames
KeepsItemAt b n (items.Stmt x) = KeepsStmtWith b (KeepsBody b n) x

abbrev pub KeepsItem : ℕ → ℕ → Item → Type 0
KeepsItem b n x = KeepsItemAt b n x.kind

abbrev pub KeepsSurveyAt : SurveyKind → Type 0
KeepsSurveyAt (surveys.Receive m) = IsNamed m
KeepsSurveyAt (surveys.Send m) = IsNamed m

abbrev pub KeepsSurvey : Survey → Type 0
KeepsSurvey x = KeepsSurveyAt x.kind

abbrev pub KeepsField : Field → Type 0
KeepsField x = IsNamed x.name × (KeepsNumber x.width × IfSome x.init KeepsNumber)

abbrev pub KeepsDeclAt : DeclKind → Type 0
KeepsDeclAt (decls.Variable n w i clear) = IsNamed n × (KeepsNumber w × IfSome i KeepsNumber)
KeepsDeclAt (decls.Temporary n) = IsNamed n
KeepsDeclAt (decls.File forlopp n size fields) =
    IsNamed n × (KeepsNumber size × Every KeepsField fields)

abbrev pub KeepsDecl : Decl → Type 0
KeepsDecl x = KeepsDeclAt x.kind

abbrev pub KeepsBlock : ℕ → ℕ → Block → Type 0
KeepsBlock b n x = IsNamed x.name × (Every KeepsDecl x.decls
    × (Every KeepsSurvey x.surveys × Every (KeepsItem b n) x.items))

-- signals and the whole

abbrev pub KeepsShapeAt : ShapeKind → Type 0
KeepsShapeAt (shapes.Buffered l d) = KeepsNumber d
KeepsShapeAt (shapes.Direct d) = KeepsNumber d
KeepsShapeAt (shapes.Combined d a e) = KeepsNumber d × (IsNamed a × KeepsNumber e)
KeepsShapeAt (shapes.Outside d) = KeepsNumber d

abbrev pub KeepsShape : Shape → Type 0
KeepsShape x = KeepsShapeAt x.kind

abbrev pub KeepsSignal : Signal → Type 0
KeepsSignal x = IsNamed x.name × KeepsShape x.shape

-- an exchange: brackets at most b deep, statements that hold statements at most n deep
abbrev pub Keeps : ℕ → ℕ → Tree → Type 0
Keeps b n x = Every KeepsSignal x.signals × Every (KeepsBlock b n) x.blocks

-- .. and within the limits of nesting
abbrev pub IsKept : Tree → Type 0
IsKept = Keeps MOST_BRACKETS MOST_NESTED
