-- The grammar: which tokens spell which tree, one line for each production or alternative, in the
-- grammar's own order of words. Where `s` is true lines count: each node is on the line of its
-- first token. Where it is false they do not. The two limits are parameters: `b`, how deep brackets
-- may nest, and `n`, how deep statements that hold statements may. At 0 none may stand. No
-- definition goes down a tree: each looks at one layer and goes on with a smaller limit.
use Rattle.std.specs.Prelude.{ℕ, zero, suc, Bool, true, List}
use Rattle.plex_limits.specs.declared.limits.TheConstants.{MOST_BRACKETS, MOST_NESTED}
use Rattle.token_grammar.specs.declared.named.Numbered.{Numbered}
use Rattle.token_grammar.specs.Language.{Lang, word, ◌·◌, on, each, maybe, flag, never, named}
use Rattle.token_grammar.specs.Language.{numbered, leveled}
use Rattle.plex_ast.specs.declared.expr.Expr.{Expr}
use Rattle.plex_ast.specs.declared.expr.Added.{Added, out-Added}
use Rattle.plex_ast.specs.declared.expr.Added.TheOpen as open_expr
use Rattle.plex_ast.specs.declared.expr.Term.{Term}
use Rattle.plex_ast.specs.declared.expr.Multiplied.{Multiplied, out-Multiplied}
use Rattle.plex_ast.specs.declared.expr.Factor.{Factor}
use Rattle.plex_ast.specs.declared.expr.FactorKind.{FactorKind, out-FactorKind}
use Rattle.plex_ast.specs.declared.expr.Rel.{Rel}
use Rattle.plex_ast.specs.declared.expr.RelKind.{RelKind}
use Rattle.plex_ast.specs.declared.expr.RelKind.TheVariants as rels
use Rattle.plex_ast.specs.declared.expr.Relation.{Relation}
use Rattle.plex_ast.specs.declared.expr.Conj.{Conj}
use Rattle.plex_ast.specs.declared.expr.Cond.{Cond}
use Rattle.plex_ast.specs.declared.expr.Exprs.{Exprs}
use Rattle.plex_ast.specs.declared.stmt.Names.{Names}
use Rattle.plex_ast.specs.declared.stmt.Reference.{Reference}
use Rattle.plex_ast.specs.declared.stmt.ReferenceKind.{ReferenceKind}
use Rattle.plex_ast.specs.declared.stmt.ReferenceKind.TheVariants as references
use Rattle.plex_ast.specs.declared.stmt.Stmt.{Stmt}
use Rattle.plex_ast.specs.declared.stmt.StmtKind.{StmtKind, out-StmtKind}
use Rattle.plex_ast.specs.declared.stmt.StmtKind.TheOpen as open_stmt
use Rattle.plex_ast.specs.declared.stmt.When.{When, out-When}
use Rattle.plex_ast.specs.declared.block.Item.{Item}
use Rattle.plex_ast.specs.declared.block.ItemKind.{ItemKind}
use Rattle.plex_ast.specs.declared.block.ItemKind.TheVariants as items
use Rattle.plex_ast.specs.declared.block.Survey.{Survey}
use Rattle.plex_ast.specs.declared.block.SurveyKind.{SurveyKind}
use Rattle.plex_ast.specs.declared.block.SurveyKind.TheVariants as surveys
use Rattle.plex_ast.specs.declared.block.Decl.{Decl}
use Rattle.plex_ast.specs.declared.block.DeclKind.{DeclKind}
use Rattle.plex_ast.specs.declared.block.DeclKind.TheVariants as decls
use Rattle.plex_ast.specs.declared.block.Field.{Field}
use Rattle.plex_ast.specs.declared.block.Block.{Block}
use Rattle.plex_ast.specs.declared.tree.Signal.{Signal}
use Rattle.plex_ast.specs.declared.tree.Shape.{Shape}
use Rattle.plex_ast.specs.declared.tree.ShapeKind.{ShapeKind}
use Rattle.plex_ast.specs.declared.tree.ShapeKind.TheVariants as shapes
use Rattle.plex_ast.specs.declared.tree.Tree.{Tree}
use Rattle.plex_ast.specs.Words.{SIGNAL, SINGLE, COMBINED, BUFFERED, DIRECT, OUTSIDE, DATA, ANSWER}
use Rattle.plex_ast.specs.Words.{BLOCK, DECLARE, VARIABLE, TEMPORARY, FILE, FORLOPP, FIELD, WIDTH}
use Rattle.plex_ast.specs.Words.{SIZE, INIT, SURVEY, RECEIVE, SEND, PROGRAM, END, GOTO, IF, THEN}
use Rattle.plex_ast.specs.Words.{ELSE, FI, CASE, IS, WHEN, DO, OTHERWISE, ESAC, ON, FROM, UPTO, NO}
use Rattle.plex_ast.specs.Words.{FOR, FIRST, IN, WHERE, ENTER, WITH, REFERENCE, NEW, RETRIEVE}
use Rattle.plex_ast.specs.Words.{RETURN, TRANSFER, EXIT, SEIZE, FREE, AND, OR, MOD, CLEAR, SEMI}
use Rattle.plex_ast.specs.Words.{COMMA, OPEN, CLOSE, EQUAL, PLUS, MINUS, TIMES, OVER, BELOW, ABOVE}
use Rattle.plex_ast.specs.Words.{AT_MOST, AT_LEAST, UNEQUAL}

-- expressions: `inner` is what a bracket may hold, `F` a factor, `T` a term

abbrev pub factor_at : Bool → (Expr → Lang) → open_expr.FactorKind-F Added FactorKind Multiplied
    Expr Factor Term → Lang
factor_at s inner (open_expr.Number n) = numbered s n
factor_at s inner (open_expr.Name n) = named s n
factor_at s inner (open_expr.Field n p) = named s n · (word OPEN · (named s p · word CLOSE))
factor_at s inner (open_expr.Bracket e) = word OPEN · (inner e · word CLOSE)
factor_at s inner (open_expr.Reference m) = word REFERENCE · named s m

abbrev pub factor_with : Bool → (Expr → Lang) → Factor → Lang
factor_with s inner f = on s f.line (factor_at s inner (out-FactorKind f.kind))

abbrev pub multiplied_at : (Factor → Lang) → open_expr.Multiplied-F Added FactorKind Multiplied Expr
    Factor Term → Lang
multiplied_at F (open_expr.Times f) = word TIMES · F f
multiplied_at F (open_expr.Over f) = word OVER · F f
multiplied_at F (open_expr.Mod f) = word MOD · F f

abbrev pub term_with : Bool → (Factor → Lang) → Term → Lang
term_with s F t = on s t.line (F t.first · each (λ m. multiplied_at F (out-Multiplied m)) t.rest)

abbrev pub added_at : (Term → Lang) → open_expr.Added-F Added FactorKind Multiplied Expr Factor Term
    → Lang
added_at T (open_expr.Plus t) = word PLUS · T t
added_at T (open_expr.Minus t) = word MINUS · T t

abbrev pub expr_with : Bool → (Term → Lang) → Expr → Lang
expr_with s T e = on s e.line (T e.first · each (λ a. added_at T (out-Added a)) e.rest)

-- what a bracket holds, where brackets may nest b deep
unfoldable pub inside : Bool → ℕ → Expr → Lang
inside s zero = never
inside s (suc b) = expr_with s (term_with s (factor_with s (inside s b)))

abbrev pub factor : Bool → ℕ → Factor → Lang
factor s b = factor_with s (inside s b)

abbrev pub term : Bool → ℕ → Term → Lang
term s b = term_with s (factor s b)

abbrev pub expr : Bool → ℕ → Expr → Lang
expr s b = expr_with s (term s b)

-- conditions

abbrev pub rel_at : RelKind → Lang
rel_at rels.Equal = word EQUAL
rel_at rels.Unequal = word UNEQUAL
rel_at rels.Below = word BELOW
rel_at rels.AtMost = word AT_MOST
rel_at rels.Above = word ABOVE
rel_at rels.AtLeast = word AT_LEAST

abbrev pub rel : Bool → Rel → Lang
rel s r = on s r.line (rel_at r.kind)

abbrev pub relation : Bool → ℕ → Relation → Lang
relation s b r = on s r.line (expr s b r.left · (rel s r.rel · expr s b r.right))

abbrev pub conj : Bool → ℕ → Conj → Lang
conj s b c = on s c.line (relation s b c.first · each (λ r. word AND · relation s b r) c.rest)

abbrev pub cond_of : Bool → ℕ → Cond → Lang
cond_of s b c = on s c.line (conj s b c.first · each (λ j. word OR · conj s b j) c.rest)

-- lists of names and of values, and a receiver

abbrev pub names : Bool → Names → Lang
names s x = on s x.line (word WITH · (named s x.first · each (λ n. word COMMA · named s n) x.rest))

abbrev pub exprs : Bool → ℕ → Exprs → Lang
exprs s b x = on s x.line (word WITH · (expr s b x.first · each (λ e. word COMMA · expr s b e)
    x.rest))

abbrev pub reference_at : Bool → ReferenceKind → Lang
reference_at s (references.Block m) = word REFERENCE · named s m
reference_at s (references.Held v) = word REFERENCE · (word OPEN · (named s v · word CLOSE))

abbrev pub reference : Bool → Reference → Lang
reference s x = on s x.line (reference_at s x.kind)

-- statements: `body` is what one that holds statements may hold

abbrev pub when_at : Bool → (List Stmt → Lang) → open_stmt.When-F StmtKind Stmt When → Lang
when_at s body x = on s x.line (word WHEN · (numbered s x.number · (word DO · body x.body)))

abbrev pub when_with : Bool → (List Stmt → Lang) → When → Lang
when_with s body x = when_at s body (out-When x)

abbrev pub kind_at : Bool → ℕ → (List Stmt → Lang) → open_stmt.StmtKind-F StmtKind Stmt When → Lang
kind_at s b body (open_stmt.Assign n e) = named s n · (word EQUAL · (expr s b e · word SEMI))
kind_at s b body (open_stmt.SetField n p e) =
    named s n · (word OPEN · (named s p · (word CLOSE · (word EQUAL · (expr s b e · word SEMI)))))
kind_at s b body (open_stmt.Goto l) = word GOTO · (named s l · word SEMI)
kind_at s b body (open_stmt.IfGoto c l) =
    word IF · (cond_of s b c · (word GOTO · (named s l · word SEMI)))
kind_at s b body (open_stmt.If c first other) = word IF ·
    (cond_of s b c · (word THEN · (body first ·
    (maybe (λ stmts. word ELSE · body stmts) other · (word FI · word SEMI)))))
kind_at s b body (open_stmt.Case e whens other) = word CASE ·
    (expr s b e · (word IS · (each (when_with s body) whens ·
    (word OTHERWISE · (word DO · (body other · (word ESAC · word SEMI)))))))
kind_at s b body (open_stmt.On n from upto stmts) = word ON ·
    (named s n · (word FROM · (expr s b from ·
    (word UPTO · (expr s b upto · (word DO · (body stmts · (word NO · word SEMI))))))))
kind_at s b body (open_stmt.ForFirst n file field r e l) = word FOR ·
    (word FIRST · (named s n · (word IN · (named s file ·
    (word WHERE · (named s field · (rel s r · (expr s b e ·
    (word GOTO · (named s l · word SEMI))))))))))
kind_at s b body (open_stmt.Send n r es fresh) = word SEND ·
    (named s n · (maybe (reference s) r · (maybe (exprs s b) es ·
    (flag (word NEW · word FORLOPP) fresh · word SEMI))))
kind_at s b body (open_stmt.Retrieve n ns) =
    word RETRIEVE · (named s n · (maybe (names s) ns · word SEMI))
kind_at s b body (open_stmt.Return n es) =
    word RETURN · (named s n · (maybe (exprs s b) es · word SEMI))
kind_at s b body (open_stmt.Transfer n r) =
    word TRANSFER · (named s n · (maybe (reference s) r · word SEMI))
kind_at s b body (open_stmt.Seize n file l) = word SEIZE ·
    (named s n · (word IN · (named s file · (word ELSE · (word GOTO · (named s l · word SEMI))))))
kind_at s b body (open_stmt.Free n file) =
    word FREE · (named s n · (word IN · (named s file · word SEMI)))
kind_at s b body open_stmt.Exit = word EXIT · word SEMI

abbrev pub stmt_with : Bool → ℕ → (List Stmt → Lang) → Stmt → Lang
stmt_with s b body x = on s x.line (kind_at s b body (out-StmtKind x.kind))

-- what a statement holds, where statements that hold statements may nest n deep
unfoldable pub body : Bool → ℕ → ℕ → List Stmt → Lang
body s b zero = never
body s b (suc n) = each (stmt_with s b (body s b n))

abbrev pub stmt : Bool → ℕ → ℕ → Stmt → Lang
stmt s b n = stmt_with s b (body s b n)

-- blocks

abbrev pub item_at : Bool → ℕ → ℕ → ItemKind → Lang
item_at s b n (items.Label l) = named s l · word CLOSE
item_at s b n (items.Enter m ns) = word ENTER · (named s m · (maybe (names s) ns · word SEMI))
item_at s b n (items.Stmt x) = stmt s b n x

abbrev pub item : Bool → ℕ → ℕ → Item → Lang
item s b n x = on s x.line (item_at s b n x.kind)

abbrev pub survey_at : Bool → SurveyKind → Lang
survey_at s (surveys.Receive m) = word RECEIVE · (named s m · word SEMI)
survey_at s (surveys.Send m) = word SEND · (named s m · word SEMI)

abbrev pub survey : Bool → Survey → Lang
survey s x = on s x.line (survey_at s x.kind)

abbrev pub init : Bool → Numbered → Lang
init s i = word INIT · numbered s i

abbrev pub field : Bool → Field → Lang
field s x = on s x.line (word FIELD · (named s x.name ·
    (word WIDTH · (numbered s x.width · (maybe (init s) x.init · word SEMI)))))

abbrev pub decl_at : Bool → DeclKind → Lang
decl_at s (decls.Variable n w i clear) = word VARIABLE ·
    (named s n · (word WIDTH · (numbered s w ·
    (maybe (init s) i · (flag (word CLEAR) clear · word SEMI)))))
decl_at s (decls.Temporary n) = word TEMPORARY · (named s n · word SEMI)
decl_at s (decls.File forlopp n size fields) = flag (word FORLOPP) forlopp ·
    (word FILE · (named s n · (word SIZE · (numbered s size ·
    (word SEMI · each (field s) fields)))))

abbrev pub decl : Bool → Decl → Lang
decl s x = on s x.line (decl_at s x.kind)

abbrev pub block : Bool → ℕ → ℕ → Block → Lang
block s b n x =
    on s x.line (word BLOCK · (named s x.name · (word SEMI
    · (word DECLARE · (word SEMI · (each (decl s) x.decls
    · (word SURVEY · (word SEMI · (each (survey s) x.surveys
    · (word PROGRAM · (word SEMI · (each (item s b n) x.items
    · on s x.end_line (word END · (word BLOCK · word SEMI))))))))))))))

-- signals and the whole

abbrev pub shape_at : Bool → ShapeKind → Lang
shape_at s (shapes.Buffered l d) =
    word SINGLE · (word BUFFERED · (leveled s l · (word DATA · numbered s d)))
shape_at s (shapes.Direct d) = word SINGLE · (word DIRECT · (word DATA · numbered s d))
shape_at s (shapes.Combined d a e) = word COMBINED ·
    (word DATA · (numbered s d · (word ANSWER · (named s a · (word DATA · numbered s e)))))
shape_at s (shapes.Outside d) = word OUTSIDE · (word DATA · numbered s d)

abbrev pub shape : Bool → Shape → Lang
shape s x = on s x.line (shape_at s x.kind)

abbrev pub signal : Bool → Signal → Lang
signal s x = on s x.line (word SIGNAL · (named s x.name · (shape s x.shape · word SEMI)))

-- an exchange: brackets at most b deep, statements that hold statements at most n deep
abbrev pub tree : Bool → ℕ → ℕ → Tree → Lang
tree s b n x = on s x.line (each (signal s) x.signals · each (block s b n) x.blocks)

-- the tokens are a sentence that spells the tree, within the limits of nesting
abbrev pub Sentence : Tree → Lang
Sentence = tree true MOST_BRACKETS MOST_NESTED
