-- What is written for a tree, one line for each production or alternative of the grammar, in its
-- order. As in the grammar, the two limits are parameters: what nests deeper is left out.
use Rattle.std.specs.Prelude.{ℕ, zero, suc, Bool, List, Option, codes}
use Rattle.token_grammar.specs.declared.named.Named.{Named}
use Rattle.token_grammar.specs.declared.named.Numbered.{Numbered}
use Rattle.plex_ast.specs.declared.expr.Expr.{Expr}
use Rattle.plex_ast.specs.declared.expr.Rel.{Rel}
use Rattle.plex_ast.specs.declared.expr.Cond.{Cond}
use Rattle.plex_ast.specs.declared.expr.Exprs.{Exprs}
use Rattle.plex_ast.specs.declared.stmt.Names.{Names}
use Rattle.plex_ast.specs.declared.stmt.Reference.{Reference}
use Rattle.plex_ast.specs.declared.stmt.ReferenceKind.{ReferenceKind}
use Rattle.plex_ast.specs.declared.stmt.ReferenceKind.TheVariants as references
use Rattle.plex_ast.specs.declared.stmt.Stmt.{Stmt}
use Rattle.plex_ast.specs.declared.stmt.StmtKind.{StmtKind, out-StmtKind}
use Rattle.plex_ast.specs.declared.stmt.StmtKind.TheOpen as open_stmt
use Rattle.plex_ast.specs.declared.stmt.When.{When, out-When}
use Rattle.plex_ast.specs.declared.block.Item.{Item}
use Rattle.plex_ast.specs.declared.block.ItemKind.{ItemKind}
use Rattle.plex_ast.specs.declared.block.ItemKind.TheVariants as items
use Rattle.plex_ast.specs.declared.block.Survey.{Survey}
use Rattle.plex_ast.specs.declared.block.SurveyKind.{SurveyKind}
use Rattle.plex_ast.specs.declared.block.SurveyKind.TheVariants as surveys
use Rattle.plex_ast.specs.declared.block.Decl.{Decl}
use Rattle.plex_ast.specs.declared.block.DeclKind.{DeclKind}
use Rattle.plex_ast.specs.declared.block.DeclKind.TheVariants as decls
use Rattle.plex_ast.specs.declared.block.Field.{Field}
use Rattle.plex_ast.specs.declared.block.Block.{Block}
use Rattle.plex_ast.specs.declared.tree.Signal.{Signal}
use Rattle.plex_ast.specs.declared.tree.Shape.{Shape}
use Rattle.plex_ast.specs.declared.tree.ShapeKind.{ShapeKind}
use Rattle.plex_ast.specs.declared.tree.ShapeKind.TheVariants as shapes
use Rattle.plex_ast.specs.declared.tree.Tree.{Tree}
use Rattle.plex_print.specs.Writing.{Writer, say, semi, leave, ◌▷◌, each_of, maybe_of, flag_of}
use Rattle.plex_print.specs.PrintedExpressions.{name_text, number_text, level_text, expr_text}
use Rattle.plex_print.specs.PrintedExpressions.{rel_text, cond_text}

-- lists of names and of values, and a receiver

unfoldable pub comma_name_text : Named → Writer
comma_name_text n = say (codes ",") ▷ name_text n

unfoldable pub names_text : Names → Writer
names_text x = say (codes "WITH") ▷ (name_text x.first ▷ each_of comma_name_text x.rest)

unfoldable pub comma_expr_text : ℕ → Expr → Writer
comma_expr_text b e = say (codes ",") ▷ expr_text b e

unfoldable pub exprs_text : ℕ → Exprs → Writer
exprs_text b x = say (codes "WITH") ▷ (expr_text b x.first ▷ each_of (comma_expr_text b) x.rest)

abbrev pub reference_at : ReferenceKind → Writer
reference_at (references.Block m) = say (codes "REFERENCE") ▷ name_text m
reference_at (references.Held v) =
    say (codes "REFERENCE") ▷ (say (codes "(") ▷ (name_text v ▷ say (codes ")")))

unfoldable pub reference_text : Reference → Writer
reference_text x = reference_at x.kind

-- statements: `body` writes what one that holds statements holds

unfoldable pub to_label_text : Named → Writer
to_label_text l = say (codes "GOTO") ▷ (name_text l ▷ semi)

unfoldable pub assign_text : ℕ → Named → Expr → Writer
assign_text b n e = name_text n ▷ (say (codes "=") ▷ (expr_text b e ▷ semi))

unfoldable pub set_field_text : ℕ → Named → Named → Expr → Writer
set_field_text b n p e = name_text n ▷ (say (codes "(")
    ▷ (name_text p ▷ (say (codes ")") ▷ (say (codes "=") ▷ (expr_text b e ▷ semi)))))

unfoldable pub if_goto_text : ℕ → Cond → Named → Writer
if_goto_text b c l = say (codes "IF") ▷ (cond_text b c ▷ to_label_text l)

unfoldable pub else_text : (List Stmt → Writer) → List Stmt → Writer
else_text body stmts = say (codes "ELSE") ▷ body stmts

unfoldable pub if_text : ℕ → (List Stmt → Writer) → Cond → List Stmt → Option (List Stmt) → Writer
if_text b body c first other = say (codes "IF")
    ▷ (cond_text b c ▷ (say (codes "THEN") ▷ (body first
    ▷ (maybe_of (else_text body) other ▷ (say (codes "FI") ▷ semi)))))

abbrev pub when_at : (List Stmt → Writer) → open_stmt.When-F StmtKind Stmt When → Writer
when_at body x = say (codes "WHEN") ▷ (number_text x.number ▷ (say (codes "DO") ▷ body x.body))

unfoldable pub when_text : (List Stmt → Writer) → When → Writer
when_text body x = when_at body (out-When x)

unfoldable pub case_text : ℕ → (List Stmt → Writer) → Expr → List When → List Stmt → Writer
case_text b body e whens other = say (codes "CASE")
    ▷ (expr_text b e ▷ (say (codes "IS") ▷ (each_of (when_text body) whens
    ▷ (say (codes "OTHERWISE") ▷ (say (codes "DO") ▷ (body other ▷ (say (codes "ESAC") ▷ semi)))))))

unfoldable pub on_text : ℕ → (List Stmt → Writer) → Named → Expr → Expr → List Stmt → Writer
on_text b body n from upto stmts = say (codes "ON")
    ▷ (name_text n ▷ (say (codes "FROM") ▷ (expr_text b from
    ▷ (say (codes "UPTO") ▷ (expr_text b upto ▷ (say (codes "DO")
    ▷ (body stmts ▷ (say (codes "NO") ▷ semi))))))))

unfoldable pub for_first_text : ℕ → Named → Named → Named → Rel → Expr → Named → Writer
for_first_text b n file field r e l = say (codes "FOR")
    ▷ (say (codes "FIRST") ▷ (name_text n ▷ (say (codes "IN")
    ▷ (name_text file ▷ (say (codes "WHERE") ▷ (name_text field
    ▷ (rel_text r ▷ (expr_text b e ▷ to_label_text l))))))))

unfoldable pub send_text : ℕ → Named → Option Reference → Option Exprs → Bool → Writer
send_text b n r es fresh = say (codes "SEND") ▷ (name_text n
    ▷ (maybe_of reference_text r ▷ (maybe_of (exprs_text b) es
    ▷ (flag_of (say (codes "NEW") ▷ say (codes "FORLOPP")) fresh ▷ semi))))

unfoldable pub retrieve_text : Named → Option Names → Writer
retrieve_text n ns = say (codes "RETRIEVE") ▷ (name_text n ▷ (maybe_of names_text ns ▷ semi))

unfoldable pub return_text : ℕ → Named → Option Exprs → Writer
return_text b n es = say (codes "RETURN") ▷ (name_text n ▷ (maybe_of (exprs_text b) es ▷ semi))

unfoldable pub transfer_text : Named → Option Reference → Writer
transfer_text n r = say (codes "TRANSFER") ▷ (name_text n ▷ (maybe_of reference_text r ▷ semi))

unfoldable pub seize_text : Named → Named → Named → Writer
seize_text n file l = say (codes "SEIZE") ▷ (name_text n
    ▷ (say (codes "IN") ▷ (name_text file ▷ (say (codes "ELSE") ▷ to_label_text l))))

unfoldable pub free_text : Named → Named → Writer
free_text n file = say (codes "FREE") ▷ (name_text n ▷ (say (codes "IN") ▷ (name_text file ▷ semi)))

unfoldable pub exit_text : Writer
exit_text = say (codes "EXIT") ▷ semi

abbrev pub kind_at : ℕ → (List Stmt → Writer) → open_stmt.StmtKind-F StmtKind Stmt When → Writer
kind_at b body (open_stmt.Assign n e) = assign_text b n e
kind_at b body (open_stmt.SetField n p e) = set_field_text b n p e
kind_at b body (open_stmt.Goto l) = to_label_text l
kind_at b body (open_stmt.IfGoto c l) = if_goto_text b c l
kind_at b body (open_stmt.If c first other) = if_text b body c first other
kind_at b body (open_stmt.Case e whens other) = case_text b body e whens other
kind_at b body (open_stmt.On n from upto stmts) = on_text b body n from upto stmts
kind_at b body (open_stmt.ForFirst n file field r e l) = for_first_text b n file field r e l
kind_at b body (open_stmt.Send n r es fresh) = send_text b n r es fresh
kind_at b body (open_stmt.Retrieve n ns) = retrieve_text n ns
kind_at b body (open_stmt.Return n es) = return_text b n es
kind_at b body (open_stmt.Transfer n r) = transfer_text n r
kind_at b body (open_stmt.Seize n file l) = seize_text n file l
kind_at b body (open_stmt.Free n file) = free_text n file
kind_at b body open_stmt.Exit = exit_text

abbrev pub stmt_with : ℕ → (List Stmt → Writer) → Stmt → Writer
stmt_with b body x = kind_at b body (out-StmtKind x.kind)

-- what a statement holds, where statements that hold statements may nest n deep
unfoldable pub body_text : ℕ → ℕ → List Stmt → Writer
body_text b zero stmts = leave
body_text b (suc n) stmts = each_of (stmt_with b (body_text b n)) stmts

unfoldable pub kind_text : ℕ → ℕ → StmtKind → Writer
kind_text b n x = kind_at b (body_text b n) (out-StmtKind x)

unfoldable pub stmt_text : ℕ → ℕ → Stmt → Writer
stmt_text b n x = kind_text b n x.kind

-- blocks

abbrev pub item_at : ℕ → ℕ → ItemKind → Writer
item_at b n (items.Label l) = name_text l ▷ say (codes ")")
item_at b n (items.Enter m ns) =
    say (codes "ENTER") ▷ (name_text m ▷ (maybe_of names_text ns ▷ semi))
item_at b n (items.Stmt s) = stmt_text b n s

unfoldable pub item_text : ℕ → ℕ → Item → Writer
item_text b n x = item_at b n x.kind

abbrev pub survey_at : SurveyKind → Writer
survey_at (surveys.Receive m) = say (codes "RECEIVE") ▷ (name_text m ▷ semi)
survey_at (surveys.Send m) = say (codes "SEND") ▷ (name_text m ▷ semi)

unfoldable pub survey_text : Survey → Writer
survey_text x = survey_at x.kind

unfoldable pub init_text : Numbered → Writer
init_text i = say (codes "INIT") ▷ number_text i

unfoldable pub field_text : Field → Writer
field_text x = say (codes "FIELD") ▷ (name_text x.name
    ▷ (say (codes "WIDTH") ▷ (number_text x.width ▷ (maybe_of init_text x.init ▷ semi))))

unfoldable pub variable_text : Named → Numbered → Option Numbered → Bool → Writer
variable_text n w i clear = say (codes "VARIABLE")
    ▷ (name_text n ▷ (say (codes "WIDTH") ▷ (number_text w
    ▷ (maybe_of init_text i ▷ (flag_of (say (codes "CLEAR")) clear ▷ semi)))))

unfoldable pub temporary_text : Named → Writer
temporary_text n = say (codes "TEMPORARY") ▷ (name_text n ▷ semi)

unfoldable pub file_text : Bool → Named → Numbered → List Field → Writer
file_text forlopp n size fields = flag_of (say (codes "FORLOPP")) forlopp
    ▷ (say (codes "FILE") ▷ (name_text n ▷ (say (codes "SIZE")
    ▷ (number_text size ▷ (semi ▷ each_of field_text fields)))))

abbrev pub decl_at : DeclKind → Writer
decl_at (decls.Variable n w i clear) = variable_text n w i clear
decl_at (decls.Temporary n) = temporary_text n
decl_at (decls.File forlopp n size fields) = file_text forlopp n size fields

unfoldable pub decl_text : Decl → Writer
decl_text x = decl_at x.kind

unfoldable pub declare_text : List Decl → Writer
declare_text xs = say (codes "DECLARE") ▷ (semi ▷ each_of decl_text xs)

unfoldable pub surveyed_text : List Survey → Writer
surveyed_text xs = say (codes "SURVEY") ▷ (semi ▷ each_of survey_text xs)

unfoldable pub program_text : ℕ → ℕ → List Item → Writer
program_text b n xs = say (codes "PROGRAM") ▷ (semi ▷ each_of (item_text b n) xs)

unfoldable pub block_text : ℕ → ℕ → Block → Writer
block_text b n x =
    say (codes "BLOCK") ▷ (name_text x.name ▷ (semi
    ▷ (declare_text x.decls ▷ (surveyed_text x.surveys
    ▷ (program_text b n x.items ▷ (say (codes "END") ▷ (say (codes "BLOCK") ▷ semi)))))))

-- signals and the whole

unfoldable pub data_text : Numbered → Writer
data_text d = say (codes "DATA") ▷ number_text d

abbrev pub shape_at : ShapeKind → Writer
shape_at (shapes.Buffered l d) =
    say (codes "SINGLE") ▷ (say (codes "BUFFERED") ▷ (level_text l ▷ data_text d))
shape_at (shapes.Direct d) = say (codes "SINGLE") ▷ (say (codes "DIRECT") ▷ data_text d)
shape_at (shapes.Combined d a e) =
    say (codes "COMBINED") ▷ (data_text d ▷ (say (codes "ANSWER") ▷ (name_text a ▷ data_text e)))
shape_at (shapes.Outside d) = say (codes "OUTSIDE") ▷ data_text d

unfoldable pub shape_text : Shape → Writer
shape_text x = shape_at x.kind

unfoldable pub signal_text : Signal → Writer
signal_text x = say (codes "SIGNAL") ▷ (name_text x.name ▷ (shape_text x.shape ▷ semi))

-- an exchange: brackets at most b deep, statements that hold statements at most n deep
unfoldable pub tree_text : ℕ → ℕ → Tree → Writer
tree_text b n x = each_of signal_text x.signals ▷ each_of (block_text b n) x.blocks
