-- The grammar of statements, read by descent with one token of sight. A name may begin an
-- assignment to a variable or to a field: what follows the name tells. So does what follows a
-- condition.
use Rattle.std.specs.Prelude.{ℕ, zero, suc, Bool, List, [], ◌++◌, Option, Some, None}
use Rattle.plex_lexer.specs.declared.token.Token.{Token}
use Rattle.token_grammar.specs.declared.named.Named.{Named}
use Rattle.token_grammar.specs.declared.named.Numbered.{Numbered}
use Rattle.token_grammar.specs.Language.{NAME}
use Rattle.token_grammar.specs.Reading.{Reader, word_of, many, both, branch, halt, lined, after}
use Rattle.token_grammar.specs.Reading.{ended, closed, pair, optional, flag_read, name_read}
use Rattle.token_grammar.specs.Reading.{number_read}
use Rattle.plex_ast.specs.declared.expr.Expr.{Expr}
use Rattle.plex_ast.specs.declared.expr.Rel.{Rel}
use Rattle.plex_ast.specs.declared.expr.Cond.{Cond}
use Rattle.plex_ast.specs.declared.expr.Exprs.{Exprs}
use Rattle.plex_ast.specs.declared.stmt.Names.{Names}
use Rattle.plex_ast.specs.declared.stmt.Reference.{Reference}
use Rattle.plex_ast.specs.declared.stmt.Stmt.{Stmt}
use Rattle.plex_ast.specs.declared.stmt.StmtKind.{StmtKind, Assign, SetField, Goto, IfGoto, If}
use Rattle.plex_ast.specs.declared.stmt.StmtKind.{Case, On, ForFirst, Send, Retrieve, Return}
use Rattle.plex_ast.specs.declared.stmt.StmtKind.{Transfer, Seize, Free, Exit}
use Rattle.plex_ast.specs.declared.stmt.When.{When, When-F, roll-When}
use Rattle.plex_ast.specs.Words.{FORLOPP, SEND, GOTO, IF, THEN, ELSE, FI, CASE, IS, WHEN, DO}
use Rattle.plex_ast.specs.Words.{OTHERWISE, ESAC, ON, FROM, UPTO, NO, FOR, FIRST, IN, WHERE, WITH}
use Rattle.plex_ast.specs.Words.{REFERENCE, NEW, RETRIEVE, RETURN, TRANSFER, EXIT, SEIZE, FREE}
use Rattle.plex_ast.specs.Words.{SEMI, EQUAL}
use Rattle.plex_expr_parser.specs.Readers.{pointer_read, expr_read, rel_read, cond_read, names_read}
use Rattle.plex_expr_parser.specs.Readers.{exprs_read, reference_read}

-- assignments: what follows the name, and the whole

abbrev pub value_read : ℕ → Reader Expr
value_read b = after EQUAL (ended (expr_read b) SEMI)

unfoldable pub assigned_read : ℕ → Reader (Option Named × Expr)
assigned_read b = pair pointer_read (value_read b)

abbrev pub assign_made : Named → Option Named × Expr → StmtKind
assign_made n (None, e) = Assign n e
assign_made n (Some p, e) = SetField n p e

-- statements that hold none and begin with a word

unfoldable pub to_label_read : Reader Named
to_label_read = after GOTO (ended name_read SEMI)

unfoldable pub goto_read : Reader StmtKind
goto_read = lined (λ _ (l : Named). Goto l) to_label_read

abbrev pub Search : Type 0
Search = Named × (Named × (Named × (Rel × (Expr × Named))))

abbrev pub first_made : ℕ → Search → StmtKind
first_made _ p = ForFirst p.0 p.1.0 p.1.1.0 p.1.1.1.0 p.1.1.1.1.0 p.1.1.1.1.1

-- what the record is that is sought
abbrev pub sought_read : ℕ → Reader (Named × (Rel × (Expr × Named)))
sought_read b = after WHERE (pair name_read (pair rel_read (pair (expr_read b) to_label_read)))

unfoldable pub first_read : ℕ → Reader StmtKind
first_read b = lined first_made (after FOR (after FIRST
    (pair name_read (after IN (pair name_read (sought_read b))))))

unfoldable pub receiver_read : Reader (Option Reference)
receiver_read = optional REFERENCE reference_read

unfoldable pub values_read : ℕ → Reader (Option Exprs)
values_read b = optional WITH (exprs_read b)

unfoldable pub taken_read : Reader (Option Names)
taken_read = optional WITH names_read

unfoldable pub fresh_read : Reader Bool
fresh_read = flag_read NEW (after NEW (word_of FORLOPP))

abbrev pub send_made : ℕ → Named × (Option Reference × (Option Exprs × Bool)) → StmtKind
send_made _ p = Send p.0 p.1.0 p.1.1.0 p.1.1.1

abbrev pub load_read : ℕ → Reader (Option Exprs × Bool)
load_read b = pair (values_read b) (ended fresh_read SEMI)

abbrev pub sent_read : ℕ → Reader (Option Reference × (Option Exprs × Bool))
sent_read b = pair receiver_read (load_read b)

unfoldable pub send_read : ℕ → Reader StmtKind
send_read b = lined send_made (after SEND (pair name_read (sent_read b)))

unfoldable pub retrieve_read : Reader StmtKind
retrieve_read = lined (λ _ (p : Named × Option Names). Retrieve p.0 p.1)
    (after RETRIEVE (pair name_read (ended taken_read SEMI)))

unfoldable pub return_read : ℕ → Reader StmtKind
return_read b = lined (λ _ (p : Named × Option Exprs). Return p.0 p.1)
    (after RETURN (pair name_read (ended (values_read b) SEMI)))

unfoldable pub transfer_read : Reader StmtKind
transfer_read = lined (λ _ (p : Named × Option Reference). Transfer p.0 p.1)
    (after TRANSFER (pair name_read (ended receiver_read SEMI)))

abbrev pub seized_read : Reader (Named × Named)
seized_read = after IN (pair name_read (after ELSE to_label_read))

unfoldable pub seize_read : Reader StmtKind
seize_read = lined (λ _ (p : Named × (Named × Named)). Seize p.0 p.1.0 p.1.1)
    (after SEIZE (pair name_read seized_read))

abbrev pub freed_read : Reader Named
freed_read = after IN (ended name_read SEMI)

unfoldable pub free_read : Reader StmtKind
free_read = lined (λ _ (p : Named × Named). Free p.0 p.1) (after FREE (pair name_read freed_read))

unfoldable pub exit_read : Reader StmtKind
exit_read = lined (λ _ (t : Token). Exit) (after EXIT (word_of SEMI))

unfoldable pub signal_read : ℕ → Reader StmtKind
signal_read b = branch SEND (send_read b) (branch RETRIEVE retrieve_read
    (branch RETURN (return_read b) transfer_read))

abbrev pub SIGNALLING : List ℕ
SIGNALLING = SEND ++ (RETRIEVE ++ (RETURN ++ TRANSFER))

unfoldable pub plain_read : ℕ → Reader StmtKind
plain_read b =
    branch SIGNALLING (signal_read b)
    (branch GOTO goto_read
    (branch FOR (first_read b)
    (branch SEIZE seize_read
    (branch FREE free_read exit_read))))

abbrev pub PLAIN : List ℕ
PLAIN = SIGNALLING ++ (GOTO ++ (FOR ++ (SEIZE ++ (FREE ++ EXIT))))

-- what follows a condition: a jump, or statements

pub data IfTail : Type 0 where
  Goes : (label : Named) → IfTail
  Does : (first : List Stmt) (other : Option (List Stmt)) → IfTail

abbrev pub if_made : Cond → IfTail → StmtKind
if_made c (Goes l) = IfGoto c l
if_made c (Does first other) = If c first other

-- the statement of this condition
abbrev pub if_with : Cond → Reader IfTail → Reader StmtKind
if_with c r = lined (λ _ tail. if_made c tail) r

unfoldable pub gone_read : Reader IfTail
gone_read = lined (λ _ (l : Named). Goes l) to_label_read

unfoldable pub else_by : Reader (List Stmt) → Reader (Option (List Stmt))
else_by body = optional ELSE (after ELSE body)

abbrev pub else_to_fi_read : Reader (List Stmt) → Reader (Option (List Stmt))
else_to_fi_read body = closed (else_by body) FI SEMI

abbrev pub then_rest : Reader (List Stmt) → Reader (List Stmt × Option (List Stmt))
then_rest body = pair body (else_to_fi_read body)

abbrev pub branches_read : Reader (List Stmt) → Reader (List Stmt × Option (List Stmt))
branches_read body = after THEN (then_rest body)

unfoldable pub then_by : Reader (List Stmt) → Reader IfTail
then_by body = lined (λ _ (p : List Stmt × Option (List Stmt)). Does p.0 p.1) (branches_read body)

-- where statements that hold statements may nest n deep
abbrev pub then_at : ℕ → Reader (List Stmt) → Reader IfTail
then_at zero body = halt THEN
then_at (suc n) body = then_by body

abbrev pub if_tail_at : ℕ → Reader (List Stmt) → Reader IfTail
if_tail_at n body = branch GOTO gone_read (then_at n body)

unfoldable pub if_at : ℕ → ℕ → Reader (List Stmt) → Reader StmtKind
if_at b n body = after IF (both if_made (cond_read b) (if_tail_at n body))

-- CASE and ON

abbrev pub when_made : ℕ → Numbered × List Stmt → When
when_made line p = let w : When-F StmtKind Stmt When = record
    { line = line; number = p.0; body = p.1 } in roll-When w

unfoldable pub when_by : Reader (List Stmt) → Reader When
when_by body = lined when_made (after WHEN (pair number_read (after DO body)))

abbrev pub case_made : ℕ → Expr × (List When × List Stmt) → StmtKind
case_made _ p = Case p.0 p.1.0 p.1.1

-- what is done, up to this last word
abbrev pub do_read : List ℕ → Reader (List Stmt) → Reader (List Stmt)
do_read last body = after DO (closed body last SEMI)

abbrev pub otherwise_read : Reader (List Stmt) → Reader (List Stmt)
otherwise_read body = after OTHERWISE (do_read ESAC body)

abbrev pub arms_read : Reader (List Stmt) → Reader (List When × List Stmt)
arms_read body = pair (many WHEN (when_by body)) (otherwise_read body)

unfoldable pub case_by : ℕ → Reader (List Stmt) → Reader StmtKind
case_by b body = lined case_made (after CASE (pair (expr_read b) (after IS (arms_read body))))

abbrev pub on_made : ℕ → Named × (Expr × (Expr × List Stmt)) → StmtKind
on_made _ p = On p.0 p.1.0 p.1.1.0 p.1.1.1

abbrev pub upto_read : ℕ → Reader (List Stmt) → Reader (Expr × List Stmt)
upto_read b body = after UPTO (pair (expr_read b) (do_read NO body))

abbrev pub span_read : ℕ → Reader (List Stmt) → Reader (Expr × (Expr × List Stmt))
span_read b body = after FROM (pair (expr_read b) (upto_read b body))

abbrev pub on_rest : ℕ → Reader (List Stmt) → Reader (Named × (Expr × (Expr × List Stmt)))
on_rest b body = pair name_read (span_read b body)

unfoldable pub on_by : ℕ → Reader (List Stmt) → Reader StmtKind
on_by b body = lined on_made (after ON (on_rest b body))

unfoldable pub nest_by : ℕ → Reader (List Stmt) → Reader StmtKind
nest_by b body = branch CASE (case_by b body) (on_by b body)

abbrev pub nest_at : ℕ → ℕ → Reader (List Stmt) → Reader StmtKind
nest_at b zero body = halt (CASE ++ ON)
nest_at b (suc n) body = nest_by b body

-- any statement

unfoldable pub held_at : ℕ → ℕ → Reader (List Stmt) → Reader StmtKind
held_at b n body = branch IF (if_at b n body) (nest_at b n body)

unfoldable pub other_at : ℕ → ℕ → Reader (List Stmt) → Reader StmtKind
other_at b n body = branch PLAIN (plain_read b) (held_at b n body)

unfoldable pub kind_at : ℕ → ℕ → Reader (List Stmt) → Reader StmtKind
kind_at b n body = branch NAME (both assign_made name_read (assigned_read b)) (other_at b n body)

abbrev pub stmt_made : ℕ → StmtKind → Stmt
stmt_made line k = record { line = line; kind = k }

unfoldable pub stmt_at : ℕ → ℕ → Reader (List Stmt) → Reader Stmt
stmt_at b n body = lined stmt_made (kind_at b n body)

abbrev pub HELD : List ℕ
HELD = IF ++ (CASE ++ ON)

abbrev pub STMT : List ℕ
STMT = NAME ++ (PLAIN ++ HELD)

-- what a statement holds, where statements that hold statements may nest n deep; at 0 it is never
-- read
unfoldable pub body_read : ℕ → ℕ → Reader (List Stmt)
body_read b zero = halt []
body_read b (suc n) = many STMT (stmt_at b n (body_read b n))

unfoldable pub stmt_read : ℕ → ℕ → Reader Stmt
stmt_read b n = stmt_at b n (body_read b n)

-- as many statements as stand there
abbrev pub stmts_read : ℕ → ℕ → Reader (List Stmt)
stmts_read b n = many STMT (stmt_read b n)
