-- Assignments and statements that hold none are read exactly.
use Rattle.std.proofs.Common.{ℕ, ◌<◌, Bool, true, false, List, [], ◌++◌, Option, refl, sym, ◌∙◌, ap}
use Rattle.std.proofs.Common.{subst, inl, inr}
use Rattle.plex_lexer.specs.declared.token.Token.{Token}
use Rattle.token_grammar.specs.declared.named.Named.{Named}
use Rattle.token_grammar.specs.Language.{Lang, word, ◌·◌, maybe, flag, named}
use Rattle.token_grammar.proofs.Exact.{Exact, Exact-word, Exact-pair, Exact-lined, Exact-branch}
use Rattle.token_grammar.proofs.Exact.{Exact-after, Exact-ended, Exact-optional, Exact-flag, Either}
use Rattle.token_grammar.proofs.Exact.{Lined, one}
use Rattle.token_grammar.proofs.Words.{a_keyword, a_mark, Exact-name}
use Rattle.plex_ast.specs.declared.expr.Expr.{Expr}
use Rattle.plex_ast.specs.declared.expr.Exprs.{Exprs}
use Rattle.plex_ast.specs.declared.stmt.Names.{Names}
use Rattle.plex_ast.specs.declared.stmt.Reference.{Reference}
use Rattle.plex_ast.specs.declared.stmt.Stmt.{Stmt}
use Rattle.plex_ast.specs.declared.stmt.StmtKind.{StmtKind, Goto, Retrieve, Return, Transfer, Seize}
use Rattle.plex_ast.specs.declared.stmt.StmtKind.{Free, Exit, out-StmtKind}
use Rattle.plex_ast.specs.declared.stmt.StmtKind.TheVariants.{outs-Goto, outs-ForFirst, outs-Send}
use Rattle.plex_ast.specs.declared.stmt.StmtKind.TheVariants.{outs-Retrieve, outs-Return}
use Rattle.plex_ast.specs.declared.stmt.StmtKind.TheVariants.{outs-Transfer, outs-Seize, outs-Free}
use Rattle.plex_ast.specs.declared.stmt.StmtKind.TheVariants.{outs-Exit}
use Rattle.plex_ast.specs.Words.{FORLOPP, SEND, GOTO, ELSE, FOR, FIRST, IN, WHERE, WITH, REFERENCE}
use Rattle.plex_ast.specs.Words.{NEW, RETRIEVE, RETURN, TRANSFER, EXIT, SEIZE, FREE, SEMI, COMMA}
use Rattle.plex_ast.specs.Words.{OPEN, CLOSE, EQUAL}
use Rattle.plex_ast.specs.Grammar as grammar
use Rattle.plex_ast.specs.Grammar.{expr, rel, names, exprs, reference}
use Rattle.plex_expr_parser.specs.Readers.{pointer_read}
use Rattle.plex_expr_parser.proofs.Expressions.{Exact-expr}
use Rattle.plex_expr_parser.proofs.Conditions.{Exact-rel, Exact-names, Exact-exprs, Exact-reference}
use Rattle.plex_expr_parser.proofs.Conditions.{PAST_EXPRS}
use Rattle.plex_parser.specs.Statements.{assigned_read, to_label_read, goto_read, Search}
use Rattle.plex_parser.specs.Statements.{first_made, first_read, receiver_read, values_read}
use Rattle.plex_parser.specs.Statements.{taken_read, fresh_read, send_made, send_read}
use Rattle.plex_parser.specs.Statements.{retrieve_read, return_read, transfer_read, seize_read}
use Rattle.plex_parser.specs.Statements.{free_read, exit_read, SIGNALLING, signal_read, PLAIN}
use Rattle.plex_parser.specs.Statements.{plain_read}

-- what follows the name that is assigned

abbrev pub Pointer : Option Named → Lang
Pointer = maybe (λ p. word OPEN · (named true p · word CLOSE))

abbrev pub Assigned : ℕ → Option Named × Expr → Lang
Assigned b p = Pointer p.0 · (word EQUAL · (expr true b p.1 · word SEMI))

Exact-pointer : Exact Pointer Pointer OPEN true OPEN pointer_read pointer_read
unfolding pointer_read
Exact-pointer = Exact-optional OPEN (Exact-after OPEN (a_mark 2) refl (Exact-ended CLOSE (a_mark 3) refl Exact-name refl)) refl

pub Exact-assigned : (b c : ℕ) → b < c → Exact (Assigned b) (Assigned c) (OPEN ++ EQUAL) false [] (assigned_read b) (assigned_read c)
unfolding assigned_read
Exact-assigned b c h = Exact-pair Exact-pointer (Exact-after EQUAL (a_mark 4) refl (Exact-ended SEMI (a_mark 0) refl (Exact-expr b c h) refl)) refl

-- the parts

abbrev pub ToLabel : Named → Lang
ToLabel l = word GOTO · (named true l · word SEMI)

pub Exact-to-label : Exact ToLabel ToLabel GOTO false [] to_label_read to_label_read
unfolding to_label_read
Exact-to-label = Exact-after GOTO (a_keyword 23) refl (Exact-ended SEMI (a_mark 0) refl Exact-name refl)

Exact-receiver : Exact (maybe (reference true)) (maybe (reference true)) REFERENCE true REFERENCE receiver_read receiver_read
unfolding receiver_read
Exact-receiver = Exact-optional REFERENCE Exact-reference refl

Exact-values : (b c : ℕ) → b < c → Exact (maybe (exprs true b)) (maybe (exprs true c)) WITH true (WITH ++ PAST_EXPRS) (values_read b) (values_read c)
unfolding values_read
Exact-values b c h = Exact-optional WITH (Exact-exprs b c h) refl

pub Exact-taken : Exact (maybe (names true)) (maybe (names true)) WITH true (WITH ++ COMMA) taken_read taken_read
unfolding taken_read
Exact-taken = Exact-optional WITH Exact-names refl

Exact-fresh : Exact (flag (word NEW · word FORLOPP)) (flag (word NEW · word FORLOPP)) NEW true NEW fresh_read fresh_read
unfolding fresh_read
Exact-fresh = Exact-flag NEW (word NEW · word FORLOPP)
    (λ t u h. (h.0, h.1, h.2, h.3, (t, h.4.0, h.4.1))) (λ t u h. (h.0, h.1, h.2, h.3, (t, h.4.0, h.4.1))) (λ u h. (h.4.0, (h.0, h.1, h.2, h.3, (h.4.1, h.4.2))))
    (Exact-after NEW (a_keyword 45) refl (Exact-word FORLOPP (a_keyword 13) refl)) refl

-- each statement by its value

abbrev pub ByGoto : StmtKind → Lang
ByGoto = Lined (λ _ (l : Named). Goto l) ToLabel

abbrev pub ByFirst : ℕ → StmtKind → Lang
ByFirst b = Lined first_made (λ (p : Search). word FOR ·
    (word FIRST · (named true p.0 · (word IN ·
    (named true p.1.0 · (word WHERE · (named true p.1.1.0 ·
    (rel true p.1.1.1.0 · (expr true b p.1.1.1.1.0 · ToLabel p.1.1.1.1.1)))))))))

abbrev pub BySend : ℕ → StmtKind → Lang
BySend b = Lined send_made (λ (p : Named × (Option Reference × (Option Exprs × Bool))). word SEND ·
    (named true p.0 · (maybe (reference true) p.1.0 ·
    (maybe (exprs true b) p.1.1.0 · (flag (word NEW · word FORLOPP) p.1.1.1 · word SEMI)))))

abbrev pub ByRetrieve : StmtKind → Lang
ByRetrieve = Lined (λ _ (p : Named × Option Names). Retrieve p.0 p.1) (λ p. word RETRIEVE · (named true p.0 · (maybe (names true) p.1 · word SEMI)))

abbrev pub ByReturn : ℕ → StmtKind → Lang
ByReturn b = Lined (λ _ (p : Named × Option Exprs). Return p.0 p.1) (λ p. word RETURN · (named true p.0 · (maybe (exprs true b) p.1 · word SEMI)))

abbrev pub ByTransfer : StmtKind → Lang
ByTransfer = Lined (λ _ (p : Named × Option Reference). Transfer p.0 p.1) (λ p. word TRANSFER · (named true p.0 · (maybe (reference true) p.1 · word SEMI)))

abbrev pub BySeize : StmtKind → Lang
BySeize = Lined (λ _ (p : Named × (Named × Named)). Seize p.0 p.1.0 p.1.1)
    (λ p. word SEIZE · (named true p.0 · (word IN · (named true p.1.0 · (word ELSE · ToLabel p.1.1)))))

abbrev pub ByFree : StmtKind → Lang
ByFree = Lined (λ _ (p : Named × Named). Free p.0 p.1) (λ p. word FREE · (named true p.0 · (word IN · (named true p.1 · word SEMI))))

abbrev pub ByExit : StmtKind → Lang
ByExit = Lined (λ _ (t : Token). Exit) (λ t. word EXIT · one SEMI t)

abbrev pub BySignal : ℕ → StmtKind → Lang
BySignal b = Either (BySend b) (Either ByRetrieve (Either (ByReturn b) ByTransfer))

abbrev pub ByPlain : ℕ → StmtKind → Lang
ByPlain b = Either (BySignal b) (Either ByGoto (Either (ByFirst b) (Either BySeize (Either ByFree ByExit))))

Exact-goto : Exact ByGoto ByGoto GOTO false [] goto_read goto_read
unfolding goto_read
Exact-goto = Exact-lined (λ _ (l : Named). Goto l) Exact-to-label

Exact-first : (b c : ℕ) → b < c → Exact (ByFirst b) (ByFirst c) FOR false [] (first_read b) (first_read c)
unfolding first_read
Exact-first b c h = Exact-lined first_made
    (Exact-after FOR (a_keyword 38) refl (Exact-after FIRST (a_keyword 39) refl (Exact-pair Exact-name
    (Exact-after IN (a_keyword 40) refl (Exact-pair Exact-name
    (Exact-after WHERE (a_keyword 41) refl (Exact-pair Exact-name
    (Exact-pair Exact-rel (Exact-pair (Exact-expr b c h) Exact-to-label refl) refl) refl)) refl)) refl)))

Exact-send : (b c : ℕ) → b < c → Exact (BySend b) (BySend c) SEND false [] (send_read b) (send_read c)
unfolding send_read
Exact-send b c h = Exact-lined send_made
    (Exact-after SEND (a_keyword 20) refl (Exact-pair Exact-name
    (Exact-pair Exact-receiver (Exact-pair (Exact-values b c h) (Exact-ended SEMI (a_mark 0) refl Exact-fresh refl)
    refl) refl) refl))

Exact-retrieve : Exact ByRetrieve ByRetrieve RETRIEVE false [] retrieve_read retrieve_read
unfolding retrieve_read
Exact-retrieve = Exact-lined (λ _ (p : Named × Option Names). Retrieve p.0 p.1)
    (Exact-after RETRIEVE (a_keyword 46) refl (Exact-pair Exact-name (Exact-ended SEMI (a_mark 0) refl Exact-taken refl)
    refl))

Exact-return : (b c : ℕ) → b < c → Exact (ByReturn b) (ByReturn c) RETURN false [] (return_read b) (return_read c)
unfolding return_read
Exact-return b c h = Exact-lined (λ _ (p : Named × Option Exprs). Return p.0 p.1)
    (Exact-after RETURN (a_keyword 47) refl (Exact-pair Exact-name
    (Exact-ended SEMI (a_mark 0) refl (Exact-values b c h) refl) refl))

Exact-transfer : Exact ByTransfer ByTransfer TRANSFER false [] transfer_read transfer_read
unfolding transfer_read
Exact-transfer = Exact-lined (λ _ (p : Named × Option Reference). Transfer p.0 p.1)
    (Exact-after TRANSFER (a_keyword 48) refl (Exact-pair Exact-name
    (Exact-ended SEMI (a_mark 0) refl Exact-receiver refl) refl))

Exact-seize : Exact BySeize BySeize SEIZE false [] seize_read seize_read
unfolding seize_read
Exact-seize = Exact-lined (λ _ (p : Named × (Named × Named)). Seize p.0 p.1.0 p.1.1)
    (Exact-after SEIZE (a_keyword 50) refl (Exact-pair Exact-name
    (Exact-after IN (a_keyword 40) refl (Exact-pair Exact-name (Exact-after ELSE (a_keyword 26) refl Exact-to-label)
    refl)) refl))

Exact-free : Exact ByFree ByFree FREE false [] free_read free_read
unfolding free_read
Exact-free = Exact-lined (λ _ (p : Named × Named). Free p.0 p.1)
    (Exact-after FREE (a_keyword 51) refl (Exact-pair Exact-name
    (Exact-after IN (a_keyword 40) refl (Exact-ended SEMI (a_mark 0) refl Exact-name refl)) refl))

Exact-exit : Exact ByExit ByExit EXIT false [] exit_read exit_read
unfolding exit_read
Exact-exit = Exact-lined (λ _ (t : Token). Exit) (Exact-after EXIT (a_keyword 49) refl (Exact-word SEMI (a_mark 0) refl))

Exact-signal : (b c : ℕ) → b < c → Exact (BySignal b) (BySignal c) SIGNALLING false [] (signal_read b) (signal_read c)
unfolding signal_read
Exact-signal b c h = Exact-branch SEND (Exact-send b c h)
    (Exact-branch RETRIEVE Exact-retrieve (Exact-branch RETURN (Exact-return b c h) Exact-transfer refl refl) refl refl)
    refl refl

pub Exact-plain : (b c : ℕ) → b < c → Exact (ByPlain b) (ByPlain c) PLAIN false [] (plain_read b) (plain_read c)
unfolding plain_read
Exact-plain b c h =
    Exact-branch SIGNALLING (Exact-signal b c h)
    (Exact-branch GOTO Exact-goto
    (Exact-branch FOR (Exact-first b c h)
    (Exact-branch SEIZE Exact-seize
    (Exact-branch FREE Exact-free Exact-exit refl refl) refl refl) refl refl) refl refl) refl refl

-- each is what the grammar says
pub plain_to : (b : ℕ) (body : List Stmt → Lang) (x : StmtKind) (u : List Token) → ByPlain b x u → grammar.kind_at true b body (out-StmtKind x) u
plain_to b body x u (inl (inl h)) = subst (λ y. grammar.kind_at true b body y u) (sym (ap out-StmtKind h.1 ∙ outs-Send h.0.0 h.0.1.0 h.0.1.1.0 h.0.1.1.1)) h.2
plain_to b body x u (inl (inr (inl h))) = subst (λ y. grammar.kind_at true b body y u) (sym (ap out-StmtKind h.1 ∙ outs-Retrieve h.0.0 h.0.1)) h.2
plain_to b body x u (inl (inr (inr (inl h)))) = subst (λ y. grammar.kind_at true b body y u) (sym (ap out-StmtKind h.1 ∙ outs-Return h.0.0 h.0.1)) h.2
plain_to b body x u (inl (inr (inr (inr h)))) = subst (λ y. grammar.kind_at true b body y u) (sym (ap out-StmtKind h.1 ∙ outs-Transfer h.0.0 h.0.1)) h.2
plain_to b body x u (inr (inl h)) = subst (λ y. grammar.kind_at true b body y u) (sym (ap out-StmtKind h.1 ∙ outs-Goto h.0)) h.2
plain_to b body x u (inr (inr (inl h))) = subst (λ y. grammar.kind_at true b body y u)
    (sym (ap out-StmtKind h.1 ∙ outs-ForFirst h.0.0 h.0.1.0 h.0.1.1.0 h.0.1.1.1.0 h.0.1.1.1.1.0 h.0.1.1.1.1.1)) h.2
plain_to b body x u (inr (inr (inr (inl h)))) = subst (λ y. grammar.kind_at true b body y u) (sym (ap out-StmtKind h.1 ∙ outs-Seize h.0.0 h.0.1.0 h.0.1.1)) h.2
plain_to b body x u (inr (inr (inr (inr (inl h))))) = subst (λ y. grammar.kind_at true b body y u) (sym (ap out-StmtKind h.1 ∙ outs-Free h.0.0 h.0.1)) h.2
plain_to b body x u (inr (inr (inr (inr (inr h))))) = subst (λ y. grammar.kind_at true b body y u)
    (sym (ap out-StmtKind h.1 ∙ outs-Exit)) (h.2.0, h.2.1, h.2.2, h.2.3, (h.0, h.2.4.0, h.2.4.1))
