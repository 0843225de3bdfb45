use Rattle.std.proofs.Common.{◌≡◌, sym, ◌∙◌, ap, subst, Err, length}
use Rattle.plex_lexer.specs.Cursors.{ahead}
use Rattle.token_grammar.specs.Reading.{many, with_front}
use Rattle.plex_parser.specs.Statements.{STMT, stmt_read}
use Rattle.plex_parser.proofs.Loops.{held_if, held_halts, held_nests, tail_goes, tail_halts}
use Rattle.plex_parser.proofs.Loops.{tail_does, stmt_on}
use Rattle.plex_parser.proofs.nested.+statements.Goals as goal

pub held-returns-then-starts : goal.held-returns-then-starts
held-returns-then-starts t c = rw (held_if c.args.room c.args.deep (ahead c.args.tokens) (sym c.starts.ensures ∙ c.if-starts.true)) c.if_of.ensures

pub held-returns-then-deep-eq0 : goal.held-returns-then-deep-eq0
held-returns-then-deep-eq0 t c =
    held_halts c.args.room c.args.deep (ahead c.args.tokens) (sym c.starts.ensures ∙ c.if-starts.false)
    c.if-deep-eq0.true ∙ ap (λ d. Err (record { left = length (ahead c.args.tokens); deep = d }))
    (sym c.starts_in.ensures) ∙ ap (λ n. Err (record { left = n; deep = c.starts_in.result })) (sym c.len.ensures)

pub held-returns : goal.held-returns
held-returns t c = rw (held_nests c.args.room c.args.deep (ahead c.args.tokens) (sym c.starts.ensures ∙ c.if-starts.false) c.if-deep-eq0.false) c.nest.ensures

pub if_tail-returns-then-starts : goal.if_tail-returns-then-starts
if_tail-returns-then-starts t c = rw (tail_goes c.args.cond c.args.room c.args.deep (ahead c.args.tokens)
    (sym c.starts.ensures ∙ c.if-starts.true)) c.if_goto.ensures

pub if_tail-returns-then-deep-eq0 : goal.if_tail-returns-then-deep-eq0
if_tail-returns-then-deep-eq0 t c =
    tail_halts c.args.cond c.args.room c.args.deep (ahead c.args.tokens) (sym c.starts.ensures ∙ c.if-starts.false)
    c.if-deep-eq0.true ∙ ap (λ d. Err (record { left = length (ahead c.args.tokens); deep = d }))
    (sym c.starts-then-deep-eq0.ensures) ∙ ap (λ n. Err (record { left = n; deep = c.starts-then-deep-eq0.result }))
    (sym c.len.ensures)

pub if_tail-returns : goal.if_tail-returns
if_tail-returns t c = rw (tail_does c.args.cond c.args.room c.args.deep (ahead c.args.tokens)
    (sym c.starts.ensures ∙ c.if-starts.false) c.if-deep-eq0.false) c.then_of.ensures

pub stmts-stmts-preserved : goal.stmts-stmts-preserved
stmts-stmts-preserved t c =
    let all = many STMT (stmt_read c.args.room c.args.deep) (ahead c.args.tokens) in
    subst (λ y. with_front y (many STMT (stmt_read c.args.room c.args.deep) (ahead c.in_ok-stmt.after)) ≡ all) (sym c.in_default.ensures)
    (stmt_on c.args.room c.args.deep c.stmts.list c.in_ok-stmt.stmt (ahead c.stmts.left) (ahead c.in_ok-stmt.after) all
    (sym c.starts_stmt.ensures ∙ c.stmts-test.true) c.in_ok-stmt.ensures c.stmts.invariant)
