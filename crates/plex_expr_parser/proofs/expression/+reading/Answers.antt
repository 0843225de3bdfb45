use Rattle.std.proofs.Common.{sym, ◌∙◌, ap, Err, length}
use Rattle.plex_lexer.specs.Cursors.{ahead}
use Rattle.plex_expr_parser.proofs.Loops.{factor_plain, factor_halts, factor_opens}
use Rattle.plex_expr_parser.proofs.expression.+reading.Goals as goal

pub factor_kind-returns-then-starts_in : goal.factor_kind-returns-then-starts_in
factor_kind-returns-then-starts_in t c = rw (factor_plain c.args.room (ahead c.args.tokens) (sym c.starts_in.ensures ∙ c.if-starts_in.true)) c.plain.ensures

pub factor_kind-returns-then-room-eq0 : goal.factor_kind-returns-then-room-eq0
factor_kind-returns-then-room-eq0 t c =
    factor_halts c.args.room (ahead c.args.tokens) (sym c.starts_in.ensures ∙ c.if-starts_in.false) c.if-room-eq0.true
    ∙ ap (λ d. Err (record { left = length (ahead c.args.tokens); deep = d })) (sym c.starts.ensures)
    ∙ ap (λ n. Err (record { left = n; deep = c.starts.result })) (sym c.len.ensures)

pub factor_kind-returns : goal.factor_kind-returns
factor_kind-returns t c = rw (factor_opens c.args.room (ahead c.args.tokens)
    (sym c.starts_in.ensures ∙ c.if-starts_in.false) c.if-room-eq0.false) c.bracket.ensures
