use Rattle.std.proofs.Common.{◌≡◌, ◌+◌, ◌*◌, length}
use Rattle.plex_lexer.specs.Cursors.{ahead}
use Rattle.token_grammar.specs.Reading.{with_front, many}
use Rattle.plex_expr_parser.specs.Readers.{ADD, added_by, MULTIPLY, multiplied_by, factor_read}
use Rattle.plex_expr_parser.specs.Readers.{term_read}
use Rattle.plex_expr_parser.proofs.expression.+reading.Given as goal

abbrev pub decreases-bracket : goal.decreases-bracket
decreases-bracket l = 11 * l.room + 10

abbrev pub decreases-expr : goal.decreases-expr
decreases-expr l = 11 * l.room + 9

abbrev pub decreases-added_list : goal.decreases-added_list
decreases-added_list l = 11 * l.room + 8

abbrev pub decreases-added : goal.decreases-added
decreases-added l = 11 * l.room + 7

abbrev pub decreases-term_after : goal.decreases-term_after
decreases-term_after l = 11 * l.room + 6

abbrev pub decreases-term : goal.decreases-term
decreases-term l = 11 * l.room + 5

abbrev pub decreases-multiplied_list : goal.decreases-multiplied_list
decreases-multiplied_list l = 11 * l.room + 4

abbrev pub decreases-multiplied : goal.decreases-multiplied
decreases-multiplied l = 11 * l.room + 3

abbrev pub decreases-factor_after : goal.decreases-factor_after
decreases-factor_after l = 11 * l.room + 2

abbrev pub decreases-factor : goal.decreases-factor
decreases-factor l = 11 * l.room + 1

abbrev pub decreases-factor_kind : goal.decreases-factor_kind
decreases-factor_kind l = 11 * l.room

abbrev pub invariant-added_list-terms : goal.invariant-added_list-terms
invariant-added_list-terms l = with_front l.list (many ADD (added_by (term_read l.room)) (ahead l.left))
    ≡ many ADD (added_by (term_read l.room)) (ahead l.tokens)

abbrev pub decreases-added_list-terms : goal.decreases-added_list-terms
decreases-added_list-terms l = length (ahead l.left)

abbrev pub invariant-multiplied_list-factors : goal.invariant-multiplied_list-factors
invariant-multiplied_list-factors l = with_front l.list
    (many MULTIPLY (multiplied_by (factor_read l.room)) (ahead l.left))
    ≡ many MULTIPLY (multiplied_by (factor_read l.room)) (ahead l.tokens)

abbrev pub decreases-multiplied_list-factors : goal.decreases-multiplied_list-factors
decreases-multiplied_list-factors l = length (ahead l.left)
