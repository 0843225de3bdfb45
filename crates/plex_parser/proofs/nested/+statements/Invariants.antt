use Rattle.std.proofs.Common.{◌≡◌, ◌+◌, ◌*◌, length}
use Rattle.plex_lexer.specs.Cursors.{ahead}
use Rattle.token_grammar.specs.Reading.{with_front, many}
use Rattle.plex_ast.specs.Words.{WHEN}
use Rattle.plex_parser.specs.Statements.{STMT, stmt_read, when_by}
use Rattle.plex_parser.proofs.nested.+statements.Given as goal

abbrev pub decreases-nest : goal.decreases-nest
decreases-nest l = 13 * l.deep + 12

abbrev pub decreases-case : goal.decreases-case
decreases-case l = 13 * l.deep + 11

abbrev pub decreases-on : goal.decreases-on
decreases-on l = 13 * l.deep + 11

abbrev pub decreases-then_of : goal.decreases-then_of
decreases-then_of l = 13 * l.deep + 11

abbrev pub decreases-arms : goal.decreases-arms
decreases-arms l = 13 * l.deep + 10

abbrev pub decreases-span : goal.decreases-span
decreases-span l = 13 * l.deep + 10

abbrev pub decreases-branches : goal.decreases-branches
decreases-branches l = 13 * l.deep + 10

abbrev pub decreases-upto : goal.decreases-upto
decreases-upto l = 13 * l.deep + 9

abbrev pub decreases-otherwise : goal.decreases-otherwise
decreases-otherwise l = 13 * l.deep + 9

abbrev pub decreases-whens : goal.decreases-whens
decreases-whens l = 13 * l.deep + 9

abbrev pub decreases-else_to_fi : goal.decreases-else_to_fi
decreases-else_to_fi l = 13 * l.deep + 9

abbrev pub decreases-when : goal.decreases-when
decreases-when l = 13 * l.deep + 8

abbrev pub decreases-else_of : goal.decreases-else_of
decreases-else_of l = 13 * l.deep + 8

abbrev pub decreases-do_until : goal.decreases-do_until
decreases-do_until l = 13 * l.deep + 8

abbrev pub decreases-stmts : goal.decreases-stmts
decreases-stmts l = 13 * l.deep + 7

abbrev pub decreases-stmt : goal.decreases-stmt
decreases-stmt l = 13 * l.deep + 6

abbrev pub decreases-kind : goal.decreases-kind
decreases-kind l = 13 * l.deep + 5

abbrev pub decreases-other : goal.decreases-other
decreases-other l = 13 * l.deep + 4

abbrev pub decreases-held : goal.decreases-held
decreases-held l = 13 * l.deep + 3

abbrev pub decreases-if_of : goal.decreases-if_of
decreases-if_of l = 13 * l.deep + 2

abbrev pub decreases-if_tail : goal.decreases-if_tail
decreases-if_tail l = 13 * l.deep + 1

abbrev pub invariant-stmts-stmts : goal.invariant-stmts-stmts
invariant-stmts-stmts l = with_front l.list (many STMT (stmt_read l.room l.deep) (ahead l.left)) ≡ many STMT (stmt_read l.room l.deep) (ahead l.tokens)

abbrev pub decreases-stmts-stmts : goal.decreases-stmts-stmts
decreases-stmts-stmts l = length (ahead l.left)

abbrev pub invariant-whens-whens : goal.invariant-whens-whens
invariant-whens-whens l =
    with_front l.list (many WHEN (when_by (many STMT (stmt_read l.room l.deep))) (ahead l.left))
    ≡ many WHEN (when_by (many STMT (stmt_read l.room l.deep))) (ahead l.tokens)

abbrev pub decreases-whens-whens : goal.decreases-whens-whens
decreases-whens-whens l = length (ahead l.left)
