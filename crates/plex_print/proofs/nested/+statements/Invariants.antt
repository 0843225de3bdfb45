use Rattle.std.proofs.Common.{◌≡◌, ◌+◌, ◌*◌, length}
use Rattle.plex_print.specs.Printed.{body_text, stmt_text, when_text}
use Rattle.plex_print.specs.Writing.{each_of}
use Rattle.plex_print.proofs.nested.+statements.Given as goal

abbrev pub decreases-body : goal.decreases-body
decreases-body l = 11 * l.deep + 0

abbrev pub decreases-some_else : goal.decreases-some_else
decreases-some_else l = 11 * l.deep + 1

abbrev pub decreases-if_then : goal.decreases-if_then
decreases-if_then l = 11 * l.deep + 2

abbrev pub decreases-when : goal.decreases-when
decreases-when l = 11 * l.deep + 3

abbrev pub decreases-whens : goal.decreases-whens
decreases-whens l = 11 * l.deep + 4

abbrev pub decreases-case : goal.decreases-case
decreases-case l = 11 * l.deep + 5

abbrev pub decreases-on : goal.decreases-on
decreases-on l = 11 * l.deep + 6

abbrev pub decreases-kind : goal.decreases-kind
decreases-kind l = 11 * l.deep + 7

abbrev pub decreases-stmt : goal.decreases-stmt
decreases-stmt l = 11 * l.deep + 8

abbrev pub decreases-stmts : goal.decreases-stmts
decreases-stmts l = 11 * l.deep + 9

abbrev pub invariant-stmts-stmts : goal.invariant-stmts-stmts
invariant-stmts-stmts l = each_of (stmt_text l.room l.deep) l.rest l.text ≡ each_of (stmt_text l.room l.deep) l.list l.fn.text

abbrev pub decreases-stmts-stmts : goal.decreases-stmts-stmts
decreases-stmts-stmts l = length l.rest

abbrev pub invariant-whens-whens : goal.invariant-whens-whens
invariant-whens-whens l = each_of (when_text (body_text l.room l.deep)) l.rest l.text ≡ each_of (when_text (body_text l.room l.deep)) l.list l.fn.text

abbrev pub decreases-whens-whens : goal.decreases-whens-whens
decreases-whens-whens l = length l.rest
