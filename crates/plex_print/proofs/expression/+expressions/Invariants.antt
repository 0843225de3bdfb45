use Rattle.std.proofs.Common.{◌≡◌, ◌+◌, ◌*◌, length}
use Rattle.plex_print.specs.PrintedExpressions.{added_text, multiplied_text}
use Rattle.plex_print.specs.Writing.{each_of}
use Rattle.plex_print.proofs.expression.+expressions.Given as goal

abbrev pub decreases-expr : goal.decreases-expr
decreases-expr l = 9 * l.room + 7

abbrev pub decreases-added_list : goal.decreases-added_list
decreases-added_list l = 9 * l.room + 6

abbrev pub decreases-added : goal.decreases-added
decreases-added l = 9 * l.room + 5

abbrev pub decreases-term : goal.decreases-term
decreases-term l = 9 * l.room + 4

abbrev pub decreases-multiplied_list : goal.decreases-multiplied_list
decreases-multiplied_list l = 9 * l.room + 3

abbrev pub decreases-multiplied : goal.decreases-multiplied
decreases-multiplied l = 9 * l.room + 2

abbrev pub decreases-factor : goal.decreases-factor
decreases-factor l = 9 * l.room + 1

abbrev pub decreases-inside : goal.decreases-inside
decreases-inside l = 9 * l.room

abbrev pub invariant-added_list-terms : goal.invariant-added_list-terms
invariant-added_list-terms l = each_of (added_text l.room) l.rest l.text ≡ each_of (added_text l.room) l.list l.fn.text

abbrev pub decreases-added_list-terms : goal.decreases-added_list-terms
decreases-added_list-terms l = length l.rest

abbrev pub invariant-multiplied_list-factors : goal.invariant-multiplied_list-factors
invariant-multiplied_list-factors l = each_of (multiplied_text l.room) l.rest l.text ≡ each_of (multiplied_text l.room) l.list l.fn.text

abbrev pub decreases-multiplied_list-factors : goal.decreases-multiplied_list-factors
decreases-multiplied_list-factors l = length l.rest
