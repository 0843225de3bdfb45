use Rattle.std.proofs.Common.{◌≡◌, length}
use Rattle.plex_print.specs.Printed.{comma_expr_text}
use Rattle.plex_print.specs.Writing.{each_of}
use Rattle.plex_print.proofs.lists.expr_list.Given as goal

abbrev pub invariant-exprs : goal.invariant-exprs
invariant-exprs l = each_of (comma_expr_text l.room) l.rest l.text ≡ each_of (comma_expr_text l.room) l.list l.fn.text

abbrev pub decreases-exprs : goal.decreases-exprs
decreases-exprs l = length l.rest
