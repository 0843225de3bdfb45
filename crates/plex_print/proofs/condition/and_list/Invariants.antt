use Rattle.std.proofs.Common.{◌≡◌, length}
use Rattle.plex_print.specs.PrintedExpressions.{and_text}
use Rattle.plex_print.specs.Writing.{each_of}
use Rattle.plex_print.proofs.condition.and_list.Given as goal

abbrev pub invariant-relations : goal.invariant-relations
invariant-relations l = each_of (and_text l.room) l.rest l.text ≡ each_of (and_text l.room) l.list l.fn.text

abbrev pub decreases-relations : goal.decreases-relations
decreases-relations l = length l.rest
