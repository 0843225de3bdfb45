use Rattle.std.proofs.Common.{◌≡◌, length}
use Rattle.plex_print.specs.PrintedExpressions.{or_text}
use Rattle.plex_print.specs.Writing.{each_of}
use Rattle.plex_print.proofs.condition.or_list.Given as goal

abbrev pub invariant-conjs : goal.invariant-conjs
invariant-conjs l = each_of (or_text l.room) l.rest l.text ≡ each_of (or_text l.room) l.list l.fn.text

abbrev pub decreases-conjs : goal.decreases-conjs
decreases-conjs l = length l.rest
