use Rattle.std.proofs.Common.{◌≡◌, length}
use Rattle.plex_print.specs.Printed.{comma_name_text}
use Rattle.plex_print.specs.Writing.{each_of}
use Rattle.plex_print.proofs.lists.name_list.Given as goal

abbrev pub invariant-names : goal.invariant-names
invariant-names l = each_of comma_name_text l.rest l.text ≡ each_of comma_name_text l.list l.fn.text

abbrev pub decreases-names : goal.decreases-names
decreases-names l = length l.rest
