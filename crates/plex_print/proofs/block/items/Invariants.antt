use Rattle.std.proofs.Common.{◌≡◌, length}
use Rattle.plex_print.specs.Printed.{item_text}
use Rattle.plex_print.specs.Writing.{each_of}
use Rattle.plex_print.proofs.block.items.Given as goal

abbrev pub invariant-items : goal.invariant-items
invariant-items l = each_of (item_text l.room l.deep) l.rest l.text ≡ each_of (item_text l.room l.deep) l.list l.fn.text

abbrev pub decreases-items : goal.decreases-items
decreases-items l = length l.rest
