use Rattle.std.proofs.Common.{◌≡◌, length}
use Rattle.plex_print.specs.Printed.{block_text}
use Rattle.plex_print.specs.Writing.{each_of}
use Rattle.plex_print.proofs.printer.blocks.Given as goal

abbrev pub invariant-rest : goal.invariant-rest
invariant-rest l = each_of (block_text l.room l.deep) l.rest l.text ≡ each_of (block_text l.room l.deep) l.list l.fn.text

abbrev pub decreases-rest : goal.decreases-rest
decreases-rest l = length l.rest
