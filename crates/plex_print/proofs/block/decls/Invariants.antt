use Rattle.std.proofs.Common.{◌≡◌, length}
use Rattle.plex_print.specs.Printed.{decl_text}
use Rattle.plex_print.specs.Writing.{each_of}
use Rattle.plex_print.proofs.block.decls.Given as goal

abbrev pub invariant-decls : goal.invariant-decls
invariant-decls l = each_of decl_text l.rest l.text ≡ each_of decl_text l.list l.fn.text

abbrev pub decreases-decls : goal.decreases-decls
decreases-decls l = length l.rest
