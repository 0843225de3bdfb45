use Rattle.std.proofs.Common.{◌≡◌, length}
use Rattle.plex_print.specs.Printed.{field_text}
use Rattle.plex_print.specs.Writing.{each_of}
use Rattle.plex_print.proofs.declaration.fields.Given as goal

abbrev pub invariant-fields : goal.invariant-fields
invariant-fields l = each_of field_text l.rest l.text ≡ each_of field_text l.list l.fn.text

abbrev pub decreases-fields : goal.decreases-fields
decreases-fields l = length l.rest
