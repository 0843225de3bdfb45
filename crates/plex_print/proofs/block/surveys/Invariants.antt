use Rattle.std.proofs.Common.{◌≡◌, length}
use Rattle.plex_print.specs.Printed.{survey_text}
use Rattle.plex_print.specs.Writing.{each_of}
use Rattle.plex_print.proofs.block.surveys.Given as goal

abbrev pub invariant-surveys : goal.invariant-surveys
invariant-surveys l = each_of survey_text l.rest l.text ≡ each_of survey_text l.list l.fn.text

abbrev pub decreases-surveys : goal.decreases-surveys
decreases-surveys l = length l.rest
