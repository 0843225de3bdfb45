use Rattle.std.proofs.Common.{◌≡◌, length}
use Rattle.plex_print.specs.Printed.{signal_text}
use Rattle.plex_print.specs.Writing.{each_of}
use Rattle.plex_print.proofs.printer.signals.Given as goal

abbrev pub invariant-signals : goal.invariant-signals
invariant-signals l = each_of signal_text l.rest l.text ≡ each_of signal_text l.list l.fn.text

abbrev pub decreases-signals : goal.decreases-signals
decreases-signals l = length l.rest
