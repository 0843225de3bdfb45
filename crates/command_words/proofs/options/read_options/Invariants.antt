use Rattle.std.proofs.Common.{◌≡◌, length}
use Rattle.command_words.specs.Bounded.{IsTold}
use Rattle.command_words.specs.Words.{nothing_told, options_of}
use Rattle.command_words.proofs.options.read_options.Given as goal

abbrev pub invariant-loop-name : goal.invariant-loop-name
invariant-loop-name l = (options_of l.command l.told l.rest ≡ options_of l.command nothing_told l.options) × IsTold l.told

abbrev pub decreases-loop-name : goal.decreases-loop-name
decreases-loop-name l = length l.rest
