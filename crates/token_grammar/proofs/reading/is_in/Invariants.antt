use Rattle.std.proofs.Common.{◌≡◌, length}
use Rattle.token_grammar.specs.Language.{mem}
use Rattle.token_grammar.proofs.reading.is_in.Given as goal

abbrev pub invariant-wants : goal.invariant-wants
invariant-wants l = mem l.class l.rest ≡ mem l.class l.wants

abbrev pub decreases-wants : goal.decreases-wants
decreases-wants l = length l.rest
