use Rattle.flow_table.proofs.Reaching.{Goes}
use Rattle.flow_table.proofs.reached.reached_places.Given as goal

abbrev pub invariant-loop-at : goal.invariant-loop-at
invariant-loop-at g l = Goes (g.K.KnownFacts.knows l.known) l.entry l.places l.at-index l.there
