use Rattle.text_events.specs.Walk.{relation_walk}
use Rattle.text_events.proofs.Steps.{Walks}
use Rattle.text_walk.proofs.expressions.walk_relations.Given as goal

abbrev pub invariant-loop-r : goal.invariant-loop-r
invariant-loop-r l = Walks relation_walk l.rest l.r-index l.owner l.out l.fn.out
