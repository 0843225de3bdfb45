use Rattle.text_events.specs.Walk.{expr_walk}
use Rattle.text_events.proofs.Steps.{Walks}
use Rattle.text_walk.proofs.expressions.walk_exprs.Given as goal

abbrev pub invariant-loop-e : goal.invariant-loop-e
invariant-loop-e l = Walks expr_walk l.values l.e-index l.owner l.out l.fn.out
