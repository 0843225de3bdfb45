use Rattle.text_events.specs.Walk.{conj_walk}
use Rattle.text_events.proofs.Steps.{Walks}
use Rattle.text_walk.proofs.expressions.walk_conjs.Given as goal

abbrev pub invariant-loop-j : goal.invariant-loop-j
invariant-loop-j l = Walks conj_walk l.rest l.j-index l.owner l.out l.fn.out
