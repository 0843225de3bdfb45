use Rattle.text_events.specs.Walk.{name_walk}
use Rattle.text_events.proofs.Steps.{Turns}
use Rattle.text_walk.proofs.statements.walk_list_of_names.Given as goal

abbrev pub invariant-loop-n : goal.invariant-loop-n
invariant-loop-n l = Turns name_walk l.names l.n-index l.out l.fn.out
