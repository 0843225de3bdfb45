use Rattle.front_end.proofs.CollectedSteps.{Collecting}
use Rattle.front_end.proofs.collected.collect.Given as goal

abbrev pub invariant-loop-number : goal.invariant-loop-number
invariant-loop-number l = Collecting l.signals l.blocks l.number l.entries l.points l.cells
