use Rattle.flow_table.proofs.Pointing.{ListsGo}
use Rattle.answer_table.specs.Answers.{returned}
use Rattle.answer_table.proofs.answers.returns_of.Given as goal

abbrev pub invariant-loop-at : goal.invariant-loop-at
invariant-loop-at l = ListsGo returned l.count l.places l.at-index l.returns.items
