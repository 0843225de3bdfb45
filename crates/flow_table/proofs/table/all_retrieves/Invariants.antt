use Rattle.flow_table.specs.PointLists.{retrieved_by}
use Rattle.flow_table.proofs.Pointing.{ListsGo}
use Rattle.flow_table.proofs.table.all_retrieves.Given as goal

abbrev pub invariant-loop-at : goal.invariant-loop-at
invariant-loop-at l = ListsGo retrieved_by l.count l.places l.at-index l.retrieves.items
