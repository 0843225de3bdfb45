use Rattle.entry_accesses.proofs.Naming.{NamesGo, sides}
use Rattle.entry_accesses.proofs.operands.push_relations.Given as goal

abbrev pub invariant-loop-relation : goal.invariant-loop-relation
invariant-loop-relation l = NamesGo sides l.relations l.relation-index l.fn.names l.names
