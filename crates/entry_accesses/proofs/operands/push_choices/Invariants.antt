use Rattle.entry_accesses.specs.Operands.{relation_names}
use Rattle.entry_accesses.proofs.Naming.{NamesGo}
use Rattle.entry_accesses.proofs.operands.push_choices.Given as goal

abbrev pub invariant-loop-relations : goal.invariant-loop-relations
invariant-loop-relations l = NamesGo relation_names l.any l.relations-index l.fn.names l.names
