use Rattle.std.proofs.Common.{drop}
use Rattle.expr_code.proofs.CondSteps.{RelationsLeft}
use Rattle.expr_code.proofs.cond.push_relations.Given as goal

abbrev pub invariant-loop-relation : goal.invariant-loop-relation
invariant-loop-relation l = RelationsLeft l.layout l.block l.fn.ops l.ops (drop l.relation-index l.rest) l.relations
