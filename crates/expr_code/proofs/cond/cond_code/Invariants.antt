use Rattle.std.proofs.Common.{drop}
use Rattle.expr_code.proofs.CondSteps.{ListsLeft}
use Rattle.expr_code.proofs.cond.cond_code.Given as goal

abbrev pub invariant-loop-relations : goal.invariant-loop-relations
invariant-loop-relations l = ListsLeft l.layout l.block l.fn.ops l.ops (drop l.relations-index l.rest) l.cond
