use Rattle.std.proofs.Common.{drop}
use Rattle.expr_code.proofs.EmitSteps.{TermsLeft, FactorsLeft}
use Rattle.expr_code.proofs.expr.+code.Given as goal

abbrev pub invariant-expr_code-loop-term : goal.invariant-expr_code-loop-term
invariant-expr_code-loop-term l = TermsLeft l.layout l.block l.first l.fn.ops l.ops (drop l.term-index l.rest) l.e

abbrev pub invariant-push_term-loop-joined : goal.invariant-push_term-loop-joined
invariant-push_term-loop-joined l = FactorsLeft l.layout l.block l.r l.fn.ops l.ops (drop l.joined-index l.rest) l.term
