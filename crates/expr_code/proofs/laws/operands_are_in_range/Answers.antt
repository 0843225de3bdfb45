use Rattle.expr_code.proofs.Operands.{expr_ops_fit, cond_ops_fit}
use Rattle.expr_code.proofs.laws.operands_are_in_range.Goals as goal

pub returns-clause-expr : goal.returns-clause-expr
returns-clause-expr c = λ scope site e r is_site fits room. expr_ops_fit scope site is_site e r fits room

pub returns-clause-cond : goal.returns-clause-cond
returns-clause-cond c = λ scope site cond is_site fits. cond_ops_fit scope site is_site cond fits
