use Rattle.expr_code.proofs.ExprRuns.{expr_runs}
use Rattle.expr_code.proofs.CondRuns.{cond_runs}
use Rattle.expr_code.proofs.laws.code_computes_its_value.Goals as goal

pub returns-clause-expr : goal.returns-clause-expr
returns-clause-expr c = expr_runs

pub returns-clause-cond : goal.returns-clause-cond
returns-clause-cond c = cond_runs
