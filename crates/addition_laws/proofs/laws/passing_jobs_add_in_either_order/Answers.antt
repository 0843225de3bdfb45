use Rattle.std.proofs.Common.{Contains}
use Rattle.addition_laws.proofs.Passing.{passing_order, pass_so}
use Rattle.addition_laws.proofs.laws.passing_jobs_add_in_either_order.Goals as goal

pub returns-clause-orders : goal.returns-clause-orders
returns-clause-orders c = λ x facts s first later a b closed h. passing_order x facts s first later a b h closed

pub returns-clause-passes : goal.returns-clause-passes
returns-clause-passes c = λ x facts first later a b passes. pass_so x (Contains facts) first later a b passes
