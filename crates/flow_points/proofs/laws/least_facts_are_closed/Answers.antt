use Rattle.std.proofs.Common.{Contains}
use Rattle.flow_points.proofs.Least.{gives_more, least_closed, least_in}
use Rattle.flow_points.proofs.laws.least_facts_are_closed.Goals as goal

pub returns-clause-closed : goal.returns-clause-closed
returns-clause-closed c = λ x. least_closed x

pub returns-clause-least : goal.returns-clause-least
returns-clause-least c = λ x facts f closed is. least_in x (Contains facts) closed f is

pub returns-clause-more : goal.returns-clause-more
returns-clause-more c = λ x facts others f more is. gives_more x (Contains facts) (Contains others) more f is
