use Rattle.std.proofs.Common.{Contains}
use Rattle.flow_points.specs.Facts.{IsLeast}
use Rattle.addition_laws.proofs.Listing.{same_lists}
use Rattle.addition_laws.proofs.laws.added_lists_are_one.Goals as goal

pub returns-clause-facts : goal.returns-clause-facts
returns-clause-facts c = λ x facts entry d e one other. same_lists x (Contains facts) entry d e one other

pub returns-clause-least : goal.returns-clause-least
returns-clause-least c = λ x entry d e one other. same_lists x (IsLeast x) entry d e one other
