-- Facts that are equal by their equality, or by their order, are the same.
use Rattle.std.proofs.Common.{◌≡◌, true, rules}
use Rattle.std.specs.declared.cmp.Ordering.TheVariants.{Equal}
use Rattle.flow_points.specs.declared.fact.Fact.{Fact}
use Rattle.flow_points.specs.contracts.fact.FactPartialEq.TheImpl as equal
use Rattle.flow_points.specs.contracts.fact.FactOrd.TheImpl.Laws as order_laws
use Rattle.flow_points.specs.Orders.{fact_order}

pub same_fact : (f g : Fact) → equal.ghosts.eq f g ≡ true → f ≡ g
same_fact f g is = search (rules, is)

pub order_same : (f g : Fact) → fact_order f g ≡ Equal → f ≡ g
order_same f g tied = same_fact f g (search (rules, order_laws.matches_eq-law, tied))
