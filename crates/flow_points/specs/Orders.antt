-- The order in which facts are listed: by entry, point, slot and value.
use Rattle.std.specs.declared.cmp.Ordering.{Ordering}
use Rattle.flow_points.specs.declared.fact.Fact.{Fact}
use Rattle.flow_points.specs.contracts.fact.FactOrd.TheImpl as facts

abbrev pub fact_order : Fact → Fact → Ordering
fact_order = facts.ghosts.cmp
