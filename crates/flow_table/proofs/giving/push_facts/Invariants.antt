use Rattle.std.proofs.Common.{◌≡◌, ◌++◌, map, take}
use Rattle.flow_points.specs.Facts.{fact}
use Rattle.flow_table.proofs.giving.push_facts.Given as goal

abbrev pub invariant-loop-value : goal.invariant-loop-value
invariant-loop-value l = l.facts ≡ l.fn.facts ++ map (fact l.entry l.point l.slot) (take l.value-index l.values)
