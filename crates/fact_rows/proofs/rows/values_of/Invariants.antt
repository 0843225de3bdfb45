use Rattle.std.proofs.Common.{◌≡◌, map, take}
use Rattle.flow_points.specs.declared.fact.Fact.{Fact}
use Rattle.fact_rows.proofs.rows.values_of.Given as goal

abbrev pub invariant-loop-fact : goal.invariant-loop-fact
invariant-loop-fact l = l.values ≡ map (λ (f : Fact). f.value) (take l.fact-index l.facts)
