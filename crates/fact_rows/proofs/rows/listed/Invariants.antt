use Rattle.std.proofs.Common.{◌≡◌, ◌++◌, drop}
use Rattle.fact_rows.specs.Touched.{facts_of, keys_of}
use Rattle.fact_rows.proofs.rows.listed.Given as goal

abbrev pub invariant-loop-point : goal.invariant-loop-point
invariant-loop-point l = l.facts.items ++ facts_of l.entry l.grid (keys_of l.grid.slots (drop l.point-index l.points))
    ≡ facts_of l.entry l.grid (keys_of l.grid.slots l.points)
