use Rattle.std.proofs.Common.{◌≡◌, ◌++◌}
use Rattle.fact_rows.specs.Touched.{facts_of, numbered_keys}
use Rattle.fact_rows.proofs.point_facts.push_numbered.Given as goal

abbrev pub invariant-loop-number : goal.invariant-loop-number
invariant-loop-number l = l.facts.items ≡ l.initial.facts.items ++ facts_of l.entry l.grid (numbered_keys l.point l.numbered l.number)
