use Rattle.std.proofs.Common.{◌≡◌, ◌++◌}
use Rattle.fact_rows.specs.Touched.{facts_at}
use Rattle.fact_rows.proofs.Numbering.{below}
use Rattle.fact_rows.proofs.point_facts.push_words.Given as goal

abbrev pub invariant-loop-place : goal.invariant-loop-place
invariant-loop-place l = l.facts.items ≡ l.initial.facts.items ++ facts_at l.entry l.key (below l.words l.place)
