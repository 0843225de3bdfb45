use Rattle.std.proofs.Common.{◌≡◌, ◌++◌}
use Rattle.fact_rows.specs.Numbers.{bits_of}
use Rattle.fact_rows.specs.Touched.{facts_at}
use Rattle.fact_rows.proofs.point_facts.push_bits.Given as goal

abbrev pub invariant-loop-bit : goal.invariant-loop-bit
invariant-loop-bit l = l.facts.items ≡ l.initial.facts.items ++ facts_at l.entry l.key (bits_of l.word l.first l.bit)
