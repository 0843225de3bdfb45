use Rattle.std.proofs.Common.{take}
use Rattle.least_facts.specs.Giving.{Gives, OfValues}
use Rattle.least_facts.proofs.giving.give_values.Given as goal

abbrev pub invariant-loop-value : goal.invariant-loop-value
invariant-loop-value l = Gives l.fn.rows (OfValues l.entry l.to l.slot (take l.value-index l.values)) l.grown l.rows
