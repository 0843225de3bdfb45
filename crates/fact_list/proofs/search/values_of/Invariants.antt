use Rattle.std.proofs.Common.{◌≡◌, map, take}
use Rattle.fact_list.specs.Spans.{value_of}
use Rattle.fact_list.proofs.search.values_of.Given as goal

abbrev pub invariant-loop-fact : goal.invariant-loop-fact
invariant-loop-fact l = l.values ≡ map value_of (take l.fact-index l.facts)
