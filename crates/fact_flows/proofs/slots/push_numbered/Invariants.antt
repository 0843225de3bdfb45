use Rattle.std.proofs.Common.{◌≡◌, ◌++◌, map}
use Rattle.std.specs.List.{range_with_len}
use Rattle.fact_flows.specs.Slots.{numbered_slot}
use Rattle.fact_flows.proofs.slots.push_numbered.Given as goal

abbrev pub invariant-loop-number : goal.invariant-loop-number
invariant-loop-number l = l.slots ≡ l.fn.slots ++ map (numbered_slot l.numbered) (range_with_len 0 l.number)
