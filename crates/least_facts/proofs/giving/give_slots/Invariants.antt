use Rattle.std.proofs.Common.{take}
use Rattle.fact_flows.specs.Slots.{row_slots}
use Rattle.least_facts.specs.Giving.{FillsSlots}
use Rattle.least_facts.proofs.giving.give_slots.Given as goal

abbrev pub invariant-loop-i : goal.invariant-loop-i
invariant-loop-i l = FillsSlots l.setting.exchange.now l.setting.entry l.from l.how l.to (take l.i (row_slots l.row)) l.fn.rows l.grown l.rows
