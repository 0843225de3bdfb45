use Rattle.std.proofs.Common.{Contains}
use Rattle.fact_flows.proofs.Gathering.{Gathers}
use Rattle.certificate_faults.specs.Returned.{handed}
use Rattle.certificate_faults.proofs.returned.push_slots.Given as goal

abbrev pub invariant-loop-slot : goal.invariant-loop-slot
invariant-loop-slot l = Gathers (handed (Contains l.joined) l.entry l.answer l.point) l.slots l.fn.given l.slot-index l.given
