use Rattle.std.proofs.Common.{◌≡◌, take}
use Rattle.signal_trace.proofs.tracer.sends_of.Given as goal

abbrev pub invariant-loop-sent : goal.invariant-loop-sent
invariant-loop-sent l = l.sends ≡ take l.sent-index l.sent-items
