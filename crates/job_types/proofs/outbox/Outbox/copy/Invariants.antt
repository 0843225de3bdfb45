use Rattle.std.proofs.Common.{◌≡◌, take}
use Rattle.job_types.proofs.outbox.Outbox.copy.Given as goal

abbrev pub invariant-loop-sent : goal.invariant-loop-sent
invariant-loop-sent l = l.made ≡ take l.sent-index l.sent-items
