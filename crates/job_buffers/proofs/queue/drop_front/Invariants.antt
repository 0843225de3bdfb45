use Rattle.std.proofs.Common.{◌≡◌, drop}
use Rattle.job_buffers.proofs.queue.drop_front.Given as goal

-- as many are gone as turns were made
abbrev pub invariant-loop-turn : goal.invariant-loop-turn
invariant-loop-turn l = (l.placed.items ≡ drop l._turn l.fn.placed.items) × (l.placed.cap ≡ l.fn.placed.cap)
