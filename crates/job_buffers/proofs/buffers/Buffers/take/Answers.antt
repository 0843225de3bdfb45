use Rattle.std.proofs.Common.{◌≡◌, Some, ap, sym, ◌∙◌}
use Rattle.job_types.specs.Waiting.{after_pick}
use Rattle.job_buffers.specs.Room.{Buffered}
use Rattle.job_buffers.specs.Standing.{first_placed}
use Rattle.job_buffers.proofs.Sound.{sound_taken, waiting_taken}
use Rattle.job_buffers.proofs.buffers.Buffers.take.Goals as goal

pub invariant_of-self-2 : goal.invariant_of-self-2
invariant_of-self-2 c =
    let is : first_placed c.self.inside.queues.lists ≡ Some c.in-Some.placed = sym c.in-Some.ensures.placed in
    let tidied = rw (c.leave.ensures.stays, c.take_front.ensures.lists) at c.tidy.ensures.tidied in
    rw (c.leave.ensures.stays, c.tidy.ensures.room, c.take_front.ensures.room)
    (sound_taken _ _ _ _ _ _ _ _ c.in-Some.placed c.self.invariant is c.leave.ensures.room tidied)

pub returns-clause-left : goal.returns-clause-left
returns-clause-left c =
    let is : first_placed c.self.inside.queues.lists ≡ Some c.in-Some.placed = sym c.in-Some.ensures.placed in
    let tidied = rw (c.leave.ensures.stays, c.take_front.ensures.lists) at c.tidy.ensures.tidied in
    rw c.leave.ensures.stays (waiting_taken _ _ _ _ _ _ _ c.in-Some.placed c.self.invariant is tidied)
    ∙ ap (λ (v : Buffered). after_pick v.waiting) c.self.view_is
