use Rattle.std.proofs.Common.{◌≤◌, arith}
use Rattle.std.specs.HashMap.{spare}
use Rattle.job_buffers.specs.Room.{rooms}
use Rattle.job_buffers.proofs.Sound.{sound_empty}
use Rattle.job_buffers.proofs.buffers.Buffers.remove_all.Goals as goal

pub invariant_of-self : goal.invariant_of-self
invariant_of-self c =
    let placing = c.self.invariant.placing in
    let kept = c.clear-2.ensures.room in
    let places : rooms c.self.inside.queues.room ≤ spare c.clear-2.new.self.table = omega arith in
    rw (c.clear-2.ensures.stays, c.clear.ensures.lists, c.clear.ensures.room) (sound_empty _ _ _ places c.self.invariant.numbered)
