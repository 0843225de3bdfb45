use Rattle.std.proofs.Common.{arith}
use Rattle.job_buffers.proofs.Sound.{sound_empty}
use Rattle.job_buffers.proofs.buffers.Buffers.new.Goals as goal

pub invariant_of-result : goal.invariant_of-result
invariant_of-result c =
    let none = c.new.ensures.room in
    rw (c.new-2.ensures, c.new.ensures.lists) (sound_empty _ 0 _ (omega arith) (omega arith))
