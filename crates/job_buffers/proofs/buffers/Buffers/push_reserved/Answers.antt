use Rattle.std.proofs.Common.{◌<◌, ap, rules, ◌∙◌}
use Rattle.job_types.specs.Waiting.{joins}
use Rattle.job_buffers.specs.Room.{Buffered, room_at}
use Rattle.job_buffers.proofs.Sound.{sound_joined, waiting_joined}
use Rattle.job_buffers.proofs.buffers.Buffers.push_reserved.Goals as goal

pub invariant_of-self : goal.invariant_of-self
invariant_of-self c =
    let some : 0 < room_at c.args.job.level c.self.inside.queues.room = search rules in
    rw (c.join-stay.ensures.stays, c.push_reserved.ensures.lists, c.push_reserved.ensures.room, c.join-stay.ensures.number)
    (sound_joined _ _ _ _ _ _ _ c.args.job c.self.invariant some c.join-stay.ensures.room)

pub returns-clause-waiting : goal.returns-clause-waiting
returns-clause-waiting c =
    rw (c.join-stay.ensures.stays, c.push_reserved.ensures.lists, c.join-stay.ensures.number)
    (waiting_joined c.args.job.level _ _ c.args.job _ c.self.invariant.fit)
    ∙ ap (λ (v : Buffered). joins c.args.job v.waiting) c.self.view_is
