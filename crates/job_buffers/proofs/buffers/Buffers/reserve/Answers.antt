use Rattle.std.proofs.Common.{◌+◌, ◌-◌, ◌<◌, ◌≤◌, ◌^◌, arith}
use Rattle.std.proofs.lemmas.Grind.{common_steps}
use Rattle.std.specs.HashMap.{spare}
use Rattle.job_buffers.specs.Room.{room_at, rooms}
use Rattle.job_buffers.proofs.Sound.{sound_made, sound_roomy}
use Rattle.job_buffers.proofs.buffers.Buffers.reserve.Goals as goal

-- memory was refused for the stays
pub invariant_of-self : goal.invariant_of-self
invariant_of-self c =
    let placing = c.self.invariant.placing in
    let kept = c.reserve.ensures.no_less in
    let places : rooms c.self.inside.queues.room ≤ spare c.reserve.new.self.table = omega arith in
    rw c.reserve.ensures.stays (sound_roomy _ _ _ _ _ _ _ _ c.self.invariant places c.self.invariant.numbered)

-- it was given
pub invariant_of-self-2 : goal.invariant_of-self-2
invariant_of-self-2 c =
    let room_is = c.room_at-room.ensures in
    let rooms_are = c.rooms-rooms.ensures in
    let place : rooms c.self.inside.queues.room + (c.args.more - room_at c.args.level c.self.inside.queues.room) ≤ spare c.reserve.new.self.table =
    grind (arith, common_steps) in
    let number : c.self.inside.pushed + (rooms c.self.inside.queues.room + (c.args.more - room_at c.args.level c.self.inside.queues.room)) < 2 ^ 64 =
    grind (arith, common_steps) in
    rw (c.reserve.ensures.stays, c.make_room.ensures.lists)
    (sound_made c.make_room.result c.args.level c.args.more _ _ _ _ _ _ c.self.inside.queues.room _ c.self.invariant
    c.make_room.ensures.room c.reserve.ensures.no_less place number)
