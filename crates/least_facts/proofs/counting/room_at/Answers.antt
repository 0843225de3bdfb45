use Rattle.least_facts.proofs.Telling.{room_begin, room_end, room_more}
use Rattle.least_facts.proofs.counting.room_at.Goals as goal

pub loop-point-init : goal.loop-point-init
loop-point-init c = room_begin c.args.rows.now c.args.points.now

pub returns-then-room-enough : goal.returns-then-room-enough
returns-then-room-enough c = room_end c.args.rows.now c.args.points.now c.loop-point.point-index c.loop-point.room c.loop-point.invariant

pub loop-point-preserved : goal.loop-point-preserved
loop-point-preserved c = room_more c.args.rows.now c.args.points.now c.loop-point.point-index _ c.loop-point.room
    c.with_more-room.result c.list_at.new.list.facts.items c.requires.rising c.loop-point-test.true
    c.in_ok-list_at.ensures c.with_more-room.ensures c.loop-point.invariant

pub returns : goal.returns
returns c = room_end c.args.rows.now c.args.points.now c.loop-point.point-index c.loop-point.room c.loop-point.invariant
