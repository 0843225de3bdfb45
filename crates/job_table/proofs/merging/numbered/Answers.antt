use Rattle.job_table.proofs.Numbering.{numbered_begin, numbered_more}
use Rattle.job_table.proofs.merging.numbered.Goals as goal

pub loop-place-init : goal.loop-place-init
loop-place-init c = numbered_begin c.args.places.now c.args.lines.now c.new-list.result c.new-list.ensures

pub loop-place-preserved : goal.loop-place-preserved
loop-place-preserved c =
    numbered_more c.args.places.now c.args.lines.now c.loop-place.list c.push.new.self c.loop-place.place
    c.index-lines-place.result c.renumbered.result c.loop-place-test.true c.index-lines-place.is
    c.loop-place.invariant c.renumbered.ensures c.in_ok-push.ensures
