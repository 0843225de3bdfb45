use Rattle.conflicts_meaning.specs.Told.{pair_at}
use Rattle.conflicts_text.proofs.Ranges.{range_begin, range_more, range_end}
use Rattle.conflicts_text.proofs.sections.push_row.Goals as goal

pub loop-later-init : goal.loop-later-init
loop-later-init c = range_begin (pair_at c.args.first) c.args.made.now

pub loop-later-preserved : goal.loop-later-preserved
loop-later-preserved c = range_more (pair_at c.args.first) c.loop-later.later c.args.made.now c.loop-later.made
    c.push.new.self c.loop-later.invariant c.in_ok-push.ensures

pub returns : goal.returns
returns c = range_end (pair_at c.args.first) c.loop-later.later c.args.count c.args.made.now c.loop-later.made
    c.loop-later.auto.later-end c.loop-later-test.false c.loop-later.invariant
