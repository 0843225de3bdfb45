use Rattle.conflicts_meaning.specs.declared.rows.Section.TheVariants.{Entry}
use Rattle.conflicts_text.proofs.Ranges.{range_begin, range_more, range_end}
use Rattle.conflicts_text.proofs.sections.push_entries.Goals as goal

pub loop-number-init : goal.loop-number-init
loop-number-init c = range_begin Entry c.args.made.now

pub loop-number-preserved : goal.loop-number-preserved
loop-number-preserved c = range_more Entry c.loop-number.number c.args.made.now c.loop-number.made c.push.new.self c.loop-number.invariant c.in_ok-push.ensures

pub returns : goal.returns
returns c = range_end Entry c.loop-number.number c.args.count c.args.made.now c.loop-number.made
    c.loop-number.auto.number-end c.loop-number-test.false c.loop-number.invariant
