use Rattle.conflicts_meaning.specs.Lines.{clash_text}
use Rattle.conflicts_text.proofs.Sizing.{all_written, more_written, none_written, too_much_written}
use Rattle.conflicts_text.proofs.lines.clash_lines.Goals as goal

pub loop-place-init : goal.loop-place-init
loop-place-init c = none_written (clash_text c.args.pair) c.args.rows.now c.args.room c.new-text.result c.new-text.ensures

pub loop-place-preserved : goal.loop-place-preserved
loop-place-preserved c =
    more_written (clash_text c.args.pair) c.args.rows.now c.args.room c.loop-place.place c.len.result
    c.clash_at-row.result c.loop-place.text c.add_clash.new.text
    c.clash_at-row.ensures c.in_ok-add_clash.ensures c.len.ensures c.if-room-len.false c.loop-place.invariant

pub returns-then-room-len : goal.returns-then-room-len
returns-then-room-len c =
    too_much_written (clash_text c.args.pair) c.args.rows.now c.args.room c.loop-place.place c.len.result
    c.clash_at-row.result c.loop-place.text c.add_clash.new.text
    c.clash_at-row.ensures c.in_ok-add_clash.ensures c.len.ensures c.if-room-len.true c.loop-place.invariant

pub returns : goal.returns
returns c = all_written (clash_text c.args.pair) c.args.rows.now c.args.room c.loop-place.place c.loop-place.text c.loop-place-test.false c.loop-place.invariant
