use Rattle.std.proofs.Common.{refl}
use Rattle.conflicts_meaning.specs.Lines.{point_text}
use Rattle.conflicts_text.proofs.Sizing.{leaves_all, leaves_less, leaves_none, leaves_some}
use Rattle.conflicts_text.proofs.lines.points_outgrow.Goals as goal

pub loop-place-init : goal.loop-place-init
loop-place-init c = leaves_all (point_text c.args.exchange.now c.args.entry) c.args.rows.now c.args.room

pub loop-place-preserved : goal.loop-place-preserved
loop-place-preserved c =
    leaves_less (point_text c.args.exchange.now c.args.entry) c.args.rows.now c.args.room c.loop-place.place c.loop-place.left c.in_ok-size.size c.row_at.result
    c.row_at.ensures c.in_ok-size.ensures c.if-left-size.false c.loop-place.invariant

pub returns-then-left-size : goal.returns-then-left-size
returns-then-left-size c =
    leaves_none (point_text c.args.exchange.now c.args.entry) c.args.rows.now c.args.room c.loop-place.place
    c.loop-place.left c.in_ok-size.size c.row_at.result _
    c.row_at.ensures c.in_ok-size.ensures c.if-left-size.true c.loop-place.invariant refl

pub returns : goal.returns
returns c =
    leaves_some (point_text c.args.exchange.now c.args.entry) c.args.rows.now c.args.room c.loop-place.place c.loop-place.left _
    c.loop-place-test.false c.loop-place.invariant refl
