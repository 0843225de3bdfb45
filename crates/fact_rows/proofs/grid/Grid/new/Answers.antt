use Rattle.std.proofs.Common.{length, refl}
use Rattle.fact_rows.specs.Spread.{row_of}
use Rattle.fact_rows.proofs.Laying.{laying_first, laying_step, laying_blank, laying_laid}
use Rattle.fact_rows.proofs.grid.Grid.new.Goals as goal

pub loop-row-init : goal.loop-row-init
loop-row-init c = laying_first c.args.rows.now c.in_ok-slots.slots c.in_ok-starts.starts c.in_ok-slots.ensures c.in_ok-starts.ensures

pub loop-row-preserved : goal.loop-row-preserved
loop-row-preserved c =
    laying_step c.args.rows.now c.loop-row.row-index c.row-item.result c.counts_of-counts.result c.size.result
    c.loop-row.slots c.push-in-loop-row.new.self c.loop-row.starts c.push.new.self c.loop-row.size c.in_ok-size.size
    c.loop-row-test.true c.row-item.is c.counts_of-counts.ensures c.size.ensures c.in_ok-push-2.ensures
    c.in_ok-push.ensures c.in_ok-size.ensures c.loop-row.invariant

pub invariant_of-result : goal.invariant_of-result
invariant_of-result c = record {
  laid =
      laying_laid c.args.rows.now c.loop-row.row-index c.loop-row.size (length c.args.rows.now) c.loop-row.slots
      c.loop-row.starts c.loop-row.invariant c.loop-row-test.false
      c.into_vec.result.items (length c.in_ok-planes.planes.set_numbers) (length c.in_ok-awaits.awaits.set_numbers)
      c.into_vec.ensures c.in_ok-planes.ensures.long c.in_ok-awaits.ensures.long refl;
  planes_sound = c.in_ok-planes.ensures.sound;
  planes_wide = c.in_ok-planes.ensures.width;
  awaits_sound = c.in_ok-awaits.ensures.sound;
  awaits_wide = c.in_ok-awaits.ensures.width;
}

pub returns : goal.returns
returns c =
    laying_blank c.args.rows.now c.loop-row.row-index c.loop-row.size (length c.args.rows.now) c.loop-row.slots
    c.loop-row.starts c.loop-row.invariant c.loop-row-test.false
    (row_of c.in_ok-planes.planes) (row_of c.in_ok-awaits.awaits) c.in_ok-planes.ensures.none c.in_ok-awaits.ensures.none
