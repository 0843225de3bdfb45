use Rattle.flow_table.proofs.Rowing.{place_at, rows_more, rows_end}
use Rattle.flow_table.proofs.table.rows_of.Goals as goal

pub row_of-requires-clause-place : goal.row_of-requires-clause-place
row_of-requires-clause-place c = place_at c.args.exchange.now c.args.places.now c.loop-at.at-index c.at-item.result c.requires c.loop-at-test.true c.at-item.is

pub loop-at-preserved : goal.loop-at-preserved
loop-at-preserved c = (
  rows_more c.args.exchange.now c.args.places.now c.loop-at.at-index c.at-item.result c.in_ok-row_of.field-0
      c.loop-at.rows c.push.new.self c.loop-at-test.true c.at-item.is c.in_ok-row_of.ensures c.in_ok-push.ensures
      c.loop-at.invariant.0,
  c.slots_near-slots.ensures.slots,
)

pub returns : goal.returns
returns c = rows_end c.args.exchange.now c.args.places.now c.loop-at.at-index c.loop-at.rows c.requires c.loop-at-test.false c.loop-at.invariant.0
