use Rattle.std.proofs.Common.{map}
use Rattle.flow_table.specs.Texts.{seen}
use Rattle.conflict_rows.proofs.Loops.{items_begin, items_more, items_end}
use Rattle.entry_additions.specs.Others.{IsOtherAt}
use Rattle.entry_additions.proofs.added.push_others.Goals as goal

pub loop-place-init : goal.loop-place-init
loop-place-init c = items_begin (IsOtherAt c.args.exchange.now (map seen c.args.places.now) c.args.accesses.now c.args.kind) c.args.rows.now c.args.others.now

pub loop-place-preserved : goal.loop-place-preserved
loop-place-preserved c =
    items_more (IsOtherAt c.args.exchange.now (map seen c.args.places.now) c.args.accesses.now c.args.kind)
    c.args.rows.now c.loop-place.place c.row_at-row.result c.args.others.now c.loop-place.others
    c.push_other.new.others c.row_at-row.ensures
    c.in_ok-push_other.ensures c.loop-place.invariant

pub returns : goal.returns
returns c =
    items_end (IsOtherAt c.args.exchange.now (map seen c.args.places.now) c.args.accesses.now c.args.kind)
    c.args.rows.now c.loop-place.place c.args.others.now c.loop-place.others c.loop-place-test.false
    c.loop-place.invariant
