use Rattle.conflict_rows.proofs.Loops.{items_begin, items_more, items_end}
use Rattle.entry_additions.specs.Others.{IsAlone}
use Rattle.entry_additions.proofs.added.push_alone.Goals as goal

pub loop-place-init : goal.loop-place-init
loop-place-init c = items_begin (IsAlone c.args.others.now c.args.kind) c.args.accesses.now c.args.added.now

pub loop-place-preserved : goal.loop-place-preserved
loop-place-preserved c =
    items_more (IsAlone c.args.others.now c.args.kind) c.args.accesses.now c.loop-place.place c.access_at-access.result
    c.args.added.now c.loop-place.added c.push_one.new.added c.access_at-access.ensures
    (c.in_ok-push_one.ensures c.loop-place.place) c.loop-place.invariant

pub returns : goal.returns
returns c = items_end (IsAlone c.args.others.now c.args.kind) c.args.accesses.now c.loop-place.place c.args.added.now
    c.loop-place.added c.loop-place-test.false c.loop-place.invariant
