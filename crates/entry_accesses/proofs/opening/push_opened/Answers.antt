use Rattle.entry_accesses.specs.Opening.{OpenedBy}
use Rattle.entry_accesses.proofs.Adding.{go_begin, go_item, go_end}
use Rattle.entry_accesses.proofs.opening.push_opened.Goals as goal

pub loop-access-init : goal.loop-access-init
loop-access-init c = go_begin (OpenedBy c.args.exchange.now) c.args.accesses.now c.args.all.now

pub loop-access-preserved : goal.loop-access-preserved
loop-access-preserved c =
    go_item (OpenedBy c.args.exchange.now) c.args.accesses.now c.loop-access.access-index _ c.args.all.now
    c.loop-access.all c.push_if_freed.new.all c.loop-access-test.true c.in_ok-push_if_freed.ensures
    c.loop-access.invariant

pub returns : goal.returns
returns c =
    go_end (OpenedBy c.args.exchange.now) c.args.accesses.now c.loop-access.access-index c.args.all.now
    c.loop-access.all c.loop-access-test.false c.loop-access.invariant
