use Rattle.entry_accesses.proofs.Selecting.{selected_item}
use Rattle.entry_accesses.proofs.accesses.push_selected.Goals as goal

pub loop-selector-preserved : goal.loop-selector-preserved
loop-selector-preserved c = selected_item c.args.write c.args.number c.args.selectors.now c.loop-selector.selector-index
    _ c.args.accesses.now c.loop-selector.accesses c.push.new.self c.loop-selector-test.true c.in_ok-push.ensures
    c.loop-selector.invariant
