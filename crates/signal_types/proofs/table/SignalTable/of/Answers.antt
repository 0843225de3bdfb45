use Rattle.signal_types.proofs.Found.{table_more}
use Rattle.signal_types.proofs.table.SignalTable.of.Goals as goal

pub loop-kind-preserved : goal.loop-kind-preserved
loop-kind-preserved c = table_more _ _ c.args.kinds.now _ _ _ _ c.name_of.result.now c.loop-kind-test.true
    c.kind-item.is c.name_of.ensures c.in_ok-note.ensures c.in-Some.ensures.1 c.loop-kind.invariant
