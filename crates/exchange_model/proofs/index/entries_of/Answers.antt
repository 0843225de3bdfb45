use Rattle.exchange_model.proofs.Noting.{entries_more}
use Rattle.exchange_model.proofs.index.entries_of.Goals as goal

pub loop-number-preserved : goal.loop-number-preserved
loop-number-preserved c =
    entries_more c.loop-number.made c.note.new.self c.args.entries.now c.loop-number.number _ c.loop-number-test.true
    c.loop-number.invariant c.in_ok-note.ensures
