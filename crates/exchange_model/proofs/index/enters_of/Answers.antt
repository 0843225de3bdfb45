use Rattle.std.proofs.Common.{subst}
use Rattle.exchange_model.specs.Index.{HasNotedRows}
use Rattle.exchange_model.proofs.Noting.{enters_more}
use Rattle.exchange_model.proofs.index.enters_of.Goals as goal

pub loop-number-preserved : goal.loop-number-preserved
loop-number-preserved c =
    let noted = subst (HasNotedRows c.loop-number.made c.note_rows.new.self c.loop-number.number) c.as_slice.ensures c.in_ok-note_rows.ensures in
    enters_more c.loop-number.made c.note_rows.new.self c.args.blocks.now c.loop-number.number
    c.index-blocks-number.result c.loop-number-test.true c.index-blocks-number.is c.loop-number.invariant noted
