use Rattle.exchange_model.proofs.Noting.{rows_more}
use Rattle.exchange_model.proofs.index.Noted.note_rows.Goals as goal

pub loop-row-preserved : goal.loop-row-preserved
loop-row-preserved c =
    rows_more c.args.self.now c.loop-row.self c.note.new.self c.args.block c.args.rows.now c.loop-row.row-index _
    c.loop-row-test.true c.loop-row.invariant c.in_ok-note.ensures
