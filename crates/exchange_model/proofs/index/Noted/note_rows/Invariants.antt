use Rattle.std.proofs.Common.{take}
use Rattle.exchange_model.specs.Index.{HasNotedRows}
use Rattle.exchange_model.proofs.index.Noted.note_rows.Given as goal

abbrev pub invariant-loop-row : goal.invariant-loop-row
invariant-loop-row l = HasNotedRows l.fn.self l.self l.block (take l.row-index l.rows)
