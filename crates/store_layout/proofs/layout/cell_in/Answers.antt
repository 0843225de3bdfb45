use Rattle.std.proofs.Common.{refl}
use Rattle.store_layout.proofs.Looking.{mark_found}
use Rattle.store_layout.proofs.layout.cell_in.Goals as goal

pub returns-else-field-row : goal.returns-else-field-row
returns-else-field-row c = (refl, mark_found c.args.row c.args.word c.requires.from c.requires.some c.if-field-row.false)
