use Rattle.certificate_faults.proofs.Slotted.{no_row, row_told}
use Rattle.certificate_faults.proofs.strange.has_slot.Goals as goal

pub returns-in-Some : goal.returns-in-Some
returns-in-Some c = row_told c.args.exchange.now c.args.table.now c.args.point c.args.slot c.in-Some.row.now
    c.row_has.result c.requires.table c.requires.listed c.in-Some.ensures c.row_has.ensures

pub returns-in-None : goal.returns-in-None
returns-in-None c = no_row c.args.exchange.now c.args.table.now c.args.point c.args.slot c.requires.table c.requires.listed c.in-None.ensures
