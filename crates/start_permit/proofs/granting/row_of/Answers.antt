use Rattle.start_permit.proofs.Rowing.{row_told}
use Rattle.start_permit.proofs.granting.row_of.Goals as goal

pub returns : goal.returns
returns c = row_told c.args.exchange.now c.args.layout.now c.args.file c.file_of.result c.requires c.file_of.ensures
