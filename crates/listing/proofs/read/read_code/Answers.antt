use Rattle.listing.proofs.Once.{bad_line_told, bad_operand_told, listing_told}
use Rattle.listing.proofs.read.read_code.Goals as goal

pub returns-clause-listing : goal.returns-clause-listing
returns-clause-listing c = λ code. listing_told c.args.text.now c.read_text.result code c.read_text.ensures

pub returns-clause-bad_line : goal.returns-clause-bad_line
returns-clause-bad_line c = λ l. bad_line_told c.args.text.now c.read_text.result l c.read_text.ensures

pub returns-clause-bad_operand : goal.returns-clause-bad_operand
returns-clause-bad_operand c = λ l. bad_operand_told c.args.text.now c.read_text.result l c.read_text.ensures
