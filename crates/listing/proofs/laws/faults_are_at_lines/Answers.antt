use Rattle.listing.proofs.Once.{bad_line_within, bad_operand_within}
use Rattle.listing.proofs.laws.faults_are_at_lines.Goals as goal

pub returns-clause-bad_line : goal.returns-clause-bad_line
returns-clause-bad_line c = bad_line_within

pub returns-clause-bad_operand : goal.returns-clause-bad_operand
returns-clause-bad_operand c = bad_operand_within
