use Rattle.first_fault.proofs.Once.{fine_no_fault, same_line, same_number}
use Rattle.first_fault.proofs.laws.first_faults_are_one.Goals as goal

pub returns-clause-apart : goal.returns-clause-apart
returns-clause-apart g c = fine_no_fault

pub returns-clause-line : goal.returns-clause-line
returns-clause-line g c = same_line

pub returns-clause-number : goal.returns-clause-number
returns-clause-number g c = same_number
