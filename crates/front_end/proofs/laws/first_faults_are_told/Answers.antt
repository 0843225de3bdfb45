use Rattle.front_end.proofs.Firsts.{told_first, none_told}
use Rattle.front_end.proofs.laws.first_faults_are_told.Goals as goal

pub returns-clause-told : goal.returns-clause-told
returns-clause-told c = told_first

pub returns-clause-fine : goal.returns-clause-fine
returns-clause-fine c = none_told
