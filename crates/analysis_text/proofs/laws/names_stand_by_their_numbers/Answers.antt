use Rattle.analysis_text.proofs.Numbered.{field_named, file_named, variable_named}
use Rattle.analysis_text.proofs.laws.names_stand_by_their_numbers.Goals as goal

pub returns-clause-variables : goal.returns-clause-variables
returns-clause-variables c = λ x b v k d there here. variable_named x b v k d there here

pub returns-clause-files : goal.returns-clause-files
returns-clause-files c = λ x n p there. file_named x n p there

pub returns-clause-fields : goal.returns-clause-fields
returns-clause-fields c = λ x n i p d there here. field_named x n i p d there here
