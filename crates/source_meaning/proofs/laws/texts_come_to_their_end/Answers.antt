use Rattle.source_meaning.proofs.Ending.{jump_goes, some_counted, steps_end_text}
use Rattle.source_meaning.proofs.laws.texts_come_to_their_end.Goals as goal

pub returns-clause-label : goal.returns-clause-label
returns-clause-label c = λ x b label k kept there lt. jump_goes x kept b label k there lt

pub returns-clause-end : goal.returns-clause-end
returns-clause-end c = λ x n start store kept is. steps_end_text x kept n start store is

pub returns-clause-counted : goal.returns-clause-counted
returns-clause-counted c = some_counted
