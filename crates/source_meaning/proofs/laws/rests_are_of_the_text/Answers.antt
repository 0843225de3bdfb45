use Rattle.source_meaning.proofs.Awaiting.{steps_wait}
use Rattle.source_meaning.proofs.Rests.{point_past, counted_stands, stands_next, steps_rest}
use Rattle.source_meaning.proofs.laws.rests_are_of_the_text.Goals as goal

pub returns-clause-job : goal.returns-clause-job
returns-clause-job c = steps_rest

pub returns-clause-counted : goal.returns-clause-counted
returns-clause-counted c = counted_stands

pub returns-clause-next : goal.returns-clause-next
returns-clause-next c = λ x b s rest h. stands_next h

pub returns-clause-point : goal.returns-clause-point
returns-clause-point c = point_past

pub returns-clause-callers : goal.returns-clause-callers
returns-clause-callers c = λ x n start store kept. steps_wait x kept n start store
