use Rattle.source_meaning.proofs.Activating.{entry_begins}
use Rattle.source_meaning.proofs.Receiving.{asking_received, beginning_received}
use Rattle.source_meaning.proofs.Temporaries.{steps_have}
use Rattle.source_meaning.proofs.laws.activations_begin_at_their_enter.Goals as goal

pub returns-clause-entry : goal.returns-clause-entry
returns-clause-entry c = λ x n e kept there. entry_begins x kept n e there

pub returns-clause-beginning : goal.returns-clause-beginning
returns-clause-beginning c = λ x d deed rest b signal vs kept at is. beginning_received x kept d deed rest b signal vs at is

pub returns-clause-asking : goal.returns-clause-asking
returns-clause-asking c = λ x d deed rest b signal answer vs kept at is. asking_received x kept d deed rest b signal answer vs at is

pub returns-clause-temporaries : goal.returns-clause-temporaries
returns-clause-temporaries c = steps_have
