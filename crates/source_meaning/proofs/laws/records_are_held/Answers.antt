use Rattle.source_meaning.proofs.Owning.{steps_from}
use Rattle.source_meaning.proofs.Retiring.{running_fits}
use Rattle.source_meaning.proofs.laws.records_are_held.Goals as goal

pub returns-clause-from : goal.returns-clause-from
returns-clause-from c = λ x n start store kept is fits. steps_from x kept n start store is fits

pub returns-clause-running : goal.returns-clause-running
returns-clause-running c = λ x s start n kept v fits. running_fits x kept s v start fits n
