use Rattle.first_fault.proofs.Tells.{tells_parts}
use Rattle.first_fault.proofs.laws.first_faults_are_told.Goals as goal

pub returns : goal.returns
returns g c = λ broken rules number all line known parts. tells_parts broken rules number all line known parts
