use Rattle.conflict_laws.proofs.Conflicts.{all_told}
use Rattle.conflict_laws.proofs.laws.rows_tell_all_conflicts.Goals as goal

pub returns : goal.returns
returns c = all_told
