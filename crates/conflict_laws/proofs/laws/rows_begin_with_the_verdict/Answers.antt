use Rattle.conflict_laws.proofs.Verdicts.{verdict}
use Rattle.conflict_laws.proofs.laws.rows_begin_with_the_verdict.Goals as goal

pub returns : goal.returns
returns c = verdict
