use Rattle.order_laws.proofs.Keeping.{end_keeps, end_runs, retire_keeps, retire_runs}
use Rattle.order_laws.proofs.laws.retirements_keep.Goals as goal

pub returns-clause-always : goal.returns-clause-always
returns-clause-always c = retire_keeps

pub returns-clause-running : goal.returns-clause-running
returns-clause-running c = retire_runs

pub returns-clause-ended : goal.returns-clause-ended
returns-clause-ended c = end_keeps

pub returns-clause-ended_running : goal.returns-clause-ended_running
returns-clause-ended_running c = end_runs
