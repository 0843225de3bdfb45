use Rattle.command_answers.proofs.Written.{timed_is_run}
use Rattle.command_answers.proofs.laws.timed_runs_are_runs.Goals as goal

pub returns : goal.returns
returns c = timed_is_run
