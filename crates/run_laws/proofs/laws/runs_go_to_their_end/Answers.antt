use Rattle.run_laws.proofs.Going.{run_front, run_next, run_over}
use Rattle.run_laws.proofs.laws.runs_go_to_their_end.Goals as goal

pub returns-clause-front : goal.returns-clause-front
returns-clause-front c = run_front

pub returns-clause-next : goal.returns-clause-next
returns-clause-next c = run_next

pub returns-clause-over : goal.returns-clause-over
returns-clause-over c = run_over
