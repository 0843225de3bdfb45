use Rattle.job_table.proofs.Deciding.{first_faulty}
use Rattle.job_table.proofs.laws.first_faulty_line_decides.Goals as goal

pub returns : goal.returns
returns c x signals front rest line list f right wrong = first_faulty x signals front rest line list f right wrong
