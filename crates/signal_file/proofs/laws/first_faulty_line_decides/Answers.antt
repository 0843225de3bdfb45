use Rattle.signal_file.proofs.Behind.{first_faulty}
use Rattle.signal_file.proofs.laws.first_faulty_line_decides.Goals as goal

pub returns : goal.returns
returns c x front rest line list f right wrong = first_faulty x front rest line list f right wrong
