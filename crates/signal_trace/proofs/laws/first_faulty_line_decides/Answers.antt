use Rattle.signal_trace.specs.Filter.{names_of}
use Rattle.signal_trace.proofs.Behind.{first_faulty}
use Rattle.signal_trace.proofs.laws.first_faulty_line_decides.Goals as goal

pub returns : goal.returns
returns c x front rest line list f right wrong = first_faulty (names_of x) 1 front rest line list f right wrong
