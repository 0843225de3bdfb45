use Rattle.signal_trace.proofs.Filters.{shows_nothing}
use Rattle.signal_trace.proofs.laws.no_lines_show_nothing.Goals as goal

pub returns : goal.returns
returns c x limit first = shows_nothing x limit first
