use Rattle.signal_trace.proofs.Filters.{shows_either, traces_either}
use Rattle.signal_trace.proofs.laws.both_filters_show_what_either_shows.Goals as goal

pub returns-clause-job : goal.returns-clause-job
returns-clause-job c x one other t = shows_either x one other t

pub returns-clause-run : goal.returns-clause-run
returns-clause-run c x limit first one other = traces_either x limit first one other
