use Rattle.signal_trace.proofs.Tracing.{all_numbered}
use Rattle.signal_trace.proofs.laws.all_jobs_are_traced.Goals as goal

pub returns : goal.returns
returns c x limit first none = all_numbered x limit first none
