use Rattle.std.specs.Prelude.{◌-◌}
use Rattle.exchange_run.specs.Runs.{state_of}
use Rattle.exchange_run.proofs.Turning.{Goes}
use Rattle.exchange_run.proofs.turns.run_until.Given as goal

abbrev pub invariant-jobs : goal.invariant-jobs
invariant-jobs g l = record {
  goes : Goes g.W.Watcher.told l.exchange (state_of l.fn.run) l.fn.run.books.limit l.fn.watcher l.books l.words l.watcher;
  runs : g.R.Runner.runs l.runner l.exchange;
}

abbrev pub decreases-jobs : goal.decreases-jobs
decreases-jobs g l = l.fn.run.books.limit - l.books.state.ended
