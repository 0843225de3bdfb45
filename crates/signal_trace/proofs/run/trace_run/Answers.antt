use Rattle.exchange_run.specs.Runs.{state_of}
use Rattle.signal_trace.proofs.Tracing.{told_all}
use Rattle.signal_trace.proofs.run.trace_run.Goals as goal

pub returns-clause-text : goal.returns-clause-text
returns-clause-text g c = told_all c.args.exchange.now (state_of c.args.run) c.args.run.books.limit c.args.shows.now _
    c.run_books.new.watcher c.requires.none c.new-2.ensures c.in_ok-table.ensures c.in_ok-end.ensures.watcher
