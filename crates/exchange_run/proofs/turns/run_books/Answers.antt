use Rattle.std.proofs.Common.{subst}
use Rattle.exchange_run.specs.Comes.{HasCome, IsTold}
use Rattle.exchange_run.specs.Runs.{state_of}
use Rattle.exchange_run.proofs.turns.run_books.Goals as goal

pub returns-clause-end : goal.returns-clause-end
returns-clause-end g c = subst (HasCome c.args.exchange.now (state_of c.args.run) c.args.run.books.limit) c.in-Over.is c.in_ok-come.ensures.come

pub returns-clause-watcher : goal.returns-clause-watcher
returns-clause-watcher g c = subst (IsTold g.W.Watcher.told c.args.exchange.now (state_of c.args.run)
    c.args.run.books.limit c.args.watcher.now c.run_until.new.watcher) c.in-Over.is c.in_ok-come.ensures.told
