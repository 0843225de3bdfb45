use Rattle.exchange_run.specs.Comes.{IsOnTheWay}
use Rattle.exchange_run.specs.Runs.{state_of}
use Rattle.worker_answers.proofs.going.run_at_once.Given as goal

abbrev pub invariant-loop-round : goal.invariant-loop-round
invariant-loop-round g l = IsOnTheWay l.context.exchange.now (state_of l.fn.run) l.fn.run.books.limit l.there
