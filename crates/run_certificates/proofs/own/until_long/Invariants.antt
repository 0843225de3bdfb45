use Rattle.machine_meaning.specs.Faithful.{Faithful}
use Rattle.exchange_run.specs.Comes.{IsOnTheWay}
use Rattle.exchange_run.specs.Runs.{state_of}
use Rattle.run_certificates.proofs.own.until_long.Given as goal

abbrev pub invariant-loop-round : goal.invariant-loop-round
invariant-loop-round g l = record {
  way : IsOnTheWay l.exchange (state_of l.fn.run) l.fn.run.books.limit l.there;
  faithful : Faithful l.exchange l.runner.code.now;
}
