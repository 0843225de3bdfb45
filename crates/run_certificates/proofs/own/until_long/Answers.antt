use Rattle.exchange_run.proofs.Resting.{way_over}
use Rattle.run_certificates.proofs.Growth.{come_among, come_over}
use Rattle.run_certificates.proofs.own.until_long.Goals as goal

pub returns-in-Over : goal.returns-in-Over
returns-in-Over g c = come_over c.loop-round.invariant.way c.in_ok-end.ensures.come c.in-Over.is

pub loop-round-preserved : goal.loop-round-preserved
loop-round-preserved g c = record {
  way = come_among c.loop-round.invariant.way c.in_ok-end.ensures.come c.in-Among.is;
  faithful = c.in_ok-end.ensures.runner;
}

pub returns-in-Ok-Some : goal.returns-in-Ok-Some
returns-in-Ok-Some g c = (come_among c.loop-round.invariant.way c.in_ok-end.ensures.come c.in-Among.is, rw c.in-Ok-Some.field-0-is at c.in-Ok-Some.ensures)

pub returns : goal.returns
returns g c = way_over c.loop-round.invariant.way c.in_ok-end-2.ensures.end
