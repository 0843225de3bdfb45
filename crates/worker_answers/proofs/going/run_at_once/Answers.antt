use Rattle.exchange_run.specs.Runs.{state_of}
use Rattle.run_certificates.proofs.Growth.{come_among, come_over}
use Rattle.worker_answers.proofs.Rooted.{way_ended, way_rested}
use Rattle.worker_answers.proofs.going.run_at_once.Goals as goal

pub returns-in-Over : goal.returns-in-Over
returns-in-Over g c =
    way_ended c.args.context.now.exchange.now c.args.context.now.code.now c.args.context.now.checked.now
    c.args.context.now.workers (state_of c.args.run) c.args.run.books.limit c.loop-round.there c.in_ok-end.field-0
    c.loop-round.invariant c.in_ok-end.ensures.come c.in-Over.end c.in-Over.is c.ended.result c.ended.ensures

pub returns-in-Over-2 : goal.returns-in-Over-2
returns-in-Over-2 g c =
    come_over
    (way_rested c.args.context.now.exchange.now c.args.context.now.code.now c.args.context.now.checked.now
    c.args.context.now.workers (state_of c.args.run) c.args.run.books.limit c.loop-round.there c.in_ok-end.field-0
    c.loop-round.invariant c.in_ok-end.ensures.come c.in-Rests.rested c.in-Rests.is)
    c.in_ok-end-2.ensures c.in-Over-2.is

pub loop-round-preserved : goal.loop-round-preserved
loop-round-preserved g c =
    come_among
    (way_rested c.args.context.now.exchange.now c.args.context.now.code.now c.args.context.now.checked.now
    c.args.context.now.workers (state_of c.args.run) c.args.run.books.limit c.loop-round.there c.in_ok-end.field-0
    c.loop-round.invariant c.in_ok-end.ensures.come c.in-Rests.rested c.in-Rests.is)
    c.in_ok-end-2.ensures c.in-Among.is

pub returns : goal.returns
returns g c =
    way_ended c.args.context.now.exchange.now c.args.context.now.code.now c.args.context.now.checked.now
    c.args.context.now.workers (state_of c.args.run) c.args.run.books.limit c.loop-round.there c.in_ok-end-3.field-0
    c.loop-round.invariant c.in_ok-end-3.ensures.come c.in-Over-3.end c.in-Over-3.is c.ended-in-Over-3.result c.ended-in-Over-3.ensures
