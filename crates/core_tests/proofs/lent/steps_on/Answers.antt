use Rattle.run_engines.proofs.Starting.{entry_within}
use Rattle.core_tests.proofs.Lending.{ready_on_all}
use Rattle.core_tests.proofs.lent.steps_on.Goals as goal

pub new-run-requires : goal.new-run-requires
new-run-requires c = entry_within c.args.exchange.now c.args.code.now c.args.start.now c.args.words.now c.requires.faithful c.requires.start

pub run_job-seat-requires-clause-ready : goal.run_job-seat-requires-clause-ready
run_job-seat-requires-clause-ready c =
    ready_on_all c.args.exchange.now c.args.code.now c.in_ok-store.store c.in_ok-store.root c.args.words.now
    c.args.start.now c.in_ok-permit.permit c.lend-seat.result c.new-run.result c.count_of-count.result
    c.count_of-count.ensures c.kept.ensures c.requires.start c.in_ok-permit.ensures
    c.in_ok-store.ensures c.lend-seat.ensures.seat c.new-run.ensures
