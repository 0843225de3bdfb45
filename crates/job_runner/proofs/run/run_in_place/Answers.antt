use Rattle.job_runner.proofs.Running.{begins, has_run}
use Rattle.job_runner.proofs.run.run_in_place.Goals as goal

pub run_to_end-requires-clause-begins : goal.run_to_end-requires-clause-begins
run_to_end-requires-clause-begins c = (begins c.args.exchange.now c.args.code.now c.args.store.now c.args.seat c.args.run.now c.kept.ensures c.requires.ready).0

pub returns : goal.returns
returns c = has_run c.args.exchange.now c.args.code.now c.args.store.now c.args.seat c.run_to_end.new.words.seat
    c.args.run.now c.run_to_end.new.run c.kept.ensures c.requires.ready
    c.run_to_end.ensures.end c.run_to_end.ensures.meaning c.run_to_end.ensures.like
