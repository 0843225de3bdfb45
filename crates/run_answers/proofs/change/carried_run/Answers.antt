use Rattle.block_change.specs.Carried.{state_with}
use Rattle.run_answers.proofs.Carrying.{carried_few, carries_on}
use Rattle.run_answers.proofs.change.carried_run.Goals as goal

pub raised-run-requires-clause-few : goal.raised-run-requires-clause-few
raised-run-requires-clause-few c = carried_few c.args.change.now.old.now c.args.change.now.new.now.exchange.now
    c.args.parts c.in_ok-moved.moved c.args.words.now c.in_ok-moved.carried c.args.jobs c.in_ok-moved.ensures.carried
    c.requires.few

pub returns : goal.returns
returns c =
    carries_on c.args.change.now.old.now c.args.change.now.new.now.exchange.now
    (state_with c.args.parts c.args.words.now) c.in_ok-moved.moved c.in_ok-moved.carried c.args.jobs
    c.raised-run.result c.in_ok-moved.ensures.carried c.in_ok-moved.ensures.standing c.raised-run.ensures.books
    c.raised-run.ensures.words
