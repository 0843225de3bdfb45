use Rattle.block_change.specs.Carried.{state_with}
use Rattle.worker_answers.proofs.Changed.{changes}
use Rattle.worker_answers.proofs.changing.changed_answer.Goals as goal

pub go_on-requires-clause-run : goal.go_on-requires-clause-run
go_on-requires-clause-run g c κs within = c.in_ok-run.ensures.may

pub returns-clause-answer : goal.returns-clause-answer
returns-clause-answer g c =
    changes c.args.change.now.old.now c.args.change.now.new.now.exchange.now (state_with c.args.parts c.args.words.now)
    c.args.bounds.jobs c.args.change.now.at c.in_ok-run.run' c.in_ok-end.end c.in_ok-text.text c.in_ok-answer.answer
    c.in_ok-run.ensures c.in_ok-end.ensures c.in_ok-text.ensures c.in_ok-answer.ensures.answer
