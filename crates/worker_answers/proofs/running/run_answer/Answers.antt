use Rattle.std.proofs.Common.{◌∙◌}
use Rattle.run_answers.proofs.Opened.{ends_at}
use Rattle.run_answers.proofs.Telling.{answer_is}
use Rattle.worker_answers.proofs.running.run_answer.Goals as goal

pub returns-clause-answer : goal.returns-clause-answer
returns-clause-answer g c =
    answer_is c.args.exchange.now c.args.lines c.args.bounds.jobs c.in_ok-end.end c.in_ok-answer.answer
    (ends_at _ _ _ _ _ _ c.in_ok-run.ensures.state (c.in_ok-run.ensures.limit ∙ c.from.ensures) c.in_ok-end.ensures) c.in_ok-answer.ensures.answer
