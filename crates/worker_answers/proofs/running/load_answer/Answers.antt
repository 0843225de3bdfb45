use Rattle.std.proofs.Common.{◌∙◌}
use Rattle.command_words.specs.declared.command.TheConstants.{USUAL_JOBS}
use Rattle.run_answers.proofs.Opened.{ends_at}
use Rattle.run_answers.proofs.Telling.{summed_is}
use Rattle.worker_answers.proofs.running.load_answer.Goals as goal

pub returns-clause-answer : goal.returns-clause-answer
returns-clause-answer g c =
    summed_is c.args.calls USUAL_JOBS c.args.exchange.now c.args.lines c.in_ok-end.end c.in_ok-answer.answer
    (ends_at _ _ _ _ _ _ c.in_ok-run.ensures.state (c.in_ok-run.ensures.limit ∙ c.from.ensures) c.in_ok-end.ensures) c.in_ok-answer.ensures.answer
