use Rattle.std.proofs.Common.{subst}
use Rattle.answer_meaning.specs.ChangeAnswer.{ChangeAnswers}
use Rattle.answer_meaning.specs.Stages.{TellsOutcome}
use Rattle.worker_answers.proofs.changing.answer_between.Goals as goal

pub returns-clause-told : goal.returns-clause-told
returns-clause-told g c =
    subst (λ x. TellsOutcome (ChangeAnswers c.args.old.now x c.args.lines c.args.bounds.jobs c.args.at)
    c.change_answer.result) c.in_ok-named.ensures c.change_answer.ensures.told
