use Rattle.std.proofs.Common.{ap, ◌∙◌}
use Rattle.conflicts_program.specs.Words.{is_own}
use Rattle.conflicts_program.proofs.Answering.{all_answers, all_makes, own_answers}
use Rattle.conflicts_program.proofs.program.tell_all.Goals as goal

pub returns-then-is_own-clause-answers : goal.returns-then-is_own-clause-answers
returns-then-is_own-clause-answers g c =
    own_answers _ c.args.exchange.now c.is_own.result (c.is_own.ensures ∙ ap is_own c.as_slice.ensures)
    _ c.usage_answer.result c.if-is_own.true c.usage_answer.ensures

pub returns-clause-answers : goal.returns-clause-answers
returns-clause-answers g c =
    all_answers _ c.args.exchange.now c.is_own.result (c.is_own.ensures ∙ ap is_own c.as_slice.ensures)
    _ _ c.tell.result c.if-is_own.false c.tell.ensures.comes

pub returns-clause-made : goal.returns-clause-made
returns-clause-made g c =
    all_makes _ c.args.exchange.now c.is_own.result (c.is_own.ensures ∙ ap is_own c.as_slice.ensures)
    _ _ c.tell.result c.if-is_own.false c.tell.ensures.comes c.tell.ensures.ending
