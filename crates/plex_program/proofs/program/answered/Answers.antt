use Rattle.std.proofs.Common.{ap}
use Rattle.std.specs.Result.{result_ok}
use Rattle.answer_meaning.proofs.Endings.{answers_command, answers_usage, makes_command}
use Rattle.plex_program.proofs.program.answered.Goals as goal

pub returns-in-Ok-Ok-clause-answers : goal.returns-in-Ok-Ok-clause-answers
returns-in-Ok-Ok-clause-answers g c =
    answers_command _ c.args.words.now c.in-Ok-Ok.command _ _ c.perform.result
    (ap result_ok (rw c.in-Ok-Ok.field-0-is at c.in-Ok-Ok.ensures.read)) c.perform.ensures.comes

pub returns-in-Ok-Err-clause-answers : goal.returns-in-Ok-Err-clause-answers
returns-in-Ok-Err-clause-answers g c =
    answers_usage _ c.args.words.now _ c.usage_answer.result (ap result_ok (rw c.in-Ok-Err.field-0-is at c.in-Ok-Err.ensures.read)) c.usage_answer.ensures

pub returns-in-Ok-Ok-clause-made : goal.returns-in-Ok-Ok-clause-made
returns-in-Ok-Ok-clause-made g c =
    makes_command _ c.args.words.now c.in-Ok-Ok.command _ _ c.perform.result
    (ap result_ok (rw c.in-Ok-Ok.field-0-is at c.in-Ok-Ok.ensures.read)) c.perform.ensures.comes c.perform.ensures.ending
