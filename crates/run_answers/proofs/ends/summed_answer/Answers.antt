use Rattle.run_books.specs.Events.{ending_of}
use Rattle.run_answers.proofs.Telling.{told_summed}
use Rattle.run_answers.proofs.ends.summed_answer.Goals as goal

pub returns-clause-answer : goal.returns-clause-answer
returns-clause-answer c =
    told_summed c.args.calls c.args.end.books.state c.args.end.words (ending_of c.args.end.ending)
    (record { status = c.status_of.result; text = c.in_ok-text.text }) c.status_of.ensures c.in_ok-text.ensures
