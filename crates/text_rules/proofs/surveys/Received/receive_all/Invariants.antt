use Rattle.text_rules.proofs.SurveySteps.{Lined, answers_in}
use Rattle.text_rules.proofs.surveys.Received.receive_all.Given as goal

abbrev pub invariant-loop-line : goal.invariant-loop-line
invariant-loop-line l = Lined l.lines l.block (answers_in l.fn.self) l.line-index (answers_in l.self)
