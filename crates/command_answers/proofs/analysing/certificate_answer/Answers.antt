use Rattle.std.proofs.Common.{refl}
use Rattle.command_answers.proofs.analysing.certificate_answer.Goals as goal

pub returns-clause-answer : goal.returns-clause-answer
returns-clause-answer c = record {
  status = refl;
  certificate = c.in_ok-text.ensures.certificate;
  is = c.in_ok-text.ensures.is;
  told = c.in_ok-text.ensures.told;
}
