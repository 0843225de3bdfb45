use Rattle.std.proofs.Common.{refl}
use Rattle.conflicts_program.proofs.program.conflicts_answer.Goals as goal

pub returns-clause-answer : goal.returns-clause-answer
returns-clause-answer c = record {
  status = refl;
  told = record {
    conflicts = c.in_ok-text.text;
    additions = c.in_ok-add_additions.ensures.added;
    are_conflicts = c.in_ok-text.ensures;
    are_additions = c.in_ok-add_additions.ensures.tells;
    is = c.in_ok-add_additions.ensures.is;
  };
}
