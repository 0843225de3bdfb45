use Rattle.front_end.proofs.Firsts.{same_first, no_first}
use Rattle.front_end.proofs.laws.a_text_has_one_fault.Goals as goal

pub returns-clause-one : goal.returns-clause-one
returns-clause-one c = same_first

pub returns-clause-apart : goal.returns-clause-apart
returns-clause-apart c = no_first
