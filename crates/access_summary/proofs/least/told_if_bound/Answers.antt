use Rattle.least_facts.specs.Giving.{IsOwnLeast}
use Rattle.least_facts.proofs.Telling.{no_facts}
use Rattle.access_summary.proofs.least.told_if_bound.Goals as goal

pub returns-in-None : goal.returns-in-None
returns-in-None c = λ x e learned. no_facts (IsOwnLeast x e)
