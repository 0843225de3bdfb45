use Rattle.std.proofs.Common.{ap, ◌∙◌}
use Rattle.forlopp_chain.specs.Kept.{Dying}
use Rattle.forlopp_chain.proofs.Maps.{same_dead}
use Rattle.forlopp_chain.proofs.dead.DeadNumbers.reserve.Goals as goal

pub returns-clause-dead : goal.returns-clause-dead
returns-clause-dead c = same_dead _ _ _ c.reserve.ensures.keys.2 ∙ ap (λ (v : Dying). v.dead) c.self.view_is
