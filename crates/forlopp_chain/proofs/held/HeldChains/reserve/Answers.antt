use Rattle.std.proofs.Common.{ap, ◌∙◌}
use Rattle.forlopp_chain.specs.Kept.{Kept}
use Rattle.forlopp_chain.proofs.Maps.{same_chains}
use Rattle.forlopp_chain.proofs.held.HeldChains.reserve.Goals as goal

pub returns-clause-chains : goal.returns-clause-chains
returns-clause-chains c = same_chains _ _ c.reserve.ensures.entries.2 ∙ ap (λ (v : Kept). v.chains) c.self.view_is
