use Rattle.std.proofs.Common.{ap, sym, refl, ◌∙◌, [], unwrap_or}
use Rattle.job_types.specs.Forlopps.{chain_at, with_chain}
use Rattle.forlopp_chain.specs.Kept.{Kept}
use Rattle.forlopp_chain.proofs.Maps.{chain_at-chains_of, chains_without}
use Rattle.forlopp_chain.proofs.held.HeldChains.take.Goals as goal

pub returns-clause-chain : goal.returns-clause-chain
returns-clause-chain c = c.found.ensures
    ∙ ap (λ o. unwrap_or o []) c.remove.ensures.value
    ∙ sym (chain_at-chains_of c.self.inside.chains.entries c.args.forlopp)
    ∙ ap (λ (v : Kept). chain_at v.chains c.args.forlopp) c.self.view_is

pub returns-clause-chains : goal.returns-clause-chains
returns-clause-chains c = chains_without _ _ c.args.forlopp [] refl c.remove.ensures.updates.0
    ∙ ap (λ (v : Kept). with_chain v.chains c.args.forlopp []) c.self.view_is
