use Rattle.std.proofs.Common.{ap, sym, ◌∙◌, [], unwrap_or}
use Rattle.job_types.specs.Forlopps.{chain_at}
use Rattle.forlopp_chain.specs.Kept.{Kept}
use Rattle.forlopp_chain.proofs.Maps.{chain_at-chains_of}
use Rattle.forlopp_chain.proofs.held.HeldChains.of.Goals as goal

pub returns-in-Some : goal.returns-in-Some
returns-in-Some c = c.as_slice.ensures.items
    ∙ ap (λ o. unwrap_or o []) c.in-Some.ensures.value
    ∙ sym (chain_at-chains_of c.self.inside.chains.entries c.args.forlopp)
    ∙ ap (λ (v : Kept). chain_at v.chains c.args.forlopp) c.self.view_is

pub returns-in-None : goal.returns-in-None
returns-in-None c = ap (λ o. unwrap_or o []) c.in-None.ensures.value
    ∙ sym (chain_at-chains_of c.self.inside.chains.entries c.args.forlopp)
    ∙ ap (λ (v : Kept). chain_at v.chains c.args.forlopp) c.self.view_is
