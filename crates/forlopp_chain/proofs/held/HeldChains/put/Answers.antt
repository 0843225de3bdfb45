use Rattle.std.proofs.Common.{◌≡◌, ◌≢◌, ap, rules, ◌∙◌, []}
use Rattle.job_types.specs.Forlopps.{with_chain}
use Rattle.forlopp_chain.specs.Kept.{Kept}
use Rattle.forlopp_chain.proofs.Maps.{chains_put, chains_without}
use Rattle.forlopp_chain.proofs.held.HeldChains.put.Goals as goal

pub returns-then-is_empty-clause-chains : goal.returns-then-is_empty-clause-chains
returns-then-is_empty-clause-chains c =
    let none : c.args.chain ≡ [] = search rules in
    chains_without _ _ c.args.forlopp c.args.chain none c.remove.ensures.updates.0
    ∙ ap (λ (v : Kept). with_chain v.chains c.args.forlopp c.args.chain) c.self.view_is

pub returns-else-is_empty-clause-chains : goal.returns-else-is_empty-clause-chains
returns-else-is_empty-clause-chains c =
    let some : c.args.chain ≢ [] = search rules in
    chains_put _ _ c.args.forlopp c.args.chain some (rw c.unwrap.ensures at c.insert-put.ensures.updates).0
    ∙ ap (λ (v : Kept). with_chain v.chains c.args.forlopp c.args.chain) c.self.view_is
