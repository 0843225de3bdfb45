use Rattle.std.proofs.Common.{◌≡◌, false, ap, ◌∙◌}
use Rattle.job_types.specs.Forlopps.{is_dead}
use Rattle.forlopp_chain.specs.Chains.{Forlopps}
use Rattle.forlopp_chain.proofs.Sound.{IsSound-put}
use Rattle.forlopp_chain.proofs.chains.Chains.put_reserved.Goals as goal

pub invariant_of-self : goal.invariant_of-self
invariant_of-self c =
    let live : is_dead c.self.inside.dead.dead c.args.forlopp ≡ false = ap (λ (v : Forlopps). is_dead v.dead c.args.forlopp) c.self.view_is ∙ c.requires.live in
    rw c.put.ensures.chains (IsSound-put c.self.inside.held.chains c.self.inside.dead.dead c.args.forlopp c.args.chain
    c.self.invariant c.requires.some live c.put.ensures.few)
