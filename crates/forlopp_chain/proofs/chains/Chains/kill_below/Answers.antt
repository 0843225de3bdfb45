use Rattle.forlopp_chain.proofs.Sound.{IsSound-empty, dead_below-zero}
use Rattle.forlopp_chain.proofs.chains.Chains.kill_below.Goals as goal

-- no chain is left, and the bound leaves 0 out
pub invariant_of-self : goal.invariant_of-self
invariant_of-self c = rw (c.clear.ensures.chains, c.add_below.ensures.dead)
    (IsSound-empty _ (dead_below-zero c.self.inside.dead.dead c.args.next c.self.invariant.zero))
