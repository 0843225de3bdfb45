use Rattle.forlopp_chain.proofs.Sound.{IsSound-kill}
use Rattle.forlopp_chain.proofs.chains.Chains.kill_reserved.Goals as goal

pub invariant_of-self : goal.invariant_of-self
invariant_of-self c = rw (c.take.ensures.chains, c.add.ensures.dead) (IsSound-kill _ _ c.args.forlopp c.self.invariant c.requires.some)
