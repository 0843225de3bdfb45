use Rattle.forlopp_chain.proofs.Sound.{IsSound-empty, none_dead-zero}
use Rattle.forlopp_chain.proofs.chains.Chains.new.Goals as goal

pub invariant_of-result : goal.invariant_of-result
invariant_of-result c = rw (c.new.ensures, c.new-2.ensures) (IsSound-empty _ none_dead-zero)
