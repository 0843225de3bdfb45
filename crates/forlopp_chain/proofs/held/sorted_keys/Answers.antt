use Rattle.forlopp_chain.proofs.Ordered.{sorted_numbers}
use Rattle.forlopp_chain.proofs.held.sorted_keys.Goals as goal

pub returns : goal.returns
returns c = sorted_numbers c.args.chains.now.entries _ c.keys_of.ensures.once
    (rw c.in_ok-numbers.ensures.keys at c.sort_unstable.ensures.permutation) c.sort_unstable.ensures.sorted
