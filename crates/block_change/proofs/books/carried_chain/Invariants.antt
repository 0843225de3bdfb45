use Rattle.std.proofs.Common.{◌≡◌, map, take}
use Rattle.block_change.specs.Carried.{carried_held}
use Rattle.block_change.proofs.books.carried_chain.Given as goal

abbrev pub invariant-loop-held : goal.invariant-loop-held
invariant-loop-held l = l.carried ≡ map (carried_held l.old l.new.exchange.now) (take l.held-index l.chain)
