use Rattle.block_change.proofs.Chaining.{ChainsGo}
use Rattle.block_change.proofs.books.carry_each.Given as goal

abbrev pub invariant-loop-number : goal.invariant-loop-number
invariant-loop-number l = ChainsGo l.old l.new.exchange.now l.fn.chains l.chains l.numbers l.number-index
