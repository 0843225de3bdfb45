use Rattle.run_books.proofs.Listed.{Blocked}
use Rattle.run_books.proofs.stores.list_cleared.Given as goal

abbrev pub invariant-loop-block : goal.invariant-loop-block
invariant-loop-block l = Blocked l.fn.stores l.stores l.word l.exchange.blocks l.block-index
