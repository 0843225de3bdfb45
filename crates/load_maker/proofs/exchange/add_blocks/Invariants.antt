use Rattle.load_maker.specs.Exchange.{block_text}
use Rattle.load_maker.proofs.Rounds.{Grown}
use Rattle.load_maker.proofs.exchange.add_blocks.Given as goal

abbrev pub invariant-loop-i : goal.invariant-loop-i
invariant-loop-i l = Grown (block_text l.n) l.fn.text 1 l.i l.text
