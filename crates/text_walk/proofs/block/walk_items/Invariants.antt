use Rattle.text_walk.proofs.BlockSteps.{ItemsLeft}
use Rattle.text_walk.proofs.block.walk_items.Given as goal

abbrev pub invariant-loop-i : goal.invariant-loop-i
invariant-loop-i l = ItemsLeft l.items l.i l.labels l.out l.fn.out
