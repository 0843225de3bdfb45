use Rattle.text_walk.proofs.BlockSteps.{PartsMade}
use Rattle.text_walk.proofs.text.walk_blocks.Given as goal

abbrev pub invariant-loop-b : goal.invariant-loop-b
invariant-loop-b l = PartsMade l.blocks l.b-index l.parts l.fn.parts
