use Rattle.code_gen.proofs.PassSteps.{BlocksMade}
use Rattle.code_gen.proofs.passes.emit_blocks.Given as goal

abbrev pub invariant-loop-number : goal.invariant-loop-number
invariant-loop-number l = BlocksMade l.exchange l.addresses l.ops l.blocks l.number
