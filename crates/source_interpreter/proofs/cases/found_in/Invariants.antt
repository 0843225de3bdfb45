use Rattle.std.proofs.Common.{[], take}
use Rattle.source_interpreter.specs.Cases.{BlockKnown}
use Rattle.source_interpreter.specs.Found.{Gathers}
use Rattle.source_interpreter.proofs.cases.found_in.Given as goal

abbrev pub invariant-loop-block : goal.invariant-loop-block
invariant-loop-block l = Gathers BlockKnown (take l.block-index l.blocks) [] l.found
