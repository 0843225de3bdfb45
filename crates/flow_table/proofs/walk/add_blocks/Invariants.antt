use Rattle.flow_table.proofs.Walking.{BlocksGo}
use Rattle.flow_table.proofs.walk.add_blocks.Given as goal

abbrev pub invariant-loop-number : goal.invariant-loop-number
invariant-loop-number l = BlocksGo l.blocks l.fn.places l.number l.places
