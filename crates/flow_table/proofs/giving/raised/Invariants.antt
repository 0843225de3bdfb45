use Rattle.std.proofs.Common.{◌≡◌, ◌++◌, drop}
use Rattle.flow_table.specs.Giving.{raised}
use Rattle.flow_table.proofs.giving.raised.Given as goal

abbrev pub invariant-loop-depth : goal.invariant-loop-depth
invariant-loop-depth l = l.values ++ raised (drop l.depth-index l.depths) ≡ raised l.depths
