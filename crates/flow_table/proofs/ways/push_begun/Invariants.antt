use Rattle.std.proofs.Common.{◌≡◌, ◌++◌, drop}
use Rattle.flow_table.specs.Ways.{begun_points}
use Rattle.flow_table.proofs.ways.push_begun.Given as goal

abbrev pub invariant-loop-when : goal.invariant-loop-when
invariant-loop-when l = l.points ++ begun_points (drop l.when-index l.whens) ≡ l.fn.points ++ begun_points l.whens
