use Rattle.std.proofs.Common.{◌≡◌, map, take}
use Rattle.flow_points.specs.Sources.{expr_source}
use Rattle.flow_table.proofs.ways.sources_of.Given as goal

abbrev pub invariant-loop-value : goal.invariant-loop-value
invariant-loop-value l = l.sources ≡ map expr_source (take l.value-index l.values)
