use Rattle.flow_points.specs.declared.fact.Slot.TheVariants.{Temp}
use Rattle.flow_points.specs.declared.flow.Source.TheVariants.{Of}
use Rattle.flow_table.proofs.Naming.{NamesGo}
use Rattle.flow_table.proofs.passing.named_source.Given as goal

abbrev pub invariant-loop-k : goal.invariant-loop-k
invariant-loop-k l = NamesGo l.names l.origin l.temp (Of (Temp l.temp)) l.k l.source
