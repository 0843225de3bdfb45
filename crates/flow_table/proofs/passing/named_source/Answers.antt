use Rattle.std.proofs.Common.{get_or}
use Rattle.std.proofs.lemmas.List.{get_or_default}
use Rattle.flow_points.specs.declared.fact.Slot.TheVariants.{Temp}
use Rattle.flow_points.specs.declared.flow.Source.TheVariants.{Of}
use Rattle.flow_table.proofs.Naming.{names_more}
use Rattle.flow_table.proofs.passing.named_source.Goals as goal

pub loop-k-preserved : goal.loop-k-preserved
loop-k-preserved c =
    let name = get_or c.args.names.now c.loop-k.k 0 in
    names_more c.args.names.now c.args.origin c.args.temp (Of (Temp c.args.temp)) c.loop-k.k name c.slot_of.result
    c.loop-k.source c.renamed-source.result c.loop-k-test.true
    (get_or_default c.args.names.now c.loop-k.k 0 name c.loop-k-test.true) c.slot_of.ensures
    c.renamed-source.ensures c.loop-k.invariant
