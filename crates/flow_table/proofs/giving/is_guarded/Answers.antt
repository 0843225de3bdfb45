use Rattle.std.proofs.Common.{ap, sym, subst, not}
use Rattle.flow_points.specs.declared.flow.Source.TheVariants.{Deeper}
use Rattle.flow_points.specs.Facts.{SourceGives}
use Rattle.flow_table.specs.Giving.{AreValues}
use Rattle.flow_table.proofs.Handing.{guard_calls}
use Rattle.flow_table.proofs.giving.is_guarded.Goals as goal

pub returns-in_ok-deeper-in-Calls : goal.returns-in_ok-deeper-in-Calls
returns-in_ok-deeper-in-Calls g c =
    let P = g.K.KnownFacts.knows c.args.known.now in
    let are = subst (AreValues (SourceGives P c.args.entry c.args.from Deeper)) (sym c.as_slice.ensures) c.in_ok-deeper-in-Calls.ensures in
    guard_calls P c.args.entry c.args.from c.args.to c.args.how.now c.in-Calls.values c.in-Calls.answer
    c.as_slice.result.now (not c.is_empty.result) c.in-Calls.is are (ap not c.is_empty.ensures)
