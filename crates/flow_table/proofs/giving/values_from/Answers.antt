use Rattle.std.proofs.Common.{◌≡◌, ◌∙◌, ap, sym, subst, IfOk}
use Rattle.flow_points.specs.declared.flow.Source.TheVariants.{Deeper}
use Rattle.flow_points.specs.Facts.{SourceGives}
use Rattle.flow_table.specs.Giving.{AreValues, raised}
use Rattle.flow_table.proofs.Raising.{deeper_values, ok_as}
use Rattle.flow_table.proofs.giving.values_from.Goals as goal

pub returns-in_ok-depths-in-Deeper : goal.returns-in_ok-depths-in-Deeper
returns-in_ok-depths-in-Deeper g c =
    let P = g.K.KnownFacts.knows c.args.known.now in
    subst (λ s. IfOk c.raised.result (AreValues (SourceGives P c.args.entry c.args.point s))) (sym c.in-Deeper.is)
    (ok_as c.raised.result (λ vs. vs ≡ raised c.as_slice.result.now) (AreValues (SourceGives P c.args.entry c.args.point Deeper))
    (λ vs is. deeper_values P c.args.entry c.args.point c.in_ok-depths-in-Deeper.depths vs c.in_ok-depths-in-Deeper.ensures (is ∙ ap raised c.as_slice.ensures))
    c.raised.ensures)
