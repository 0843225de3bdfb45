use Rattle.std.proofs.Common.{subst}
use Rattle.flow_points.specs.declared.fact.Value.TheVariants.{Arg, Any}
use Rattle.flow_points.specs.Facts.{fact}
use Rattle.fact_list.specs.Spans.{IsSpan}
use Rattle.fact_list.proofs.Searching.{values_ok, rising_spans}
use Rattle.fact_list.proofs.list.FactListKnownFacts.values.Goals as goal

pub between-requires-clause-rising : goal.between-requires-clause-rising
between-requires-clause-rising c =
    let low : IsSpan c.in_order-facts.result.now (fact c.args.entry c.args.point c.args.slot (Arg 0))
    c.span_of-least.result = subst (λ f. IsSpan c.in_order-facts.result.now f c.span_of-least.result)
    c.fact_of.ensures c.span_of-least.ensures in
    let high : IsSpan c.in_order-facts.result.now (fact c.args.entry c.args.point c.args.slot Any)
    c.span_of-greatest.result = subst (λ f. IsSpan c.in_order-facts.result.now f c.span_of-greatest.result)
    c.fact_of-2.ensures c.span_of-greatest.ensures in
    rising_spans c.in_order-facts.result.now c.args.entry c.args.point c.args.slot c.span_of-least.result c.span_of-greatest.result low high

pub returns : goal.returns
returns c =
    let low : IsSpan c.in_order-facts.result.now (fact c.args.entry c.args.point c.args.slot (Arg 0))
    c.span_of-least.result = subst (λ f. IsSpan c.in_order-facts.result.now f c.span_of-least.result)
    c.fact_of.ensures c.span_of-least.ensures in
    let high : IsSpan c.in_order-facts.result.now (fact c.args.entry c.args.point c.args.slot Any)
    c.span_of-greatest.result = subst (λ f. IsSpan c.in_order-facts.result.now f c.span_of-greatest.result)
    c.fact_of-2.ensures c.span_of-greatest.ensures in
    values_ok c.args.self.now c.in_order-facts.result.now c.args.entry c.args.point c.args.slot c.span_of-least.result
    c.span_of-greatest.result c.between.result.now c.values_of.result
    c.in_order-facts.ensures.facts low high c.between.ensures c.values_of.ensures
