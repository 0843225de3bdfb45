use Rattle.std.proofs.Common.{subst, refl}
use Rattle.std.specs.Prelude.{nat_lt}
use Rattle.flow_points.specs.declared.fact.Slot.TheVariants.{Depth}
use Rattle.flow_points.specs.declared.fact.Value.TheVariants.{Arg, Any}
use Rattle.flow_points.specs.Facts.{fact}
use Rattle.fact_list.specs.Spans.{IsSpan}
use Rattle.fact_list.proofs.Searching.{reached_ok}
use Rattle.fact_list.proofs.list.FactListKnownFacts.is_reached.Goals as goal

pub returns : goal.returns
returns c =
    let low : IsSpan c.in_order-facts.result.now (fact c.args.entry c.args.point Depth (Arg 0))
    c.span_of-least.result = subst (λ f. IsSpan c.in_order-facts.result.now f c.span_of-least.result)
    c.fact_of.ensures c.span_of-least.ensures in
    let high : IsSpan c.in_order-facts.result.now (fact c.args.entry c.args.point Depth Any)
    c.span_of-greatest.result = subst (λ f. IsSpan c.in_order-facts.result.now f c.span_of-greatest.result)
    c.fact_of-2.ensures c.span_of-greatest.ensures in
    reached_ok c.args.self.now c.in_order-facts.result.now c.args.entry c.args.point c.span_of-least.result
    c.span_of-greatest.result (nat_lt c.span_of-least.result.from c.span_of-greatest.result.to)
    c.in_order-facts.ensures.facts low high refl
