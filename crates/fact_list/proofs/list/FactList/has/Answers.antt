use Rattle.std.proofs.Common.{refl, subst, Contains, ◌↔◌}
use Rattle.std.specs.Prelude.{IsTrue, nat_lt}
use Rattle.fact_list.proofs.Searching.{has_exact}
use Rattle.fact_list.proofs.list.FactList.has.Goals as goal

pub returns : goal.returns
returns c = subst (λ l. IsTrue (nat_lt c.span_of-span.result.from c.span_of-span.result.to) ↔ Contains l c.args.fact)
    c.in_order.ensures.facts (has_exact c.in_order.result.now c.args.fact c.span_of-span.result
    (nat_lt c.span_of-span.result.from c.span_of-span.result.to) c.span_of-span.ensures refl)
