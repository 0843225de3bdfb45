use Rattle.std.proofs.Common.{rules, subst, sym}
use Rattle.std.proofs.lemmas.List.Sorted.{answers_always}
use Rattle.signal_trace.specs.declared.table.Row.{Row}
use Rattle.signal_trace.specs.Table.{AreRising}
use Rattle.signal_trace.proofs.table.in_order.Goals as goal

pub returns-clause-rising : goal.returns-clause-rising
returns-clause-rising c =
    subst AreRising (sym c.from_vec.ensures) (c.sort_unstable_by_key.ensures.sorted (λ (r : Row). r.start)
    (answers_always _ _ _ (λ f a r next called. search rules)))
