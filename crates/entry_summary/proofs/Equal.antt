-- Summaries that tell the same are equal, since there is one proof at most that a list is in order.
use Rattle.std.proofs.Common.{◌≡◌}
use mathlib.Core.HLevel.{is_prop→PathP}
use Rattle.std.specs.List.Sorted.{IsStrictlySortedBy, IsStrictlySortedBy-prop}
use Rattle.entry_summary.specs.Orders.{access_order, level_order}
use Rattle.entry_summary.specs.declared.summary.Summary.{Summary}

pub same_summary : (s t : Summary) → s.level ≡ t.level → s.accesses ≡ t.accesses → s.levels ≡ t.levels → s.fault ≡ t.fault → s ≡ t
same_summary s t level accesses levels fault = λ i. record {
  level = level i;
  accesses = accesses i;
  levels = levels i;
  fault = fault i;
  rising = is_prop→PathP (λ j. IsStrictlySortedBy access_order (accesses j)) (λ j. IsStrictlySortedBy-prop access_order (accesses j)) s.rising t.rising i;
  levels_rising = is_prop→PathP (λ j. IsStrictlySortedBy level_order (levels j))
      (λ j. IsStrictlySortedBy-prop level_order (levels j)) s.levels_rising t.levels_rising i;
}
