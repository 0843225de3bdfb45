-- Where a fact stands in a list that rises.
use Rattle.std.specs.Prelude.{◌≡◌, ℕ, ◌+◌, ◌<◌, ◌≤◌, List, length, slice_index_or}
use Rattle.std.specs.declared.cmp.Ordering.TheVariants.{Less, Equal, Greater}
use Rattle.flow_points.specs.declared.fact.Fact.{Fact}
use Rattle.flow_points.specs.declared.fact.Value.{Value}
use Rattle.flow_points.specs.Orders.{fact_order}
use Rattle.fact_list.specs.declared.search.Span.{Span}

-- each fact comes before those behind it
pub record Rises (facts : List Fact) : Type 0 where
  pub pairs : (i j : ℕ) (d : Fact) → i < j → j < length facts
      → fact_order (slice_index_or facts i d) (slice_index_or facts j d) ≡ Less

-- the first n facts are less than this one
pub record AreBelow (facts : List Fact) (f : Fact) (n : ℕ) : Type 0 where
  pub there : n ≤ length facts
  pub each : (k : ℕ) (d : Fact) → k < n → fact_order (slice_index_or facts k d) f ≡ Less

-- those from place n on are greater
pub record AreAbove (facts : List Fact) (f : Fact) (n : ℕ) : Type 0 where
  pub there : n ≤ length facts
  pub each : (k : ℕ) (d : Fact) → n ≤ k → k < length facts
      → fact_order (slice_index_or facts k d) f ≡ Greater

-- all facts before the span are less, those in it equal, and those behind it greater
pub record IsSpan (facts : List Fact) (f : Fact) (s : Span) : Type 0 where
  pub ordered : s.from ≤ s.to
  pub within : s.to ≤ length facts
  pub before : (k : ℕ) (d : Fact) → k < s.from → fact_order (slice_index_or facts k d) f ≡ Less
  pub here : (k : ℕ) (d : Fact) → s.from ≤ k → k < s.to
      → fact_order (slice_index_or facts k d) f ≡ Equal
  pub behind : (k : ℕ) (d : Fact) → s.to ≤ k → k < length facts
      → fact_order (slice_index_or facts k d) f ≡ Greater

-- the same span, where so many facts more come before
abbrev pub shifted : ℕ → Span → Span
shifted n s = record { from = n + s.from; to = n + s.to }

abbrev pub value_of : Fact → Value
value_of f = f.value
