-- Summaries in an order, of which equal ones are kept once.
use Rattle.std.specs.Prelude.{◌≡◌, ℕ, ◌<◌, List, length, Some, flat_map, slice_get}
use Rattle.std.specs.Option.{option_to_list}
use Rattle.entry_summary.specs.declared.summary.Summary.{Summary}
use Rattle.kept_summaries.specs.declared.summaries.Standing.{Standing}

-- what is kept where the order says
abbrev pub kept_for : List Summary → Standing → List Summary
kept_for kept s = option_to_list (slice_get kept s.place)

-- the order, one after the other
abbrev pub in_order : List Summary → List Standing → List Summary
in_order kept order = flat_map (kept_for kept) order

-- something is kept for it, and for what stands where it is said to have stood first the same
pub record IsPlaced (kept : List Summary) (order : List Standing) (s : Standing) : Type 0 where
  pub within : s.place < length kept
  pub other : Standing
  pub there : slice_get order s.first ≡ Some other
  pub same : other.place ≡ s.place

abbrev pub ArePlaced : List Summary → List Standing → Type 0
ArePlaced kept order = (i : ℕ) (s : Standing) → slice_get order i ≡ Some s → IsPlaced kept order s

-- it stands in the order, and this is what is kept for it
pub record IsLike (kept : List Summary) (order : List Standing) (summary : Summary)
    (s : Standing) : Type 0 where
  pub at : ℕ
  pub stands : slice_get order at ≡ Some s
  pub is : slice_get kept s.place ≡ Some summary
