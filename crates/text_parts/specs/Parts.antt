-- Texts in an order, of which some are kept once and stand there more than once.
use Rattle.std.specs.Prelude.{◌≡◌, ℕ, ◌<◌, List, [], length, map, Some, slice_get}
use Rattle.std.specs.Option.{unwrap_or}

-- what stands at a place: nothing past the end
abbrev pub part_at : List (List ℕ) → ℕ → List ℕ
part_at kept place = unwrap_or (slice_get kept place) []

-- what is kept at these places, in their order
abbrev pub shown : List (List ℕ) → List ℕ → List (List ℕ)
shown kept order = map (part_at kept) order

-- something is kept at each of them
abbrev pub ArePlaced : List (List ℕ) → List ℕ → Type 0
ArePlaced kept order = (i place : ℕ) → slice_get order i ≡ Some place → place < length kept
