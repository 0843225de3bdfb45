-- How far a search is with each point.
use Rattle.std.specs.Prelude.{ℕ, ◌+◌, Bool, true, false, List, [], ◌∷◌, slice_get, unwrap_or}
use Rattle.std.specs.Prelude.{if◌then◌else◌}
use Rattle.entry_faults.specs.declared.mark.Mark.{Mark}
use Rattle.entry_faults.specs.declared.mark.Mark.TheVariants.{New, Open, Closed}

-- the point is among those that are reached
abbrev pub is_in : List Bool → ℕ → Bool
is_in reached p = unwrap_or (slice_get reached p) false

abbrev pub kept_mark : List Mark → ℕ → Mark
kept_mark marks p = unwrap_or (slice_get marks p) Closed

-- the mark of a point; one that is not reached counts as closed
unfoldable pub mark_at : List Bool → List Mark → ℕ → Mark
mark_at reached marks p = (if is_in reached p then kept_mark marks p else Closed)

abbrev pub is_closed : Mark → Bool
is_closed Closed = true
is_closed _ = false

-- how much is left to do: a new point is to be opened and to be closed
abbrev pub weight_of : Mark → ℕ
weight_of New = 2
weight_of Open = 1
weight_of Closed = 0

unfoldable pub weight : List Mark → ℕ
weight [] = 0
weight (m ∷ ms) = weight_of m + weight ms
