-- Which accesses of two jobs conflict, and the first of several conflicts.
use Rattle.std.specs.Prelude.{◌≡◌, ◌⊎◌, ℕ, ◌==◌, nat_lt, Bool, true, false, ◌&&◌, ◌||◌, List}
use Rattle.std.specs.Prelude.{Option, Some, None, if◌then◌else◌}
use Rattle.std.specs.List.{Contains}
use Rattle.plex_num.specs.declared.level.Level.{Level}
use Rattle.flow_points.specs.declared.fact.Value.{Value}
use Rattle.flow_points.specs.declared.fact.Value.TheVariants.{Arg, Const, Any}
use Rattle.entry_summary.specs.declared.summary.Access.{Access}
use Rattle.entry_summary.specs.declared.summary.Access.TheVariants as access
use Rattle.entry_summary.specs.Orders.{level_number}
use Rattle.pair_tests.specs.declared.pair.Conflict.{Conflict}
use Rattle.pair_tests.specs.declared.pair.Conflict.TheVariants as conflict
use Rattle.pair_tests.specs.Orders.{Precedes}

-- two accesses of one number, one of which writes
abbrev pub share : ℕ → ℕ → Bool → Bool → Bool
share n m w v = (n == m) && (w || v)

-- whatever the two jobs start with, the selectors may name one record
abbrev pub meet : Value → Value → Bool
meet Any v = true
meet (Arg k) Any = true
meet (Arg k) (Arg l) = false
meet (Arg k) (Const d) = false
meet (Const c) Any = true
meet (Const c) (Arg l) = false
meet (Const c) (Const d) = c == d

abbrev pub only_if : Bool → Conflict → Option Conflict
only_if holds c = if holds then Some c else None

-- the conflict of an access of the first with one of the later, if they conflict
abbrev pub clash_of : Access → Access → Option Conflict
clash_of (access.Variable w n) (access.Variable v m) = only_if (share n m w v) (conflict.Variable n)
clash_of (access.Field w n u) (access.Field v m z) =
    only_if (share n m w v && meet u z) (conflict.Field n u z)
clash_of (access.Seizes f) (access.Seizes g) = only_if (f == g) (conflict.Seizing f)
clash_of (access.Seizes f) (access.Frees g) = only_if (f == g) (conflict.Seizing f)
clash_of (access.Frees f) (access.Seizes g) = only_if (f == g) (conflict.Seizing f)
clash_of _ _ = None

-- the conflict of a level to which the first may send with the later's own level
abbrev pub above_of : Level → Level → Option Conflict
above_of level later =
    only_if (nat_lt (level_number level) (level_number later)) (conflict.Above level)

-- a conflict of the access with one of these
pub record ClashesWith (one : Access) (others : List Access) (c : Conflict) : Type 0 where
  pub other : Access
  pub there : Contains others other
  pub clash : clash_of one other ≡ Some c

-- a conflict of one of these with one of those
pub record Clashes (ones others : List Access) (c : Conflict) : Type 0 where
  pub one : Access
  pub there : Contains ones one
  pub clash : ClashesWith one others c

-- a conflict of one of these levels with the later's own
pub record ClashesAbove (levels : List Level) (later : Level) (c : Conflict) : Type 0 where
  pub level : Level
  pub there : Contains levels level
  pub clash : above_of level later ≡ Some c

-- none of these conflicts comes before this one of them; `None` where there are none
unfoldable pub IsLeastConflict : (Conflict → Type 0) → Option Conflict → Type 0
IsLeastConflict P None = (c : Conflict) → P c → ⊥
IsLeastConflict P (Some c) = P c × ((d : Conflict) → P d → Precedes d c → ⊥)

-- the one of the two that comes first
abbrev pub IsSooner : Option Conflict → Option Conflict → Option Conflict → Type 0
IsSooner None other result = result ≡ other
IsSooner (Some c) None result = result ≡ Some c
IsSooner (Some c) (Some d) result =
    ((result ≡ Some d) × Precedes d c) ⊎ ((result ≡ Some c) × (Precedes d c → ⊥))
