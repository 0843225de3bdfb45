-- What is left of a summary to be looked at beside another one: no access to listed variables and
-- fields, and each other one that has to do with the other summary.
use Rattle.std.specs.Prelude.{◌≡◌, ◌⊎◌, ℕ, ◌<◌, true, false, List, [], ◌∷◌, ◌++◌, length, Some}
use Rattle.std.specs.Prelude.{slice_get}
use Rattle.std.specs.List.{Contains}
use Rattle.entry_summary.specs.declared.summary.Access.{Access}
use Rattle.entry_summary.specs.declared.summary.Summary.{Summary}
use Rattle.pair_tests.specs.Idle.{IsIdle}
use Rattle.additions_meaning.specs.Additions.{Targets}
use Rattle.additions_meaning.specs.Sparing.{IsSpared}
use Rattle.addition_pairs.specs.Sparing.{is_kept}

-- the access is one of the first so many of these
pub record StandsBelow (accesses : List Access) (count : ℕ) (a : Access) : Type 0 where
  pub place : ℕ
  pub low : place < count
  pub there : slice_get accesses place ≡ Some a

-- of the first so many accesses those that are left; the others are to one of these variables and
-- fields, or have neither a conflict nor a test with one of the other summary
pub record AreLeft (d : Targets) (others ones : List Access) (count : ℕ) (left : List Access) : Type
    0 where
  pub each : (a : Access) → Contains left a → StandsBelow ones count a × (IsSpared d a → ⊥)
  pub rest : (a : Access) → StandsBelow ones count a → (IsSpared d a → ⊥)
      → Contains left a ⊎ IsIdle others a

-- the second summary is what is left of the first one
pub record IsLeft (d : Targets) (others : List Access) (m n : Summary) : Type 0 where
  pub level : n.level ≡ m.level
  pub accesses : AreLeft d others m.accesses (length m.accesses) n.accesses
  pub levels : n.levels ≡ m.levels
  pub fault : n.fault ≡ m.fault

-- the access stands behind those that were left, or it is to one of these variables and fields
pub data Leaves (d : Targets) (a : Access) (old : List Access) : List Access → Type 0 where
  keeps : is_kept d a ≡ true → Leaves d a old (old ++ a ∷ [])
  drops : is_kept d a ≡ false → Leaves d a old old
