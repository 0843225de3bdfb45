-- Counts of calls and of faults.
use Rattle.std.specs.Prelude.{ℕ, ◌+◌, ◌-◌, ◌^◌, ◌≤◌, Option, min}
use Rattle.std.specs.declared.io.ErrorKind.{ErrorKind}

-- one more; a count that stands at its type's end stays there
abbrev pub risen : ℕ → ℕ
risen n = min (n + 1) (2 ^ 64 - 1)

-- a count has risen, or stands at its type's end
abbrev pub Rose : ℕ → ℕ → Type 0
Rose before now = risen before ≤ now

-- what a device of the system tells of itself: how often it has failed, and of what kind its last
-- failure was
pub record Failures : Type 0 where
  pub faults : ℕ
  pub cause : Option ErrorKind
