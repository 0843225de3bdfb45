-- What contracts see of the chains of the forlopps and of the dead numbers, and what holds of them
-- at every moment.
use Rattle.std.specs.Prelude.{◌≡◌, ◌≢◌, ℕ, ◌<◌, ◌≤◌, false, [], length, Some}
use Rattle.std.specs.FinMap as map
use Rattle.plex_limits.specs.declared.limits.TheConstants.{MOST_HELD}
use Rattle.job_types.specs.Forlopps.{ChainMap, Dead, chain_at, is_dead}

-- the chains, the numbers that are dead, and for how many more chains and deaths there is room
pub record Forlopps : Type 0 where
  pub chains : ChainMap
  pub dead : Dead
  pub puts : ℕ
  pub deaths : ℕ

-- no number is kept with an empty chain
abbrev pub NoneEmpty : ChainMap → Type 0
NoneEmpty m = (n : ℕ) → map.get m n ≢ Some []

-- every number that holds records is below this one
abbrev pub AreBelow : ChainMap → ℕ → Type 0
AreBelow m next = (n : ℕ) → chain_at m n ≢ [] → n < next

-- a number that holds records is live and not 0, and holds 1 to 64 of them; 0 is not dead
pub record IsSound (m : ChainMap) (dead : Dead) : Type 0 where
  pub some : NoneEmpty m
  pub few : (n : ℕ) → length (chain_at m n) ≤ MOST_HELD
  pub live : (n : ℕ) → chain_at m n ≢ [] → (n ≢ 0) × (is_dead dead n ≡ false)
  pub zero : is_dead dead 0 ≡ false
