-- The map that a table of chains stands for, and the dead numbers that a bound and a table stand
-- for.
--
-- A table is a list of entries in no order that matters: no two entries have one number.
use Rattle.std.specs.Prelude.{ℕ, List}
use Rattle.std.specs.FinMap as map
use Rattle.std.specs.FinSet as set
use Rattle.job_types.specs.declared.chain.Held.{Held}
use Rattle.job_types.specs.Forlopps.{ChainMap, Dead}

-- chains, and for how many more there is room
pub record Kept : Type 0 where
  pub chains : ChainMap
  pub room : ℕ

-- dead numbers, and for how many more there is room
pub record Dying : Type 0 where
  pub dead : Dead
  pub room : ℕ

-- the chain of each number of a table
abbrev pub chains_of : List (ℕ × List Held) → ChainMap
chains_of entries = map.from_entries entries

-- the numbers below a bound are dead, and those of a table
abbrev pub dead_of : ℕ → List ℕ → Dead
dead_of below numbers = record { below = below; others = set.from_list numbers }
