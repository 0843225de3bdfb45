-- Which forlopp holds which records, and which numbers are dead.
--
-- A map has a chain for each number that holds records and for no other, so that a forlopp without
-- records looks like one that never was. A restart kills all numbers that were drawn, and a release
-- one: so the dead numbers are those below a bound, and some others.
use Rattle.std.specs.Prelude.{ℕ, max, nat_lt, Bool, ◌&&◌, ◌||◌, List, [], ◌∷◌, flat_map, unwrap_or}
use Rattle.std.specs.Ordering.{nat_cmp}
use Rattle.std.specs.FinMap as map
use Rattle.std.specs.FinSet as set
use Rattle.job_types.specs.declared.chain.Held.{Held}

-- the chain of each number that holds records
abbrev pub ChainMap : Type 0
ChainMap = map.FinMap nat_cmp (List Held)

-- the chain of a number
abbrev pub chain_at : ChainMap → ℕ → List Held
chain_at m n = unwrap_or (map.get m n) []

-- the map with this chain in the place of the number's; an empty chain is kept as none
abbrev pub with_chain : ChainMap → ℕ → List Held → ChainMap
with_chain m n [] = map.remove m n
with_chain m n (h ∷ chain) = map.insert m n (h ∷ chain)

-- the records of all chains, by the numbers of the forlopps
abbrev pub all_records : ChainMap → List Held
all_records m = flat_map (λ (chain : List Held). chain) (map.values m)

-- the numbers from 1 up to this bound are dead, and these others
pub record Dead : Type 0 where
  pub below : ℕ
  pub others : set.FinSet nat_cmp

-- no number is dead
abbrev pub none_dead : Dead
none_dead = record { below = 1; others = set.empty }

-- 0, which is no forlopp, is never below the bound
abbrev pub is_dead : Dead → ℕ → Bool
is_dead d n = (nat_lt 0 n && nat_lt n d.below) || set.contains d.others n

-- one number more is dead
abbrev pub with_dead : Dead → ℕ → Dead
with_dead d n = record d { others = set.insert d.others n }

-- all numbers from 1 up to this one are dead besides
abbrev pub dead_below : Dead → ℕ → Dead
dead_below d next = record d { below = max d.below next }
