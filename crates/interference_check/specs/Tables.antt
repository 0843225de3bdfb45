-- What a table tells of ordered pairs of entries.
use Rattle.std.specs.Prelude.{◌≡◌, ◌↔◌, ℕ, ◌≤◌, List, ◌++◌, length, Some, IfSome, slice_get}
use Rattle.std.specs.Prelude.{slice_range}
use Rattle.std.specs.List.{Contains}
use Rattle.entry_summary.specs.declared.summary.Summary.{Summary}
use Rattle.pair_tests.specs.declared.pair.Test.{Test}
use Rattle.pair_tests.specs.Pairs.{HasNoConflict, IsTest}
use Rattle.checked.specs.Kept.{KeptSummaries}
use Rattle.interference_check.specs.declared.table.Pair.{Pair}
use Rattle.interference_check.specs.declared.table.Pair.TheVariants.{Never, Asks}
use Rattle.interference_check.specs.declared.table.Told.{Told}
use Rattle.interference_check.specs.Pairs.{OfPair}

-- the two have no conflict, and their tests stand in the list from one place to before another one
pub record StandWithin (tests : List Test) (from to : ℕ) (first later : Summary) : Type 0 where
  pub ordered : from ≤ to
  pub within : to ≤ length tests
  pub apart : HasNoConflict first later
  pub exact : (test : Test) → Contains (slice_range tests from to) test ↔ IsTest first later test

-- what is told of two summaries is so
abbrev pub TellsTests : List Test → Pair → Summary → Summary → Type 0
TellsTests tests Never first later = HasNoConflict first later → ⊥
TellsTests tests (Asks from to) first later = StandWithin tests from to first later

-- a list of tests to which those of two summaries came, and what is told of the two
pub record IsTold (first later : Summary) (tests all : List Test) (pair : Pair) : Type 0 where
  pub more : List Test
  pub grown : all ≡ tests ++ more
  pub tells : TellsTests all pair first later

-- what is told of two entries is so of their summaries, where something is
abbrev pub IsRight : KeptSummaries → List Test → Told → Type 0
IsRight k tests told =
    IfSome told.pair (λ pair. OfPair k told.first told.later (TellsTests tests pair))

-- each pair that is kept is told right
abbrev pub AreTold : KeptSummaries → List Told → List Test → Type 0
AreTold k kept tests =
    (place : ℕ) (told : Told) → slice_get kept place ≡ Some told → IsRight k tests told

-- it is kept, and of these two entries
pub record IsFound (kept : List Told) (first later : ℕ) (told : Told) : Type 0 where
  pub place : ℕ
  pub there : slice_get kept place ≡ Some told
  pub first_is : told.first ≡ first
  pub later_is : told.later ≡ later

-- its tests stand in the list
abbrev pub HasTests : List Test → Pair → Type 0
HasTests tests Never = Unit {0}
HasTests tests (Asks from to) = (from ≤ to) × (to ≤ length tests)
