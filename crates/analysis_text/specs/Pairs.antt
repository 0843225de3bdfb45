-- The text of the pairs of entries: which never run at once, and on which tests others do.
use Rattle.std.specs.Prelude.{◌≡◌, ◌↔◌, ℕ, ◌<◌, List, [], ◌++◌, length, map, Some, slice_get}
use Rattle.std.specs.Prelude.{slice_index_or}
use Rattle.std.specs.List.{Contains, concat}
use Rattle.std.specs.List.Sorted.{IsStrictlySortedBy}
use Rattle.entry_summary.specs.declared.summary.Summary.{Summary}
use Rattle.pair_tests.specs.declared.pair.Conflict.{Conflict}
use Rattle.pair_tests.specs.declared.pair.Test.{Test}
use Rattle.pair_tests.specs.Orders.{test_order}
use Rattle.pair_tests.specs.Pairs.{HasNoConflict, IsFirstConflict, IsTest}
use Rattle.analysis_text.specs.declared.names.Names.{Names}
use Rattle.analysis_text.specs.Lines.{if_line, never_line, text_of, written}

-- all tests of the two, in order, each once
pub record AreTests (first later : Summary) (tests : List Test) : Type 0 where
  pub exact : (t : Test) → Contains tests t ↔ IsTest first later t
  pub rising : IsStrictlySortedBy test_order tests

-- what is told of a pair, the first of these numbers before the later one
pub data IsPairText (names : Names) (i j : ℕ) (first later : Summary) : List ℕ → Type 0 where
  never : (c : Conflict) → IsFirstConflict first later c
      → IsPairText names i j first later (written (never_line names i j c))
  tested : (tests : List Test) → HasNoConflict first later → AreTests first later tests
      → IsPairText names i j first later (text_of (map (if_line names i j) tests))

-- so many texts, one after the other
pub record InTurn (P : ℕ → List ℕ → Type 0) (n : ℕ) (text : List ℕ) : Type 0 where
  pub parts : List (List ℕ)
  pub count : length parts ≡ n
  pub each : (k : ℕ) → k < n → P k (slice_index_or parts k [])
  pub is : text ≡ concat parts

-- with the later of this number
pub record IsTextWith (names : Names) (summaries : List Summary) (i : ℕ) (first : Summary) (j : ℕ)
    (text : List ℕ) : Type 0 where
  pub later : Summary
  pub there : slice_get summaries j ≡ Some later
  pub tells : IsPairText names i j first later text

-- of the first of this number with each
pub record IsTextOfFirst (names : Names) (summaries : List Summary) (i : ℕ) (text : List ℕ) : Type
    0 where
  pub first : Summary
  pub there : slice_get summaries i ≡ Some first
  pub tells : InTurn (IsTextWith names summaries i first) (length summaries) text

-- of each with each
abbrev pub ArePairs : Names → List Summary → List ℕ → Type 0
ArePairs names summaries text = InTurn (IsTextOfFirst names summaries) (length summaries) text

-- a text that has one of these texts more
pub record GainsText (P : List ℕ → Type 0) (old new : List ℕ) : Type 0 where
  pub added : List ℕ
  pub is : new ≡ old ++ added
  pub tells : P added
