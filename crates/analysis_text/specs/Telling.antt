-- What is told of pairs of summaries, as it is kept.
use Rattle.std.specs.Prelude.{◌≡◌, ℕ, List, Option, Some, slice_get}
use Rattle.entry_summary.specs.declared.summary.Summary.{Summary}
use Rattle.pair_tests.specs.Pairs.{HasNoConflict, IsFirstConflict}
use Rattle.analysis_text.specs.declared.told.Told.{Told}
use Rattle.analysis_text.specs.declared.told.Told.TheVariants.{Never, Asks}
use Rattle.analysis_text.specs.declared.told.ToldPair.{ToldPair}
use Rattle.analysis_text.specs.Pairs.{AreTests}

-- what is told of two summaries is so
abbrev pub TellsPair : Summary → Summary → Told → Type 0
TellsPair first later (Never c) = IsFirstConflict first later c
TellsPair first later (Asks tests) = HasNoConflict first later × AreTests first later tests

-- it is so of those at its places
pub record IsToldPair (summaries : List Summary) (pair : ToldPair) : Type 0 where
  pub first : Summary
  pub later : Summary
  pub of_first : slice_get summaries pair.first ≡ Some first
  pub of_later : slice_get summaries pair.later ≡ Some later
  pub tells : TellsPair first later pair.told

-- all that are kept are told of these summaries
abbrev pub AreTold : List Summary → List (Option ToldPair) → Type 0
AreTold summaries pairs = (place : ℕ) (pair : ToldPair) → slice_get pairs place ≡ Some (Some pair)
    → IsToldPair summaries pair

-- it is told of two places at which the same stands as at these
pub record IsToldOf (summaries : List Summary) (first later : ℕ) (pair : ToldPair) : Type 0 where
  pub told : IsToldPair summaries pair
  pub like_first : slice_get summaries pair.first ≡ slice_get summaries first
  pub like_later : slice_get summaries pair.later ≡ slice_get summaries later
