-- What is told of two summaries, and of the two without what both only add to.
use Rattle.std.specs.Prelude.{Option, Some, None}
use Rattle.entry_summary.specs.declared.summary.Summary.{Summary}
use Rattle.pair_tests.specs.Pairs.{HasNoConflict, IsFirstConflict}
use Rattle.analysis_text.specs.Pairs.{AreTests}
use Rattle.additions_meaning.specs.Additions.{Targets}
use Rattle.additions_meaning.specs.Lists.{AreOfBoth}
use Rattle.additions_meaning.specs.Sparing.{IsSparing}
use Rattle.addition_pairs.specs.declared.told.Told.{Told}
use Rattle.addition_pairs.specs.declared.told.Told.TheVariants.{Never, Asks}

-- never, with the first conflict; or all tests, where there is no conflict
abbrev pub IsTold : Summary → Summary → Told → Type 0
IsTold one other (Never c) = IsFirstConflict one other c
IsTold one other (Asks tests) = HasNoConflict one other × AreTests one other tests

-- it is told of two summaries without their accesses to these
pub record TellsSparing (first later : Summary) (shared : Targets) (t : Told) : Type 0 where
  pub one : Summary
  pub other : Summary
  pub of_first : IsSparing shared first one
  pub of_later : IsSparing shared later other
  pub told : IsTold one other t

-- two summaries without their accesses to what both lists have
pub record AreSparing (first later : Summary) (d e : Targets) (one other : Summary) : Type 0 where
  pub shared : Targets
  pub are : AreOfBoth d e shared
  pub of_first : IsSparing shared first one
  pub of_later : IsSparing shared later other

-- nothing: whatever is told of the second pair is told of the first one; or what is told of the
-- second pair, and not of the first one
abbrev pub IsAnother : (first later one other : Summary) → Option Told → Type 0
IsAnother first later one other None = (t : Told) → IsTold one other t → IsTold first later t
IsAnother first later one other (Some t) = IsTold one other t × (IsTold first later t → ⊥)

-- what is told with additions: of the two summaries without their accesses to what both lists have
pub record TellsAdding (first later : Summary) (d e : Targets) (o : Option Told) : Type 0 where
  pub one : Summary
  pub other : Summary
  pub sparing : AreSparing first later d e one other
  pub tells : IsAnother first later one other o
