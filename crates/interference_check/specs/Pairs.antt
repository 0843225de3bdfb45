-- What holds of the summaries of two entries.
use Rattle.std.specs.Prelude.{◌≡◌, ℕ, Some, slice_get}
use Rattle.entry_summary.specs.declared.summary.Summary.{Summary}
use Rattle.checked.specs.Kept.{KeptSummaries}

-- both entries have a summary, and this holds of the two
pub record OfPair (k : KeptSummaries) (first later : ℕ) (Holds : Summary → Summary → Type 0) : Type
    0 where
  pub one : Summary
  pub other : Summary
  pub of_first : slice_get k.summaries first ≡ Some one
  pub of_later : slice_get k.summaries later ≡ Some other
  pub holds : Holds one other
