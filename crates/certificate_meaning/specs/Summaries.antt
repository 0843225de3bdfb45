-- The summaries of an exchange.
use Rattle.std.specs.Prelude.{◌≡◌, ℕ, List, length, Some, slice_get}
use Rattle.exchange_model.specs.declared.exchange.Exchange.{Exchange}
use Rattle.flow_points.specs.Facts.{IsLeast}
use Rattle.entry_summary.specs.declared.summary.Summary.{Summary}
use Rattle.entry_summary.specs.Summaries.{IsSummary}

-- one summary for each entry, by the least facts
pub record AreSummaries (x : Exchange) (summaries : List Summary) : Type 0 where
  pub each_entry : length summaries ≡ length x.entries
  pub is : (e : ℕ) (s : Summary) → slice_get summaries e ≡ Some s → IsSummary x (IsLeast x) e s
