-- What is kept of a certificate.
use Rattle.std.specs.Prelude.{◌≡◌, ℕ, List, All, Contains, Some, length, slice_get}
use Rattle.exchange_model.specs.declared.exchange.Exchange.{Exchange}
use Rattle.flow_points.specs.declared.fact.Fact.{Fact}
use Rattle.flow_points.specs.Facts.{Facts, IsClosed}
use Rattle.entry_summary.specs.declared.summary.Summary.{Summary}
use Rattle.entry_summary.specs.Summaries.{IsSummary}
use Rattle.checked.specs.Belonging.{IsOfExchange}

-- summaries by the numbers of their entries
pub record KeptSummaries : Type 0 where
  pub summaries : List Summary

-- one summary for each entry, by these facts
pub record AreSummariesBy (x : Exchange) (P : Facts) (summaries : List Summary) : Type 0 where
  pub each_entry : length summaries ≡ length x.entries
  pub is : (e : ℕ) (s : Summary) → slice_get summaries e ≡ Some s → IsSummary x P e s

-- they are by facts of the exchange, none of which is strange there, and which are closed
pub record IsChecked (x : Exchange) (k : KeptSummaries) : Type 0 where
  pub facts : List Fact
  pub own : All (IsOfExchange x) facts
  pub closed : IsClosed x (Contains facts)
  pub by_facts : AreSummariesBy x (Contains facts) k.summaries
