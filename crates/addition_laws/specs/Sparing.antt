-- Two jobs that pass by their summaries without what both only add to.
use Rattle.job_types.specs.declared.job.JobStart.{JobStart}
use Rattle.exchange_model.specs.declared.exchange.Exchange.{Exchange}
use Rattle.flow_points.specs.Facts.{Facts}
use Rattle.entry_summary.specs.declared.summary.Summary.{Summary}
use Rattle.pair_tests.specs.Pairs.{Passes}
use Rattle.additions_meaning.specs.Additions.{OnlyAddsToEach, Targets}
use Rattle.additions_meaning.specs.Sparing.{IsSparing}

-- the two jobs pass by their summaries without the accesses to variables and fields to which both
-- only add
pub record PassesAdding (x : Exchange) (P : Facts) (first later : Summary) (a b : JobStart)
    : Type 0 where
  pub shared : Targets
  pub first_only : OnlyAddsToEach x P a.job.entry shared
  pub later_only : OnlyAddsToEach x P b.job.entry shared
  pub one : Summary
  pub other : Summary
  pub of_first : IsSparing shared first one
  pub of_later : IsSparing shared later other
  pub passes : Passes one other a b
