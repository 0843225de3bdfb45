-- Two jobs that may run at once, and what the first of them leaves of the chains.
use Rattle.std.specs.Prelude.{◌≡◌, ◌≢◌, ◌⊎◌, ℕ, true, false, List}
use Rattle.std.specs.List.{AllByRecursion, Contains}
use Rattle.job_types.specs.declared.job.JobStart.{JobStart}
use Rattle.job_types.specs.declared.outcome.JobDone.{JobDone}
use Rattle.job_types.specs.declared.outcome.Outcome.{Outcome}
use Rattle.job_types.specs.declared.outcome.Outcome.TheVariants.{Ended, Faulted}
use Rattle.job_types.specs.Chain.{holds}
use Rattle.job_types.specs.Forlopps.{ChainMap, chain_at}
use Rattle.exchange_model.specs.declared.exchange.Exchange.{Exchange}
use Rattle.exchange_model.specs.Kept.{IsExchange}
use Rattle.source_meaning.specs.State.{State}
use Rattle.source_meaning.specs.Valid.{IsFitting, IsRecord, IsValid}
use Rattle.flow_points.specs.declared.fact.Fact.{Fact}
use Rattle.entry_summary.specs.declared.summary.Access.TheVariants.{Frees}
use Rattle.entry_summary.specs.declared.summary.Summary.{Summary}
use Rattle.entry_summary.specs.Summaries.{IsSummary}
use Rattle.pair_tests.specs.Pairs.{Passes}
use Rattle.permit_laws.specs.Permitted.{MayHoldAll}

-- the two jobs may run at once in a state, the first before the later one in the single run: both
-- starts fit the state, the facts say these summaries of their entries, and the two pass
pub record MayRunAtOnce (x : Exchange) (facts : List Fact) (s : State) (first later : Summary)
    (a b : JobStart) : Type 0 where
  pub exchange : IsExchange x
  pub state : IsValid x s
  pub first_fits : IsFitting x s a
  pub later_fits : IsFitting x s b
  pub first_told : IsSummary x (Contains facts) a.job.entry first
  pub later_told : IsSummary x (Contains facts) b.job.entry later
  pub passes : Passes first later a b

-- a fault ended the job
abbrev pub IsFaulted : Outcome → Type 0
IsFaulted Ended = ⊥
IsFaulted (Faulted f point) = Unit {0}

-- what a job that began over these chains may have left, by its summary: its chain is of records
-- that it may hold, those of its start that it holds no more are of files of which it frees
-- records, and a fault ended it only if it may fault
pub record IsDoneBy (x : Exchange) (summary : Summary) (start : JobStart) (chains : ChainMap)
    (done : JobDone) : Type 0 where
  pub records : AllByRecursion (IsRecord x) done.chain
  pub held : MayHoldAll summary start chains done.chain
  pub let_go : (file number : ℕ) → holds start.chain file number ≡ true
      → holds done.chain file number ≡ false
      → Contains summary.accesses (Frees file)
  pub fault : IsFaulted done.outcome → summary.fault ≡ true

-- how the retirement of such a job may leave the chains: those of other forlopps as they were, and
-- in its own none but records that it may hold; where one of its start is not there any more, the
-- job frees records of that file, or it may fault
pub record LeavesChains (summary : Summary) (start : JobStart) (before after : ChainMap) : Type
    0 where
  pub others : (n : ℕ) → n ≢ start.job.forlopp → chain_at after n ≡ chain_at before n
  pub own : MayHoldAll summary start before (chain_at after start.job.forlopp)
  pub let_go : (file number : ℕ) → holds start.chain file number ≡ true
      → holds (chain_at after start.job.forlopp) file number ≡ false
      → Contains summary.accesses (Frees file) ⊎ (summary.fault ≡ true)
