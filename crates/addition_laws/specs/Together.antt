-- Two jobs that pass but for additions, from a state in which both begin to where the first of them
-- has retired.
use Rattle.std.specs.Prelude.{◌≡◌, ℕ, List}
use Rattle.std.specs.List.{Contains}
use Rattle.job_types.specs.declared.job.JobStart.{JobStart}
use Rattle.exchange_model.specs.declared.exchange.Exchange.{Exchange}
use Rattle.exchange_model.specs.Kept.{IsExchange}
use Rattle.source_meaning.specs.Job.{job}
use Rattle.source_meaning.specs.State.{State}
use Rattle.source_meaning.specs.Traces.{store_after, trace_of}
use Rattle.source_meaning.specs.Valid.{IsFitting, IsValid}
use Rattle.flow_points.specs.declared.fact.Fact.{Fact}
use Rattle.entry_summary.specs.declared.summary.Summary.{Summary}
use Rattle.entry_summary.specs.Summaries.{IsSummary}
use Rattle.order_laws.specs.Ends.{LetsStay}
use Rattle.order_laws.specs.Windows.{done_by}
use Rattle.pair_laws.specs.Orders.{after_job, with_words_of}
use Rattle.pair_laws.specs.Together.{RetiresAside, StartsAlike}
use Rattle.addition_laws.specs.Either.{IsSameRun, LeavesAloneBut, ShareOnly}
use Rattle.addition_laws.specs.Sparing.{PassesAdding}

-- the two jobs begin in a state, the first before the later one in the single run: both starts fit
-- the state, the facts say these summaries of their entries, and the two pass but for additions
pub record MayAddAtOnce (x : Exchange) (facts : List Fact) (s : State) (first later : Summary)
    (a b : JobStart) : Type 0 where
  pub exchange : IsExchange x
  pub state : IsValid x s
  pub first_fits : IsFitting x s a
  pub later_fits : IsFitting x s b
  pub first_told : IsSummary x (Contains facts) a.job.entry first
  pub later_told : IsSummary x (Contains facts) b.job.entry later
  pub passes : PassesAdding x (Contains facts) first later a b

-- neither of the two jobs stores to a word that the other one touches, but to words of D
pub record AreIndependentBut (x : Exchange) (D : ℕ → Type 0) (s : State) (a b : JobStart)
    : Type 0 where
  pub by_first : LeavesAloneBut D (trace_of x a s.store) (trace_of x b s.store)
  pub by_later : LeavesAloneBut D (trace_of x b s.store) (trace_of x a s.store)

-- the later one after the first has retired, and the first after the later one's words: each is the
-- same run but for its words and touches, and the words in the end are the same
pub record SameOrdersAdding (x : Exchange) (s : State) (a b : JobStart) : Type 0 where
  pub later : IsSameRun (job x b s.store) (job x b (after_job x a s).store)
  pub first : IsSameRun (job x a s.store) (job x a (store_after x b s.store))
  pub words : store_after x b (after_job x a s).store ≡ (after_job x a (with_words_of x b s)).store

-- the two jobs, begun in the state, leave one another alone but for words of D; the first sends to
-- no level above the later one's, and where it faults it is of a forlopp, which is not the later
-- one's; its retirement stores to nothing that the later one may read; where it has retired, the
-- later one's start fits, and it may touch the same words; and in either order each does the same
pub record RunTogetherAdding (x : Exchange) (D : ℕ → Type 0) (s : State) (first later : Summary)
    (a b : JobStart) : Type 0 where
  pub independent : AreIndependentBut x D s a b
  pub permits : ShareOnly x D s first later a b
  pub stays : LetsStay a (done_by (job x a s.store)) b.job
  pub retires : RetiresAside x s later a b
  pub starts : StartsAlike x s later a b
  pub orders : SameOrdersAdding x s a b
