-- Two jobs that touch no words of one another but those to which both only add, in either order.
use Rattle.std.specs.Prelude.{◌≡◌, ℕ, List, ◌++◌}
use Rattle.std.specs.List.{AllByRecursion}
use Rattle.job_types.specs.declared.job.JobStart.{JobStart}
use Rattle.job_types.specs.declared.touch.Touch.{Touch}
use Rattle.job_types.specs.Touches.{NoStore, stored}
use Rattle.exchange_model.specs.declared.exchange.Exchange.{Exchange}
use Rattle.source_meaning.specs.Config.{Config}
use Rattle.source_meaning.specs.Job.{job}
use Rattle.source_meaning.specs.State.{State}
use Rattle.source_meaning.specs.Traces.{IsTouched, store_after, touched_word, trace_of}
use Rattle.source_meaning.specs.Valid.{StoreFits}
use Rattle.entry_summary.specs.declared.summary.Summary.{Summary}
use Rattle.start_permit.specs.Granted.{MayRead, MayWrite}
use Rattle.additions_meaning.specs.Amounts.{with_world}

-- a touch of a word that is none of D
abbrev pub IsOutside : (ℕ → Type 0) → Touch → Type 0
IsOutside D t = D (touched_word t) → ⊥

-- no touch of the first list stores to a word that the second one touches, but to words of D
abbrev pub LeavesAloneBut : (ℕ → Type 0) → List Touch → List Touch → Type 0
LeavesAloneBut D first second = (w : ℕ) → (D w → ⊥) → IsTouched second w → NoStore w first

-- the words that the first job leaves, once these stores have followed it
abbrev pub left_by : Exchange → JobStart → List Touch → List ℕ → List ℕ
left_by x a ending s = stored (store_after x a s) ending

-- a first job with the stores that follow it, those of its retirement or none, and a later one:
-- they share no words but of D, of which these stores touch none; and the words that they leave fit
pub record AreApartBut (x : Exchange) (D : ℕ → Type 0) (s : List ℕ) (a b : JobStart)
    (ending : List Touch) : Type 0 where
  pub first : LeavesAloneBut D (trace_of x a s ++ ending) (trace_of x b s)
  pub later : LeavesAloneBut D (trace_of x b s) (trace_of x a s)
  pub outside : AllByRecursion (IsOutside D) ending
  pub fits : StoreFits x (left_by x a ending s)

-- a word that one of two jobs may write and the other one may read is one of D
pub record ShareOnly (x : Exchange) (D : ℕ → Type 0) (s : State) (first later : Summary)
    (a b : JobStart) : Type 0 where
  pub first_writes : (w : ℕ) → MayWrite x first a s.chains w → MayRead x later b s.chains w → D w
  pub later_writes : (w : ℕ) → MayRead x first a s.chains w → MayWrite x later b s.chains w → D w

-- the same run but for its words and touches
abbrev pub IsSameRun : Config → Config → Type 0
IsSameRun c d = d ≡ with_world d.world c

-- each of the two jobs sends the same, holds the same and ends the same where the other one has run
-- before it, and the words in the end are the same in both orders
pub record SameInEitherOrder (x : Exchange) (s : List ℕ) (a b : JobStart) (ending : List Touch)
    : Type 0 where
  pub later : IsSameRun (job x b s) (job x b (left_by x a ending s))
  pub first : IsSameRun (job x a s) (job x a (store_after x b s))
  pub words : store_after x b (left_by x a ending s) ≡ left_by x a ending (store_after x b s)
