-- What words give to a list of touches: a list that was made over some words may be read over
-- others.
use Rattle.std.specs.Prelude.{◌≡◌, ◌⊎◌, ℕ, ◌<◌, length, List, [], ◌∷◌, ◌++◌, slice_index, slice_set}
use Rattle.std.specs.List.{AllByRecursion}
use Rattle.job_types.specs.declared.job.JobStart.{JobStart}
use Rattle.job_types.specs.declared.touch.Touch.{Touch}
use Rattle.job_types.specs.declared.touch.Touch.TheVariants.{Load, Store}
use Rattle.job_types.specs.Own.{World}
use Rattle.job_types.specs.Touches.{stored, NoStore}
use Rattle.exchange_model.specs.declared.exchange.Exchange.{Exchange}
use Rattle.source_meaning.specs.Config.{Config}
use Rattle.source_meaning.specs.Job.{job}

-- each load of the list finds its value in these words, as the stores before it left them
abbrev pub Answers : List ℕ → List Touch → Type 0
Answers vs [] = Unit {0}
Answers vs (Load w v ∷ ts) = (slice_index vs w ≡ v) × Answers vs ts
Answers vs (Store w v ∷ ts) = Answers (slice_set vs w v) ts

-- from one world to a later one: these touches were made, whose stores are those of the words, and
-- whose loads found what stood there
pub record Grows (w v : World) : Type 0 where
  pub touches : List Touch
  pub trace : v.trace ≡ w.trace ++ touches
  pub store : v.store ≡ stored w.store touches
  pub told : Answers w.store touches

-- the same job over other words
abbrev pub with_store : List ℕ → Config → Config
with_store t c = record c { world = record c.world { store = t } }

-- the word that a touch is of
abbrev pub touched_word : Touch → ℕ
touched_word (Load w v) = w
touched_word (Store w v) = w

-- some touch of the list is of the word
abbrev pub IsTouched : List Touch → ℕ → Type 0
IsTouched [] w = ⊥
IsTouched (t ∷ ts) w = (touched_word t ≡ w) ⊎ IsTouched ts w

-- as many words, the same wherever a touch of the list is
pub record AgreeOn (ts : List Touch) (s t : List ℕ) : Type 0 where
  pub long : length s ≡ length t
  pub same : (w : ℕ) → IsTouched ts w → slice_index s w ≡ slice_index t w

-- no touch of the first list stores to a word that the second one touches
abbrev pub LeavesAlone : List Touch → List Touch → Type 0
LeavesAlone first second = (w : ℕ) → IsTouched second w → NoStore w first

-- the trace of a job, and the words that it leaves
abbrev pub trace_of : Exchange → JobStart → List ℕ → List Touch
trace_of x start store = (job x start store).world.trace

abbrev pub store_after : Exchange → JobStart → List ℕ → List ℕ
store_after x start store = (job x start store).world.store

-- the same job with the same trace over other words, which the stores of the trace leave as they do
abbrev pub over_words : List ℕ → Config → Config
over_words words c = with_store (stored words c.world.trace) c

-- each touch of the list is of a cell of the exchange
abbrev pub AreOfCells : Exchange → List Touch → Type 0
AreOfCells x ts = AllByRecursion (λ (t : Touch). touched_word t < x.cells) ts
