-- What the retirement of a job changes of the books and of the words that stand beside them.
use Rattle.std.specs.Prelude.{◌≡◌, ℕ, zero, suc, ◌+◌, List, map, Option, Result, MatchResult}
use Rattle.job_types.specs.declared.chain.Held.{Held}
use Rattle.job_types.specs.declared.job.JobStart.{JobStart}
use Rattle.job_types.specs.declared.outcome.JobDone.{JobDone}
use Rattle.job_types.specs.declared.outcome.Outcome.{Outcome}
use Rattle.job_types.specs.declared.outcome.Outcome.TheVariants.{Ended, Faulted}
use Rattle.job_types.specs.declared.touch.Touch.{Touch}
use Rattle.job_types.specs.Forlopps.{ChainMap, chain_at, with_chain}
use Rattle.job_types.specs.Own.{World, untouched}
use Rattle.job_types.specs.Touches.{stored}
use Rattle.exchange_model.specs.declared.exchange.Exchange.{Exchange}
use Rattle.machine_code.specs.Told.{told_all}
use Rattle.source_meaning.specs.State.{State}
use Rattle.source_meaning.specs.Retirement.{release_world, restart_world, retires, with_sends}
use Rattle.run_books.specs.Accounts.{Account, with_words}
use Rattle.run_books.specs.Stores.{touch_of}
use Rattle.run_books.specs.declared.stores.Write.{Write}

-- the chain of a job is its forlopp's, if it has one
abbrev pub chain_kept : ℕ → List Held → ChainMap → ChainMap
chain_kept zero chain m = m
chain_kept (suc n) chain m = with_chain m (suc n) chain

-- the words of a fault: those of the release of its forlopp, or of a restart
abbrev pub outcome_world : Exchange → ℕ → Outcome → State → World → World
outcome_world x forlopp Ended s w = w
outcome_world x zero (Faulted f point) s w = restart_world x s.chains w
outcome_world x (suc n) (Faulted f point) s w = release_world x (chain_at s.chains (suc n)) w

-- the words of a retirement: those of the job's fault, once its sends and its chain have taken
-- effect
abbrev pub retired_world : Exchange → JobStart → JobDone → State → List ℕ → World
retired_world x start done s words =
    outcome_world x start.job.forlopp done.outcome (with_sends start done s) (untouched words)

-- what is stored then, in order
abbrev pub retired_trace : Exchange → JobStart → JobDone → State → List ℕ → List Touch
retired_trace x start done s words = (retired_world x start done s words).trace

-- the books and the words after a job has retired; the words tell the touches of its release or
-- restart, in order
pub record HasRetired (x : Exchange) (start : JobStart) (done : JobDone) (old new : Account)
    (before after : List ℕ) (told now_told : Option (List Touch)) : Type 0 where
  pub state : with_words new.state after ≡ retires x start done (with_words old.state before)
  pub running : new.running + 1 ≡ old.running
  pub limit : new.limit ≡ old.limit
  pub tells : now_told ≡ told_all told (retired_world x start done old.state before).trace

-- the books after a job has retired, where these stores are to be made in the words that stand
-- beside them, whatever they are
pub record HasSettled (x : Exchange) (start : JobStart) (done : JobDone) (old new : Account)
    (stores : List Write) : Type 0 where
  pub state : (words : List ℕ) → with_words new.state (stored words (map touch_of stores))
      ≡ retires x start done (with_words old.state words)
  pub trace : (words : List ℕ) → map touch_of stores
      ≡ (retired_world x start done old.state words).trace
  pub running : new.running + 1 ≡ old.running
  pub limit : new.limit ≡ old.limit

-- a job has retired but for these stores; where memory was refused, nothing has changed
abbrev pub Settles : {E : Type 0} → Exchange → JobStart → JobDone → Account → Account
    → Result (List Write) E → Type 0
Settles x start done old new told =
    MatchResult told (λ stores. HasSettled x start done old new stores) (λ _. new ≡ old)

-- nothing has changed
pub record IsAsBefore (old new : Account) (before after : List ℕ)
    (told now_told : Option (List Touch)) : Type 0 where
  pub books : new ≡ old
  pub words : after ≡ before
  pub tells : now_told ≡ told

-- a job has retired; where memory was refused, nothing has changed
abbrev pub Retires : {A E : Type 0} → Exchange → JobStart → JobDone → Account → Account → List ℕ
    → List ℕ → Option (List Touch) → Option (List Touch) → Result A E → Type 0
Retires x start done old new before after told now_told r = MatchResult r
    (λ _. HasRetired x start done old new before after told now_told)
    (λ _. IsAsBefore old new before after told now_told)
