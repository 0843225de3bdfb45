-- The end of a run of lines, and a run after a change.
use Rattle.std.specs.Prelude.{◌≡◌, ℕ, List, map}
use Rattle.exchange_model.specs.declared.exchange.Exchange.{Exchange}
use Rattle.signal_file.specs.declared.line.Line.{Line}
use Rattle.source_meaning.specs.SingleRun.{opening}
use Rattle.source_meaning.specs.State.{State}
use Rattle.run_books.specs.Lines.{coming_of}
use Rattle.exchange_run.specs.declared.turns.Ended.{Ended}
use Rattle.exchange_run.specs.declared.turns.Standing.{Standing}
use Rattle.exchange_run.specs.Runs.{IsEndOf, MayGoOn, state_of}
use Rattle.block_change.specs.Carried.{IsCarried}

-- the end of the single run of these lines
abbrev pub IsRunOf : Exchange → List Line → ℕ → Ended → Type 0
IsRunOf x lines jobs end = IsEndOf x (opening x (map coming_of lines)) jobs end

-- this state of the old exchange is carried over to the new one, and a run with this limit of jobs
-- may continue with it
pub record CarriesOn (old new : Exchange) (before : State) (jobs : ℕ) (run : Standing) : Type
    0 where
  pub carried : IsCarried old new before (state_of run)
  pub limited : run.books.limit ≡ jobs
  pub may : MayGoOn new run
