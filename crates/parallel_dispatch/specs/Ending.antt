-- How far the single run has come at a state of the core of events.
use Rattle.std.specs.Prelude.{◌≡◌, ℕ, ◌+◌, ◌<◌, ◌≤◌, length, None}
use Rattle.exchange_model.specs.declared.exchange.Exchange.{Exchange}
use Rattle.source_meaning.specs.SingleRun.{after, ending_at}
use Rattle.source_meaning.specs.State.{State}
use Rattle.interleave_core.specs.Cores.{Core}

-- the single run from this first state was not over before any of the jobs that have retired or are
-- in the window
pub record Went (x : Exchange) (first : State) (c : Core) : Type 0 where
  pub counted : c.retired ≤ c.state.ended
  pub few : c.retired + length c.window ≤ c.limit
  pub goes_on : (n : ℕ) → n < c.retired + length c.window
      → ending_at c.limit (after x first n) ≡ None
