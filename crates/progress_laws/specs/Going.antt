-- Where events begin, whether a core can go on, and where the events end.
use Rattle.std.specs.Prelude.{◌≡◌, ℕ, ◌<◌, List, [], IsSome}
use Rattle.exchange_model.specs.declared.exchange.Exchange.{Exchange}
use Rattle.exchange_model.specs.Kept.{IsExchange}
use Rattle.source_meaning.specs.Arrivals.{arrivals}
use Rattle.source_meaning.specs.SingleRun.{end_state, ending_at, jobs_at_end}
use Rattle.source_meaning.specs.State.{State}
use Rattle.source_meaning.specs.Valid.{IsValid}
use Rattle.machine_meaning.specs.Faithful.{Faithful}
use Rattle.run_books.specs.Accounts.{Account, with_words}
use Rattle.checked.specs.Kept.{IsChecked}
use Rattle.interleave_core.specs.declared.event.CoreEvent.{CoreEvent}
use Rattle.interleave_core.specs.Cores.{Core, opened_core}
use Rattle.interleave_core.specs.Runs.{Allows, Runs, Setting}

-- what `run_events` asks for, as far as a core tells it, and a worker at least
pub record MayBegin (k : Setting) (b : Account) (words : List ℕ) : Type 0 where
  pub exchange : IsExchange k.exchange
  pub faithful : Faithful k.exchange k.code
  pub checked : IsChecked k.exchange k.kept
  pub valid : IsValid k.exchange (with_words b.state words)
  pub quiet : arrivals k.exchange (with_words b.state words) ≡ with_words b.state words
  pub worker : 0 < k.workers

-- these events, each as it is allowed, lead from such books and words to the core
pub record IsReached (k : Setting) (b : Account) (words : List ℕ) (events : List CoreEvent)
    (c : Core) : Type 0 where
  pub begins : MayBegin k b words
  pub runs : Runs k events (opened_core b words) c

-- some event is allowed in the core
pub record HasEvent (k : Setting) (c : Core) : Type 0 where
  pub event : CoreEvent
  pub can : Allows k c event

-- none is
abbrev pub NoEvent : Setting → Core → Type 0
NoEvent k c = (event : CoreEvent) → Allows k c event → ⊥

-- the run is over, and no job is left in the window
pub record IsOver (c : Core) : Type 0 where
  pub empty : c.window ≡ []
  pub over : IsSome (ending_at c.limit c.state)

-- the core is where the single run from this first state ends: as many jobs have retired as the
-- single run has, its state is the single run's, and no job is left in the window
pub record IsSingleEnd (x : Exchange) (first : State) (limit : ℕ) (c : Core) : Type 0 where
  pub empty : c.window ≡ []
  pub state : c.state ≡ end_state x limit first
  pub retired : c.retired ≡ jobs_at_end x limit first

-- further events, each as it is allowed, lead from the core to where the single run ends
pub record ComesToEnd (k : Setting) (first : State) (limit : ℕ) (c : Core) : Type 0 where
  pub events : List CoreEvent
  pub core : Core
  pub runs : Runs k events c core
  pub ends : IsSingleEnd k.exchange first limit core
