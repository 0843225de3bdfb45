-- What is in range while a job runs: its numbers are of 32 bits, the stored words fit their widths,
-- what it has sent fits, and its point is one of the exchange.
use Rattle.std.specs.Prelude.{◌≡◌, ℕ, ◌<◌, ◌≤◌, List, length, Option, Some, slice_get}
use Rattle.std.specs.List.{AllByRecursion}
use Rattle.plex_limits.specs.declared.limits.TheConstants.{MOST_SENT, MOST_TEMPORARIES}
use Rattle.job_types.specs.declared.outbox.Sent.{Sent}
use Rattle.job_types.specs.declared.outbox.SendTo.{SendTo}
use Rattle.job_types.specs.declared.outbox.SendTo.TheVariants.{Queue, Outside}
use Rattle.job_types.specs.declared.outcome.Outcome.{Outcome}
use Rattle.job_types.specs.declared.outcome.Outcome.TheVariants.{Faulted}
use Rattle.exchange_model.specs.declared.exchange.Exchange.{Exchange}
use Rattle.source_meaning.specs.Config.{Item, Turns, Caller, Config}
use Rattle.source_meaning.specs.Deeds.{Deed, Turning}
use Rattle.source_meaning.specs.Valid.{IsWord, IsJob, IsOutside, StoreFits}

-- the last turn of a loop
abbrev pub IsTurnWord : Item → Type 0
IsTurnWord (Turns p temp this end body) = IsWord end
IsTurnWord _ = Unit {0}

abbrev pub IsLastWord : Deed → Type 0
IsLastWord (Turning p temp this end body) = IsWord end
IsLastWord _ = Unit {0}

pub record CallerInRange (k : Caller) : Type 0 where
  pub temps : AllByRecursion IsWord k.temps
  pub given : AllByRecursion IsWord k.given
  pub turns : AllByRecursion IsTurnWord k.todo

-- a signal sent: it goes to an entry as a job would come, or outside
abbrev pub SentFits : Exchange → SendTo → List ℕ → Type 0
SentFits x (Queue entry level fresh) values =
    IsJob x (record { entry = entry; level = level; values = values; forlopp = 0 })
SentFits x (Outside signal) values =
    IsOutside (slice_get x.signals signal) × AllByRecursion IsWord values

-- a fault has a point of the exchange
abbrev pub OverFits : Exchange → Option Outcome → Type 0
OverFits x (Some (Faulted f point)) = point < length x.points
OverFits x _ = Unit {0}

pub record IsInRange (x : Exchange) (c : Config) : Type 0 where
  pub store : StoreFits x c.world.store
  pub temps : AllByRecursion IsWord c.temps
  pub given : AllByRecursion IsWord c.own.given
  pub answers : AllByRecursion IsWord c.own.answers
  pub turns : AllByRecursion IsTurnWord c.todo
  pub callers : AllByRecursion CallerInRange c.callers
  pub sends : AllByRecursion (λ (m : Sent). SentFits x m.to m.values) c.own.sends
  pub few : length c.own.sends ≤ MOST_SENT
  pub point : c.own.point < length x.points
  pub over : OverFits x c.over

-- each activation has all temporaries
pub record HasTemporaries (c : Config) : Type 0 where
  pub temps : length c.temps ≡ MOST_TEMPORARIES
  pub callers : AllByRecursion (λ (k : Caller). length k.temps ≡ MOST_TEMPORARIES) c.callers
