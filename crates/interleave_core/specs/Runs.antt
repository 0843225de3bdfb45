-- Lists of events: where they lead, and which is the first that is not allowed.
use Rattle.std.specs.Prelude.{◌≡◌, ℕ, List, [], ◌∷◌, take, slice_get, Some}
use Rattle.machine_code.specs.Coded.{Code}
use Rattle.exchange_model.specs.declared.exchange.Exchange.{Exchange}
use Rattle.run_books.specs.Accounts.{Account}
use Rattle.checked.specs.Kept.{KeptSummaries}
use Rattle.interleave_core.specs.declared.event.CoreEvent.{CoreEvent}
use Rattle.interleave_core.specs.declared.event.CoreFault.{CoreFault}
use Rattle.interleave_core.specs.declared.event.CoreFault.TheVariants.{NotEnabled, Memory}
use Rattle.interleave_core.specs.declared.window.CoreState.{CoreState}
use Rattle.interleave_core.specs.Cores.{Core, Stands, opened_core}
use Rattle.interleave_core.specs.Allowed.{IsAllowed, after_event}

-- what stays the same while events happen: the exchange and its code, what is kept of its
-- certificate, and how many jobs may run at once
pub record Setting : Type 0 where
  pub exchange : Exchange
  pub code : Code
  pub kept : KeptSummaries
  pub workers : ℕ

abbrev pub setting : Exchange → Code → KeptSummaries → ℕ → Setting
setting x code kept workers = record { exchange = x; code = code; kept = kept; workers = workers }

abbrev pub Allows : Setting → Core → CoreEvent → Type 0
Allows k c e = IsAllowed k.kept k.workers c e

abbrev pub core_after : (k : Setting) (c : Core) (e : CoreEvent) → Allows k c e → Core
core_after k c e can = after_event k.exchange k.code k.kept k.workers c e can

-- each of these events is allowed after those before it, and together they lead from one core to
-- the other
unfoldable pub Runs : Setting → List CoreEvent → Core → Core → Type 0
Runs k [] c d = d ≡ c
Runs k (e ∷ es) c d = (can : Allows k c e) × Runs k es (core_after k c e can) d

-- the events before this place are allowed one after the other, and the one at this place is not
pub record IsRefusedAt (k : Setting) (events : List CoreEvent) (at : ℕ) (c : Core) : Type 0 where
  pub event : CoreEvent
  pub core : Core
  pub there : slice_get events at ≡ Some event
  pub before : Runs k (take at events) c core
  pub refused : Allows k core event → ⊥

-- the events lead from these books and words to what stands here
pub record LeadsTo (k : Setting) (b : Account) (words : List ℕ) (events : List CoreEvent)
    (s : CoreState) : Type 0 where
  pub core : Core
  pub runs : Runs k events (opened_core b words) core
  pub stands : Stands core s

-- why they do not: an event is refused; of memory nothing is said
abbrev pub IsFault : Setting → Account → List ℕ → List CoreEvent → CoreFault → Type 0
IsFault k b words events (NotEnabled at) = IsRefusedAt k events at (opened_core b words)
IsFault k b words events Memory = Unit {0}
