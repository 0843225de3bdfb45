-- What an arrival and a retirement leave as it is.
use Rattle.std.specs.Prelude.{◌≡◌, ℕ, ◌+◌, ◌≤◌, false, List, [], ◌∷◌}
use Rattle.source_meaning.specs.Arrivals.{is_due}
use Rattle.source_meaning.specs.State.{State, Coming, chain_in, has_stopped}
use Rattle.order_laws.specs.Ends.{AreOther}
use Rattle.order_laws.specs.Picks.{AllInPlace}

-- while a job waits, no line arrives before so many jobs have ended
abbrev pub NoLineBefore : ℕ → List Coming → Type 0
NoLineBefore count [] = Unit {0}
NoLineBefore count (l ∷ rest) = count ≤ l.after

-- the next line is not due, or no line is left
abbrev pub NoneDue : List Coming → State → Type 0
NoneDue [] s = Unit {0}
NoneDue (l ∷ rest) s = is_due l s ≡ false

-- arrivals change who waits, the lines, the numbers that were drawn and the events
pub record ArrivalsKeep (s t : State) : Type 0 where
  pub store : t.store ≡ s.store
  pub chains : t.chains ≡ s.chains
  pub dead : t.dead ≡ s.dead
  pub ended : t.ended ≡ s.ended
  pub restarts : t.restarts ≡ s.restarts
  pub placed : AllInPlace s.waiting → AllInPlace t.waiting

-- a retirement brings no line, and counts one job
pub record RetirementKeeps (s t : State) : Type 0 where
  pub lines : t.lines ≡ s.lines
  pub arrived : t.arrived ≡ s.arrived
  pub ended : t.ended ≡ s.ended + 1
  pub placed : AllInPlace s.waiting → AllInPlace t.waiting

-- one that is no restart changes no chain but that of its own forlopp
pub record NoRestart (own : ℕ) (s t : State) : Type 0 where
  pub restarts : t.restarts ≡ s.restarts
  pub stopped : has_stopped t ≡ has_stopped s
  pub chains : (n : ℕ) → AreOther own n → chain_in t n ≡ chain_in s n
