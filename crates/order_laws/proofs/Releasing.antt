-- How a job ends: a later job of another forlopp keeps its turn when one is released.
use Rattle.std.proofs.Common.{◌≡◌, ℕ, zero, suc, List, ◌∷◌, [], ◌++◌, length, Some, refl, sym, ap₂}
use Rattle.std.specs.Prelude.{◌≢◌}
use Rattle.job_types.specs.declared.chain.Held.{Held}
use Rattle.job_types.specs.declared.fault.Fault.{Fault}
use Rattle.job_types.specs.declared.job.Job.{Job}
use Rattle.job_types.specs.declared.outcome.Outcome.{Outcome}
use Rattle.job_types.specs.declared.outcome.Outcome.TheVariants.{Ended, Faulted}
use Rattle.job_types.specs.Forlopps.{chain_at}
use Rattle.job_types.specs.Waiting.{Waiting, pick}
use Rattle.exchange_model.specs.declared.exchange.Exchange.{Exchange}
use Rattle.source_meaning.specs.Retirement.{keeps_chain, releases, with_outcome}
use Rattle.source_meaning.specs.State.{State, Release}
use Rattle.order_laws.specs.Ends.{AreOther, GoesOn, Spares}
use Rattle.order_laws.specs.Picks.{PickStays}
use Rattle.order_laws.proofs.Lists.{others_stay}

-- no restart, in another forlopp
pub spares : (later own : ℕ) (o : Outcome) → GoesOn own o → AreOther own later → Spares later own o
spares later own Ended goes other = tt
spares later own (Faulted f point) goes other = (goes, λ same. goes (other same))

pub chain_stays : (j : Job) (forlopp : ℕ) (chain : List Held) (s : State) → pick s.waiting ≡ Some j → PickStays j (keeps_chain forlopp chain) s
chain_stays j zero chain s e = record { picked = e; same = refl }
chain_stays j (suc n) chain s e = record { picked = e; same = refl }

-- a release that leaves these waiting, and counts so many jobs
abbrev with_release : Exchange → ℕ → Fault → ℕ → State → Waiting → ℕ → State
with_release x forlopp f point s w count = record (releases x forlopp f point s) {
  waiting = w;
  events = s.events ++ Release forlopp s.ended f point count (length (chain_at s.chains forlopp)) ∷ [];
}

release_stays : (x : Exchange) (j : Job) (forlopp : ℕ) (f : Fault) (point : ℕ) (s : State) → j.forlopp ≢ forlopp
    → pick s.waiting ≡ Some j → PickStays j (releases x forlopp f point) s
release_stays x j forlopp f point s other e =
    let stay = others_stay j forlopp s.waiting other e in
    record {
      picked = stay.lists.picked;
      same = ap₂ (with_release x forlopp f point s) stay.lists.same (sym stay.count);
    }

pub outcome_stays : (x : Exchange) (j : Job) (forlopp : ℕ) (o : Outcome) (s : State) → pick s.waiting ≡ Some j
    → Spares j.forlopp forlopp o → PickStays j (with_outcome x forlopp o) s
outcome_stays x j forlopp Ended s e spares = record { picked = e; same = refl }
outcome_stays x j zero (Faulted f point) s e spares = absurd (spares.0 refl)
outcome_stays x j (suc n) (Faulted f point) s e spares = release_stays x j (suc n) f point s (λ same. spares.1 (sym same)) e
