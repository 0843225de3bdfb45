-- What a retirement leaves as it is.
use Rattle.std.proofs.Common.{◌≡◌, ℕ, zero, suc, ◌+◌, List, [], refl, sym, ap, ◌∙◌, arith}
use Rattle.std.specs.Prelude.{nat_le}
use Rattle.plex_limits.specs.declared.limits.TheConstants.{MOST_RESTARTS}
use Rattle.job_types.specs.declared.chain.Held.{Held}
use Rattle.job_types.specs.declared.job.JobStart.{JobStart}
use Rattle.job_types.specs.declared.outcome.JobDone.{JobDone}
use Rattle.job_types.specs.declared.outcome.Outcome.{Outcome}
use Rattle.job_types.specs.declared.outcome.Outcome.TheVariants.{Ended, Faulted}
use Rattle.job_types.specs.Forlopps.{chain_at, with_chain}
use Rattle.job_types.proofs.ChainMaps.{chain_other}
use Rattle.exchange_model.specs.declared.exchange.Exchange.{Exchange}
use Rattle.source_meaning.specs.Config.{Config}
use Rattle.source_meaning.specs.Retirement.{all_delivered, keeps_chain, releases, retires}
use Rattle.source_meaning.specs.Retirement.{with_outcome}
use Rattle.source_meaning.specs.SingleRun.{ended_as}
use Rattle.source_meaning.specs.State.{State, chain_in}
use Rattle.order_laws.specs.Ends.{AreOther, GoesOn}
use Rattle.order_laws.specs.Keeps.{NoRestart, RetirementKeeps}
use Rattle.order_laws.specs.Picks.{AllInPlace}
use Rattle.order_laws.specs.Windows.{done_by}
use Rattle.order_laws.proofs.Delivering.{sends_keep}
use Rattle.order_laws.proofs.Placing.{placed_nobody, placed_others}
use Rattle.job_types.proofs.ChainMaps.{chain_other}

-- what a chain that is kept, and the outcome, leave as it is
record BooksKeep (s t : State) : Type 0 where
  ended : t.ended ≡ s.ended
  lines : t.lines ≡ s.lines
  arrived : t.arrived ≡ s.arrived
  placed : AllInPlace s.waiting → AllInPlace t.waiting

chain_keeps : (forlopp : ℕ) (chain : List Held) (s : State) → BooksKeep s (keeps_chain forlopp chain s)
chain_keeps zero chain s = record { ended = refl; lines = refl; arrived = refl; placed = λ h. h }
chain_keeps (suc n) chain s = record { ended = refl; lines = refl; arrived = refl; placed = λ h. h }

outcome_keeps : (x : Exchange) (forlopp : ℕ) (o : Outcome) (s : State) → BooksKeep s (with_outcome x forlopp o s)
outcome_keeps x forlopp Ended s = record { ended = refl; lines = refl; arrived = refl; placed = λ h. h }
outcome_keeps x zero (Faulted f point) s = record { ended = refl; lines = refl; arrived = refl; placed = λ h. placed_nobody }
outcome_keeps x (suc n) (Faulted f point) s = record { ended = refl; lines = refl; arrived = refl; placed = λ h. placed_others (suc n) s.waiting h }

pub retire_keeps : (x : Exchange) (start : JobStart) (done : JobDone) (s : State) → RetirementKeeps s (retires x start done s)
retire_keeps x start done s =
    let f = start.job.forlopp in
    let t : State = record s { ended = s.ended + 1 } in
    let u = all_delivered f done.sends t in
    let sent = sends_keep f done.sends t in
    let kept = chain_keeps f done.chain u in
    let out = outcome_keeps x f done.outcome (keeps_chain f done.chain u) in
    record {
      lines = out.lines ∙ kept.lines ∙ sent.lines;
      arrived = out.arrived ∙ kept.arrived ∙ sent.arrived;
      ended = out.ended ∙ kept.ended ∙ sent.ended;
      placed = λ h. out.placed (kept.placed (sent.placed h));
    }

pub end_keeps : (x : Exchange) (start : JobStart) (end : Config) (s : State) → RetirementKeeps s (ended_as x start end s)
end_keeps x start end s =
    let one = retire_keeps x start (done_by end) (record s { store = end.world.store }) in
    record { lines = one.lines; arrived = one.arrived; ended = one.ended; placed = one.placed }

-- chains of other forlopps

pub chain_in_same : (s t : State) → t.chains ≡ s.chains → (n : ℕ) → chain_in t n ≡ chain_in s n
chain_in_same s t same zero = refl
chain_in_same s t same (suc n) = ap (λ m. chain_at m (suc n)) same

other_chain : (s t : State) (k : ℕ) (chain : List Held) → t.chains ≡ with_chain s.chains (suc k) chain → (n : ℕ)
    → AreOther (suc k) n → chain_in t n ≡ chain_in s n
other_chain s t k chain is zero other = refl
other_chain s t k chain is (suc n) other =
    ap (λ m. chain_at m (suc n)) is
    ∙ chain_other s.chains (suc k) (suc n) chain (λ same. let none : suc k ≡ 0 = other (sym same) in omega arith)

-- what no restart changes
record Runs (own : ℕ) (s t : State) : Type 0 where
  restarts : t.restarts ≡ s.restarts
  chains : (n : ℕ) → AreOther own n → chain_in t n ≡ chain_in s n

chain_runs : (own : ℕ) (chain : List Held) (s : State) → Runs own s (keeps_chain own chain s)
chain_runs zero chain s = record { restarts = refl; chains = λ n other. refl }
chain_runs (suc k) chain s = record { restarts = refl; chains = other_chain s (keeps_chain (suc k) chain s) k chain refl }

outcome_runs : (x : Exchange) (own : ℕ) (o : Outcome) (s : State) → GoesOn own o → Runs own s (with_outcome x own o s)
outcome_runs x own Ended s goes = record { restarts = refl; chains = λ n other. refl }
outcome_runs x zero (Faulted f point) s goes = absurd (goes refl)
outcome_runs x (suc k) (Faulted f point) s goes = record { restarts = refl; chains = other_chain s (releases x (suc k) f point s) k [] refl }

pub retire_runs : (x : Exchange) (start : JobStart) (done : JobDone) (s : State) → GoesOn start.job.forlopp done.outcome
    → NoRestart start.job.forlopp s (retires x start done s)
retire_runs x start done s goes =
    let f = start.job.forlopp in
    let t : State = record s { ended = s.ended + 1 } in
    let u = all_delivered f done.sends t in
    let sent = sends_keep f done.sends t in
    let kept = chain_runs f done.chain u in
    let out = outcome_runs x f done.outcome (keeps_chain f done.chain u) goes in
    let restarts : (retires x start done s).restarts ≡ s.restarts = out.restarts ∙ kept.restarts ∙ sent.restarts in
    record {
      restarts = restarts;
      stopped = ap (nat_le MOST_RESTARTS) restarts;
      chains = λ n other. out.chains n other ∙ kept.chains n other ∙ chain_in_same s u sent.chains n;
    }

pub end_runs : (x : Exchange) (start : JobStart) (end : Config) (s : State)
    → GoesOn start.job.forlopp (done_by end).outcome → NoRestart start.job.forlopp s (ended_as x start end s)
end_runs x start end s goes =
    let t : State = record s { store = end.world.store } in
    let one = retire_runs x start (done_by end) t goes in
    record { restarts = one.restarts; stopped = one.stopped; chains = λ n other. one.chains n other ∙ chain_in_same s t refl n }
