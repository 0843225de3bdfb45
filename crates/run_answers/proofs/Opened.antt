-- From the state before the first line to the end of a run: its limit, and the state that it starts
-- from.
use Rattle.std.proofs.Common.{◌≡◌, ℕ, ◌≤◌, sym, subst}
use Rattle.plex_limits.specs.declared.limits.TheConstants.{MOST_JOBS}
use Rattle.exchange_model.specs.declared.exchange.Exchange.{Exchange}
use Rattle.source_meaning.specs.State.{State}
use Rattle.exchange_run.specs.declared.turns.Ended.{Ended}
use Rattle.exchange_run.specs.Runs.{IsEndOf}

pub limit_few : (n limit : ℕ) → n ≡ limit → limit ≤ MOST_JOBS → n ≤ MOST_JOBS
limit_few n limit is few = subst (λ k. k ≤ MOST_JOBS) (sym is) few

pub ends_at : (x : Exchange) (first other : State) (limit at : ℕ) (end : Ended) → first ≡ other → limit ≡ at
    → IsEndOf x first limit end → IsEndOf x other at end
ends_at x first other limit at end same is ends = subst (λ f. IsEndOf x f at end) same (subst (λ n. IsEndOf x first n end) is ends)

pub ruleset opened_rules = (limit_few, ends_at)
