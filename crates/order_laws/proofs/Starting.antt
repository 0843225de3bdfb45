-- The start of the next job: what it takes for a state to have it.
use Rattle.std.proofs.Common.{◌≡◌, ℕ, ◌<◌, Bool, true, false, List, Option, Some, None, refl, sym}
use Rattle.std.proofs.Common.{ap, ◌∙◌}
use Rattle.std.proofs.lemmas.Bool.{lt-leb}
use Rattle.std.proofs.lemmas.Option.{none-some, same_Some}
use Rattle.std.specs.Prelude.{nat_le, is_none, if◌then◌else◌}
use Rattle.std.specs.Option.{option_map, option_map_or}
use Rattle.job_types.specs.declared.chain.Held.{Held}
use Rattle.job_types.specs.declared.job.Job.{Job}
use Rattle.job_types.specs.declared.job.JobStart.{JobStart}
use Rattle.job_types.specs.Waiting.{pick}
use Rattle.exchange_model.specs.declared.exchange.Exchange.{Exchange}
use Rattle.source_meaning.specs.Arrivals.{arrivals, is_quiet}
use Rattle.source_meaning.specs.Job.{job}
use Rattle.source_meaning.specs.SingleRun.{Restarted, Finished, Limited, begun, ended_as, ending_at}
use Rattle.source_meaning.specs.SingleRun.{next_start, start_of, turn}
use Rattle.source_meaning.specs.State.{State, chain_in, has_stopped}
use Rattle.order_laws.specs.Windows.{StartsAs}
use Rattle.order_laws.proofs.Keeping.{chain_in_same}
use Rattle.order_laws.proofs.Wording.{over}

-- starts

abbrev start_with : Job → List Held → JobStart
start_with j chain = record { job = j; chain = chain }

-- a start is the same in a state in which its forlopp has the same chain
pub starts_then : (s t : State) (start : JobStart) → chain_in t start.job.forlopp ≡ chain_in s start.job.forlopp → StartsAs s start → StartsAs t start
starts_then s t start same is = is ∙ ap (start_with start.job) (sym same)

pub first_next : (s : State) (start : JobStart) → has_stopped s ≡ false → pick s.waiting ≡ Some start.job → StartsAs s start → next_start s ≡ Some start
first_next s start going picked is =
    ap (λ b. if b then None else option_map (λ j. start_of j s) (pick s.waiting)) going
    ∙ ap (option_map (λ j. start_of j s)) picked
    ∙ ap Some (sym is)

pub turn_is : (x : Exchange) (s : State) (start : JobStart) → next_start s ≡ Some start
    → turn x s ≡ arrivals x (ended_as x start (job x start s.store) (begun s))
turn_is x s start is = ap (λ o. option_map_or (λ (a : JobStart). arrivals x (ended_as x a (job x a s.store) (begun s))) o s) is

-- a job that has a next start waits, and the last restart has not come
pub record HasNext (s : State) (start : JobStart) : Type 0 where
  pub going : has_stopped s ≡ false
  pub picked : pick s.waiting ≡ Some start.job
  pub same : StartsAs s start

pub has_next : (s : State) (start : JobStart) → next_start s ≡ Some start → HasNext s start
has_next s start is = by (has_stopped s) refl is
  where
    of_pick : has_stopped s ≡ false → (found : Option Job) → pick s.waiting ≡ found → option_map (λ j. start_of j s) found ≡ Some start → HasNext s start
    of_pick going None at same = absurd (none-some start same)
    of_pick going (Some j) at same =
        let own : start_of j s ≡ start = same_Some (start_of j s) start same in
        let job_is : j ≡ start.job = ap (λ (a : JobStart). a.job) own in
        record { going = going; picked = at ∙ ap Some job_is; same = sym own ∙ ap (λ k. start_of k s) job_is }

    by : (stopped : Bool) → has_stopped s ≡ stopped → (if stopped then None else option_map (λ j. start_of j s) (pick s.waiting)) ≡ Some start → HasNext s start
    by true at same = absurd (none-some start same)
    by false at same = of_pick at (pick s.waiting) refl same

pub goes_on : (limit : ℕ) (s : State) (start : JobStart) → next_start s ≡ Some start → s.ended < limit → ending_at limit s ≡ None
goes_on limit s start is few =
    let next = has_next s start is in
    ap (λ b. if b then Some Restarted else (if is_quiet s.waiting then Some Finished else (if nat_le limit s.ended then Some Limited else None))) next.going
    ∙ ap (λ o. if is_none o then Some Finished else (if nat_le limit s.ended then Some Limited else None)) next.picked
    ∙ ap (λ b. if b then Some Limited else None) (lt-leb limit s.ended few)

-- the words do not matter to it
pub next_over : (s : State) (words : List ℕ) → next_start (over words s) ≡ next_start s
next_over s words = ap (λ o. if has_stopped s then None else o) (by (pick s.waiting))
  where
    by : (found : Option Job) → option_map (λ j. start_of j (over words s)) found ≡ option_map (λ j. start_of j s) found
    by None = refl
    by (Some j) = ap (λ c. Some (start_with j c)) (chain_in_same s (over words s) refl j.forlopp)
