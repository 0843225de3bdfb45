-- The next job of books, which stand for a state whatever words are beside them.
use Rattle.std.proofs.Common.{◌≡◌, ℕ, zero, suc, ◌+◌, ◌<◌, Bool, true, false, List, Option, Some}
use Rattle.std.proofs.Common.{None, refl, ap, ◌∙◌, if◌then◌else◌}
use Rattle.std.proofs.lemmas.Bool.{lt-ltb, ltb-true}
use Rattle.std.specs.Prelude.{nat_lt}
use Rattle.std.specs.Option.{option_map}
use Rattle.job_types.specs.declared.chain.Held.{Held}
use Rattle.job_types.specs.declared.job.Job.{Job}
use Rattle.job_types.specs.declared.job.JobStart.{JobStart}
use Rattle.job_types.specs.Waiting.{pick}
use Rattle.source_meaning.specs.SingleRun.{next_start, start_of}
use Rattle.source_meaning.specs.State.{State, chain_in, has_stopped}
use Rattle.run_books.specs.Accounts.{Account, upcoming, with_words}

chain_with : (s : State) (w : List ℕ) (n : ℕ) → chain_in (with_words s w) n ≡ chain_in s n
chain_with s w zero = refl
chain_with s w (suc n) = refl

-- the next job starts alike, whatever the words are
pub next_with : (s : State) (w : List ℕ) → next_start (with_words s w) ≡ next_start s
next_with s w = by (pick s.waiting)
  where
    begin : Job → List Held → JobStart
    begin j chain = record { job = j; chain = chain }

    by : (o : Option Job) → (if has_stopped s then None else option_map (λ j. start_of j (with_words s w)) o)
        ≡ (if has_stopped s then None else option_map (λ j. start_of j s) o)
    by None = refl
    by (Some j) = ap (λ chain. if has_stopped s then None else Some (begin j chain)) (chain_with s w j.forlopp)

-- a job may begin where the limit lets one more begin, and one is next
pub upcoming_parts : (b : Account) (start : JobStart) → upcoming b ≡ Some start → (b.state.ended + b.running < b.limit) × (next_start b.state ≡ Some start)
upcoming_parts b start is = by (nat_lt (b.state.ended + b.running) b.limit) refl is
  where
    by : (t : Bool) → nat_lt (b.state.ended + b.running) b.limit ≡ t
        → (if t then next_start b.state else None) ≡ Some start
        → (b.state.ended + b.running < b.limit) × (next_start b.state ≡ Some start)
    by true lt e = (ltb-true (b.state.ended + b.running) b.limit lt, e)
    by false lt e = cc

pub upcoming_from : (b : Account) (start : JobStart) → b.state.ended + b.running < b.limit → next_start b.state ≡ Some start → upcoming b ≡ Some start
upcoming_from b start lt is = ap (λ t. if t then next_start b.state else None) (lt-ltb (b.state.ended + b.running) b.limit lt) ∙ is
