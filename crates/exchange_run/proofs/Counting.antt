-- Each job that retires counts once, and arrivals count none.
use Rattle.std.proofs.Common.{◌≡◌, ℕ, zero, suc, ◌+◌, Bool, true, false, List, [], ◌∷◌, refl, ◌∙◌}
use Rattle.std.proofs.Common.{if◌then◌else◌}
use Rattle.job_types.specs.declared.chain.Held.{Held}
use Rattle.job_types.specs.declared.job.JobStart.{JobStart}
use Rattle.job_types.specs.declared.outbox.Sent.{Sent}
use Rattle.job_types.specs.declared.outbox.SendTo.{SendTo}
use Rattle.job_types.specs.declared.outbox.SendTo.TheVariants.{Queue, Outside}
use Rattle.job_types.specs.declared.outcome.JobDone.{JobDone}
use Rattle.job_types.specs.declared.outcome.Outcome.{Outcome}
use Rattle.job_types.specs.declared.outcome.Outcome.TheVariants.{Ended, Faulted}
use Rattle.job_types.specs.Forlopps.{is_dead}
use Rattle.exchange_model.specs.declared.exchange.Exchange.{Exchange}
use Rattle.source_meaning.specs.Arrivals.{arrivals, arrivals_of, arrives, comes, forlopp_for}
use Rattle.source_meaning.specs.Arrivals.{is_due}
use Rattle.source_meaning.specs.Retirement.{all_delivered, delivered, delivered_to, keeps_chain}
use Rattle.source_meaning.specs.Retirement.{retires, with_outcome, with_sends}
use Rattle.source_meaning.specs.State.{Coming, State, has_stopped}
use Rattle.run_books.proofs.Arriving.{noted}

delivered_ended : (to : SendTo) (f : ℕ) (vs : List ℕ) (s : State) → (delivered_to to f vs s).ended ≡ s.ended
delivered_ended (Outside signal) f vs s = refl
delivered_ended (Queue entry level true) f vs s = refl
delivered_ended (Queue entry level false) f vs s = refl

sends_ended : (f : ℕ) (ms : List Sent) (s : State) → (all_delivered f ms s).ended ≡ s.ended
sends_ended f [] s = refl
sends_ended f (m ∷ rest) s = sends_ended f rest (delivered f m s) ∙ delivered_ended m.to f m.values s

chain_ended : (n : ℕ) (chain : List Held) (s : State) → (keeps_chain n chain s).ended ≡ s.ended
chain_ended zero chain s = refl
chain_ended (suc n) chain s = refl

outcome_ended : (x : Exchange) (f : ℕ) (o : Outcome) (s : State) → (with_outcome x f o s).ended ≡ s.ended
outcome_ended x f Ended s = refl
outcome_ended x zero (Faulted g point) s = refl
outcome_ended x (suc n) (Faulted g point) s = refl

pub retired_ended : (x : Exchange) (start : JobStart) (done : JobDone) (s : State) → (retires x start done s).ended ≡ s.ended + 1
retired_ended x start done s =
    outcome_ended x start.job.forlopp done.outcome (with_sends start done s)
    ∙ chain_ended start.job.forlopp done.chain (all_delivered start.job.forlopp done.sends (record s { ended = s.ended + 1 }))
    ∙ sends_ended start.job.forlopp done.sends (record s { ended = s.ended + 1 })

comes_ended : (x : Exchange) (l : Coming) (f : ℕ) (s : State) → (comes x l f s).ended ≡ s.ended
comes_ended x l f s = by (is_dead s.dead f) refl
  where
    by : (b : Bool) → is_dead s.dead f ≡ b → (comes x l f s).ended ≡ s.ended
    by true is = rw is refl
    by false is = rw is refl

lines_ended : (x : Exchange) (ls : List Coming) (s : State) → (arrivals_of x ls s).ended ≡ s.ended
unfolding arrivals_of
lines_ended x [] s = refl
lines_ended x (l ∷ rest) s = by (is_due l s) (lines_ended x rest (arrives x l rest s)
    ∙ comes_ended x l (forlopp_for l.origin s) (noted l rest (forlopp_for l.origin s) s))
  where
    by : (b : Bool) → (arrivals_of x rest (arrives x l rest s)).ended ≡ s.ended → (if b then arrivals_of x rest (arrives x l rest s) else s).ended ≡ s.ended
    by true more = more
    by false more = refl

pub arrivals_ended : (x : Exchange) (s : State) → (arrivals x s).ended ≡ s.ended
arrivals_ended x s = by (has_stopped s) (lines_ended x s.lines s)
  where
    by : (b : Bool) → (arrivals_of x s.lines s).ended ≡ s.ended → (if b then s else arrivals_of x s.lines s).ended ≡ s.ended
    by true more = refl
    by false more = more
