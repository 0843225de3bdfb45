-- The books of an exchange do not depend on the stored words.
use Rattle.std.proofs.Common.{◌≡◌, ℕ, zero, suc, ◌+◌, Bool, true, false, List, [], ◌∷◌, ◌++◌, refl}
use Rattle.std.proofs.Common.{ap, ◌∙◌}
use Rattle.std.specs.Prelude.{if◌then◌else◌}
use Rattle.job_types.specs.declared.chain.Held.{Held}
use Rattle.job_types.specs.declared.job.JobStart.{JobStart}
use Rattle.job_types.specs.declared.outbox.Sent.{Sent}
use Rattle.job_types.specs.declared.outbox.SendTo.{SendTo}
use Rattle.job_types.specs.declared.outbox.SendTo.TheVariants.{Queue, Outside}
use Rattle.job_types.specs.declared.outcome.JobDone.{JobDone}
use Rattle.job_types.specs.declared.outcome.Outcome.{Outcome}
use Rattle.job_types.specs.declared.outcome.Outcome.TheVariants.{Ended, Faulted}
use Rattle.job_types.specs.Forlopps.{chain_at, is_dead}
use Rattle.job_types.specs.Own.{untouched}
use Rattle.job_types.specs.Waiting.{joins}
use Rattle.job_types.proofs.ChainMaps.{chain_same}
use Rattle.exchange_model.specs.declared.exchange.Exchange.{Exchange}
use Rattle.source_meaning.specs.Arrivals.{arrivals, arrivals_of, arrives, comes, forlopp_for}
use Rattle.source_meaning.specs.Arrivals.{is_due, next_after}
use Rattle.exchange_model.specs.Names.{level_of}
use Rattle.source_meaning.specs.Retirement.{all_delivered, delivered, delivered_to, keeps_chain}
use Rattle.source_meaning.specs.Retirement.{release_world, restart_world, retires, with_outcome}
use Rattle.source_meaning.specs.State.{State, Coming, Origin, Fresh, Bare, Same, Lost, has_stopped}
use Rattle.order_laws.specs.Ends.{words_left}
use Rattle.order_laws.proofs.Delivering.{sends_keep}
use Rattle.job_types.proofs.ChainMaps.{chain_same}

-- the state with these words
abbrev pub over : List ℕ → State → State
over words s = record s { store = words }

-- retirements

send_over : (to : SendTo) (forlopp : ℕ) (values words : List ℕ) (s : State)
    → delivered_to to forlopp values (over words s) ≡ over words (delivered_to to forlopp values s)
send_over (Outside signal) forlopp values words s = refl
send_over (Queue entry level true) forlopp values words s = refl
send_over (Queue entry level false) forlopp values words s = refl

sends_over : (forlopp : ℕ) (sends : List Sent) (words : List ℕ) (s : State)
    → all_delivered forlopp sends (over words s) ≡ over words (all_delivered forlopp sends s)
sends_over forlopp [] words s = refl
sends_over forlopp (m ∷ rest) words s =
    ap (all_delivered forlopp rest) (send_over m.to forlopp m.values words s)
    ∙ sends_over forlopp rest words (delivered forlopp m s)

chain_over : (forlopp : ℕ) (chain : List Held) (words : List ℕ) (s : State)
    → keeps_chain forlopp chain (over words s) ≡ over words (keeps_chain forlopp chain s)
chain_over zero chain words s = refl
chain_over (suc n) chain words s = refl

-- with the chains as they are when the outcome takes effect
outcome_over : (x : Exchange) (forlopp : ℕ) (o : Outcome) (words : List ℕ) (s : State)
    → with_outcome x forlopp o (over words s) ≡ over (words_left x forlopp o (chain_at s.chains forlopp) s.chains words) (with_outcome x forlopp o s)
outcome_over x forlopp Ended words s = refl
outcome_over x zero (Faulted f point) words s = refl
outcome_over x (suc n) (Faulted f point) words s = refl

-- they are the job's own chain, and those of before
chains_then : (x : Exchange) (forlopp : ℕ) (o : Outcome) (chain : List Held) (words : List ℕ) (s t : State) → t.chains ≡ s.chains
    → words_left x forlopp o (chain_at (keeps_chain forlopp chain t).chains forlopp)
    (keeps_chain forlopp chain t).chains words ≡ words_left x forlopp o chain s.chains words
chains_then x forlopp Ended chain words s t same = refl
chains_then x zero (Faulted f point) chain words s t same = ap (λ m. (restart_world x m (untouched words)).store) same
chains_then x (suc n) (Faulted f point) chain words s t same = ap (λ c. (release_world x c (untouched words)).store) (chain_same t.chains (suc n) chain)

pub retire_over : (x : Exchange) (start : JobStart) (done : JobDone) (s : State) (words : List ℕ)
    → retires x start done (over words s) ≡ over (words_left x start.job.forlopp done.outcome done.chain s.chains words) (retires x start done s)
retire_over x start done s words =
    let f = start.job.forlopp in
    let t : State = record s { ended = s.ended + 1 } in
    let u = all_delivered f done.sends t in
    let v = keeps_chain f done.chain u in
    ap (λ (r : State). with_outcome x f done.outcome (keeps_chain f done.chain r)) (sends_over f done.sends words t)
    ∙ ap (with_outcome x f done.outcome) (chain_over f done.chain words u)
    ∙ outcome_over x f done.outcome words v
    ∙ ap (λ vs. over vs (with_outcome x f done.outcome v)) (chains_then x f done.outcome done.chain words s u (sends_keep f done.sends t).chains)

-- arrivals

line_over : (o : Origin) (words : List ℕ) (s : State) → forlopp_for o (over words s) ≡ forlopp_for o s
line_over Fresh words s = refl
line_over Bare words s = refl
line_over (Same line) words s = refl

come_over : (x : Exchange) (l : Coming) (forlopp : ℕ) (words : List ℕ) (s : State) → comes x l forlopp (over words s) ≡ over words (comes x l forlopp s)
come_over x l forlopp words s = by (is_dead s.dead forlopp)
  where
    by : (dead : Bool) → (if dead then record (over words s) { events = s.events ++ Lost l.number ∷ [] }
        else record (over words s) {
          waiting = joins
              (record { entry = l.entry; level = level_of x l.entry; values = l.values; forlopp = forlopp }) s.waiting;
        })
        ≡ over words (if dead then record s { events = s.events ++ Lost l.number ∷ [] }
        else record s {
          waiting = joins (record
              { entry = l.entry; level = level_of x l.entry; values = l.values; forlopp = forlopp }) s.waiting;
        })
    by true = refl
    by false = refl

-- the line has arrived, and its job has not joined yet
abbrev noted : Coming → List Coming → ℕ → State → State
noted l rest forlopp s = record s { lines = rest; next = next_after l.origin s.next; arrived = s.arrived ++ record { line = l; forlopp = forlopp } ∷ [] }

arrive_over : (x : Exchange) (l : Coming) (rest : List Coming) (words : List ℕ) (s : State) → arrives x l rest (over words s) ≡ over words (arrives x l rest s)
arrive_over x l rest words s =
    ap (λ f. comes x l f (noted l rest f (over words s))) (line_over l.origin words s)
    ∙ come_over x l (forlopp_for l.origin s) words (noted l rest (forlopp_for l.origin s) s)

lines_over : (x : Exchange) (lines : List Coming) (words : List ℕ) (s : State) → arrivals_of x lines (over words s) ≡ over words (arrivals_of x lines s)
unfolding arrivals_of
lines_over x [] words s = refl
lines_over x (l ∷ rest) words s = by (is_due l s) (ap (arrivals_of x rest) (arrive_over x l rest words s) ∙ lines_over x rest words (arrives x l rest s))
  where
    by : (due : Bool) → arrivals_of x rest (arrives x l rest (over words s)) ≡ over words (arrivals_of x rest (arrives x l rest s))
        → (if due then arrivals_of x rest (arrives x l rest (over words s)) else over words s)
        ≡ over words (if due then arrivals_of x rest (arrives x l rest s) else s)
    by true more = more
    by false more = refl

pub arrivals_over : (x : Exchange) (s : State) (words : List ℕ) → arrivals x (over words s) ≡ over words (arrivals x s)
arrivals_over x s words = by (has_stopped s)
  where
    by : (stopped : Bool) → (if stopped then over words s else arrivals_of x s.lines (over words s))
        ≡ over words (if stopped then s else arrivals_of x s.lines s)
    by true = refl
    by false = lines_over x s.lines words s
