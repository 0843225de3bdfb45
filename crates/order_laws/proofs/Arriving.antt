-- When nothing arrives, and what an arrival leaves as it is.
use Rattle.std.proofs.Common.{◌≡◌, ℕ, ◌+◌, ◌≤◌, Bool, true, false, List, [], ◌∷◌, ◌++◌, Some, refl}
use Rattle.std.proofs.Common.{sym, ap, subst, ◌∙◌, arith}
use Rattle.std.proofs.lemmas.Bool.{lt-leb}
use Rattle.std.specs.Prelude.{is_none, ◌||◌, if◌then◌else◌}
use Rattle.job_types.specs.declared.job.Job.{Job}
use Rattle.job_types.specs.Forlopps.{is_dead}
use Rattle.job_types.specs.Waiting.{joins, pick}
use Rattle.exchange_model.specs.declared.exchange.Exchange.{Exchange}
use Rattle.source_meaning.specs.Arrivals.{arrivals, arrivals_of, arrives, comes, forlopp_for}
use Rattle.source_meaning.specs.Arrivals.{is_due, is_quiet, next_after}
use Rattle.exchange_model.specs.Names.{level_of}
use Rattle.source_meaning.specs.State.{State, Coming, Lost, has_stopped}
use Rattle.order_laws.specs.Keeps.{ArrivalsKeep, NoLineBefore, NoneDue}
use Rattle.order_laws.proofs.Placing.{placed_join}

-- nothing is due

not_due : (s : State) (j : Job) (l : Coming) → pick s.waiting ≡ Some j → s.ended + 1 ≤ l.after → is_due l s ≡ false
not_due s j l e few =
    ap (λ b. b || is_quiet s.waiting) (lt-leb l.after s.ended (omega arith))
    ∙ ap (λ o. false || is_none o) e

lines_quiet : (x : Exchange) (s : State) (j : Job) (lines : List Coming) → pick s.waiting ≡ Some j
    → NoLineBefore (s.ended + 1) lines → arrivals_of x lines s ≡ s
unfolding arrivals_of
lines_quiet x s j [] e few = refl
lines_quiet x s j (l ∷ rest) e few = ap (λ b. if b then arrivals_of x rest (arrives x l rest s) else s) (not_due s j l e few)

pub arrivals_quiet : (x : Exchange) (s : State) (j : Job) → pick s.waiting ≡ Some j → NoLineBefore (s.ended + 1) s.lines → arrivals x s ≡ s
arrivals_quiet x s j e few = by (has_stopped s)
  where
    by : (stopped : Bool) → (if stopped then s else arrivals_of x s.lines s) ≡ s
    by true = refl
    by false = lines_quiet x s j s.lines e few

pub arrivals_stopped : (x : Exchange) (s : State) → has_stopped s ≡ true → arrivals x s ≡ s
arrivals_stopped x s stopped = ap (λ b. if b then s else arrivals_of x s.lines s) stopped

-- where no line is due, and after arrivals none is

lines_idle : (x : Exchange) (s : State) (lines : List Coming) → NoneDue lines s → arrivals_of x lines s ≡ s
unfolding arrivals_of
lines_idle x s [] none = refl
lines_idle x s (l ∷ rest) none = ap (λ b. if b then arrivals_of x rest (arrives x l rest s) else s) none

pub arrivals_idle : (x : Exchange) (s : State) → NoneDue s.lines s → arrivals x s ≡ s
arrivals_idle x s none = by (has_stopped s)
  where
    by : (stopped : Bool) → (if stopped then s else arrivals_of x s.lines s) ≡ s
    by true = refl
    by false = lines_idle x s s.lines none

come_left : (x : Exchange) (l : Coming) (forlopp : ℕ) (s : State) → (comes x l forlopp s).lines ≡ s.lines
come_left x l forlopp s = by (is_dead s.dead forlopp)
  where
    by : (dead : Bool) → (if dead then record s { events = s.events ++ Lost l.number ∷ [] }
        else record s {
          waiting = joins (record
              { entry = l.entry; level = level_of x l.entry; values = l.values; forlopp = forlopp }) s.waiting;
        }).lines
        ≡ s.lines
    by true = refl
    by false = refl

arrive_left : (x : Exchange) (l : Coming) (rest : List Coming) (s : State) → (arrives x l rest s).lines ≡ rest
arrive_left x l rest s =
    let f = forlopp_for l.origin s in
    come_left x l f (record s { lines = rest; next = next_after l.origin s.next; arrived = s.arrived ++ record { line = l; forlopp = f } ∷ [] })

lines_settle : (x : Exchange) (lines : List Coming) (s : State) → s.lines ≡ lines → NoneDue (arrivals_of x lines s).lines (arrivals_of x lines s)
unfolding arrivals_of
lines_settle x [] s is = subst (λ ls. NoneDue ls s) (sym is) tt
lines_settle x (l ∷ rest) s is = by (is_due l s) refl (lines_settle x rest (arrives x l rest s) (arrive_left x l rest s))
  where
    by : (due : Bool) → is_due l s ≡ due → NoneDue (arrivals_of x rest (arrives x l rest s)).lines (arrivals_of x rest (arrives x l rest s))
        → NoneDue (if due then arrivals_of x rest (arrives x l rest s) else s).lines (if due then arrivals_of x rest (arrives x l rest s) else s)
    by true due more = more
    by false due more = subst (λ ls. NoneDue ls s) (sym is) due

pub arrivals_settle : (x : Exchange) (s : State) → has_stopped s ≡ false → NoneDue (arrivals x s).lines (arrivals x s)
arrivals_settle x s going = subst (λ t. NoneDue t.lines t) (sym (ap (λ b. if b then s else arrivals_of x s.lines s) going)) (lines_settle x s.lines s refl)

-- what is kept

keep_then : {s t u : State} → ArrivalsKeep s t → ArrivalsKeep t u → ArrivalsKeep s u
keep_then one more = record {
  store = more.store ∙ one.store;
  chains = more.chains ∙ one.chains;
  dead = more.dead ∙ one.dead;
  ended = more.ended ∙ one.ended;
  restarts = more.restarts ∙ one.restarts;
  placed = λ h. more.placed (one.placed h);
}

keep_all : (s : State) → ArrivalsKeep s s
keep_all s = record { store = refl; chains = refl; dead = refl; ended = refl; restarts = refl; placed = λ h. h }

come_keeps : (x : Exchange) (l : Coming) (forlopp : ℕ) (s : State) → ArrivalsKeep s (comes x l forlopp s)
come_keeps x l forlopp s = by (is_dead s.dead forlopp)
  where
    by : (dead : Bool) → ArrivalsKeep s (if dead then record s { events = s.events ++ Lost l.number ∷ [] }
        else record s {
          waiting = joins (record
              { entry = l.entry; level = level_of x l.entry; values = l.values; forlopp = forlopp }) s.waiting;
        })
    by true = record { store = refl; chains = refl; dead = refl; ended = refl; restarts = refl; placed = λ h. h }
    by false = record {
      store = refl;
      chains = refl;
      dead = refl;
      ended = refl;
      restarts = refl;
      placed = λ h. placed_join (record {
        entry = l.entry;
        level = level_of x l.entry;
        values = l.values;
        forlopp = forlopp;
      }) s.waiting h;
    }

arrive_keeps : (x : Exchange) (l : Coming) (rest : List Coming) (s : State) → ArrivalsKeep s (arrives x l rest s)
arrive_keeps x l rest s =
    let f = forlopp_for l.origin s in
    let t : State = record s { lines = rest; next = next_after l.origin s.next; arrived = s.arrived ++ record { line = l; forlopp = f } ∷ [] } in
    let one : ArrivalsKeep s t = record { store = refl; chains = refl; dead = refl; ended = refl; restarts = refl; placed = λ h. h } in
    keep_then one (come_keeps x l f t)

lines_keep : (x : Exchange) (lines : List Coming) (s : State) → ArrivalsKeep s (arrivals_of x lines s)
unfolding arrivals_of
lines_keep x [] s = keep_all s
lines_keep x (l ∷ rest) s = by (is_due l s) (keep_then (arrive_keeps x l rest s) (lines_keep x rest (arrives x l rest s)))
  where
    by : (due : Bool) → ArrivalsKeep s (arrivals_of x rest (arrives x l rest s)) → ArrivalsKeep s (if due then arrivals_of x rest (arrives x l rest s) else s)
    by true more = more
    by false more = keep_all s

pub arrivals_keep : (x : Exchange) (s : State) → ArrivalsKeep s (arrivals x s)
arrivals_keep x s = by (has_stopped s)
  where
    by : (stopped : Bool) → ArrivalsKeep s (if stopped then s else arrivals_of x s.lines s)
    by true = keep_all s
    by false = lines_keep x s.lines s
