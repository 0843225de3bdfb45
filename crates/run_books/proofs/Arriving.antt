-- Lines arrive: the stored words are of no account there, and what is left to arrive leads to the
-- same state.
use Rattle.std.proofs.Common.{◌≡◌, ℕ, ◌<◌, Bool, true, false, List, [], ◌∷◌, ◌++◌, length, refl}
use Rattle.std.proofs.Common.{sym, ap, ◌∙◌, subst, arith, if◌then◌else◌}
use Rattle.std.specs.Prelude.{unwrap_or}
use Rattle.job_types.specs.Forlopps.{is_dead}
use Rattle.exchange_model.specs.declared.exchange.Exchange.{Exchange}
use Rattle.source_meaning.specs.Arrivals.{arrivals, arrivals_of, arrives, comes, forlopp_for}
use Rattle.source_meaning.specs.Arrivals.{is_due, next_after}
use Rattle.source_meaning.specs.State.{Bare, Coming, Fresh, Origin, Same, State, has_stopped}
use Rattle.run_books.specs.Accounts.{Account, after_arrival, after_arrivals, is_next_due}
use Rattle.run_books.specs.Accounts.{line_arrives, with_words}

-- ## The words are of no account

comes_with : (x : Exchange) (l : Coming) (f : ℕ) (s : State) (w : List ℕ) → comes x l f (with_words s w) ≡ with_words (comes x l f s) w
comes_with x l f s w = by (is_dead s.dead f) refl
  where
    by : (b : Bool) → is_dead s.dead f ≡ b → comes x l f (with_words s w) ≡ with_words (comes x l f s) w
    by true is = rw is refl
    by false is = rw is refl

-- the state in which a line has been noted that has this forlopp, and these are left
abbrev pub noted : Coming → List Coming → ℕ → State → State
noted l rest f s = record s { lines = rest; next = next_after l.origin s.next; arrived = s.arrived ++ record { line = l; forlopp = f } ∷ [] }

origin_with : (o : Origin) (s : State) (w : List ℕ) → forlopp_for o (with_words s w) ≡ forlopp_for o s
origin_with Fresh s w = refl
origin_with Bare s w = refl
origin_with (Same line) s w = refl

arrives_with : (x : Exchange) (l : Coming) (rest : List Coming) (s : State) (w : List ℕ) → arrives x l rest (with_words s w) ≡ with_words (arrives x l rest s) w
arrives_with x l rest s w =
    let f = forlopp_for l.origin s in
    ap (λ g. comes x l g (noted l rest g (with_words s w))) (origin_with l.origin s w) ∙ comes_with x l f (noted l rest f s) w

lines_with : (x : Exchange) (ls : List Coming) (s : State) (w : List ℕ) → arrivals_of x ls (with_words s w) ≡ with_words (arrivals_of x ls s) w
unfolding arrivals_of
lines_with x [] s w = refl
lines_with x (l ∷ rest) s w = by (is_due l s) (lines_with x rest (arrives x l rest s) w)
  where
    by : (b : Bool) → arrivals_of x rest (with_words (arrives x l rest s) w)
        ≡ with_words (arrivals_of x rest (arrives x l rest s)) w
        → (if b then arrivals_of x rest (arrives x l rest (with_words s w)) else with_words s w)
        ≡ with_words (if b then arrivals_of x rest (arrives x l rest s) else s) w
    by true more = ap (arrivals_of x rest) (arrives_with x l rest s w) ∙ more
    by false more = refl

pub arrivals_with : (x : Exchange) (s : State) (w : List ℕ) → arrivals x (with_words s w) ≡ with_words (arrivals x s) w
arrivals_with x s w = by (has_stopped s) (lines_with x s.lines s w)
  where
    by : (b : Bool) → arrivals_of x s.lines (with_words s w) ≡ with_words (arrivals_of x s.lines s) w
        → (if b then with_words s w else arrivals_of x s.lines (with_words s w))
        ≡ with_words (if b then s else arrivals_of x s.lines s) w
    by true more = refl
    by false more = more

-- ## One line after the other

-- the books from which lines arrive have come so far: what is left leads to the same state
pub record Arriving (x : Exchange) (old b : Account) : Type 0 where
  pub running : b.running ≡ old.running
  pub limit : b.limit ≡ old.limit
  pub goes_on : has_stopped b.state ≡ false
  pub rest : arrivals_of x b.state.lines b.state ≡ arrivals x old.state

pub arriving_begin : (x : Exchange) (b : Account) → has_stopped b.state ≡ false → Arriving x b b
arriving_begin x b goes = record {
  running = refl;
  limit = refl;
  goes_on = goes;
  rest = sym (ap (λ t. if t then b.state else arrivals_of x b.state.lines b.state) goes);
}

-- what the arrival of one line leaves
record Arrives (x : Exchange) (ls : List Coming) (s t : State) : Type 0 where
  restarts : t.restarts ≡ s.restarts
  fewer : length t.lines < length ls
  rest : arrivals_of x t.lines t ≡ arrivals_of x ls s

comes_lines : (x : Exchange) (l : Coming) (f : ℕ) (s : State) → ((comes x l f s).lines ≡ s.lines) × ((comes x l f s).restarts ≡ s.restarts)
comes_lines x l f s = by (is_dead s.dead f) refl
  where
    by : (b : Bool) → is_dead s.dead f ≡ b → ((comes x l f s).lines ≡ s.lines) × ((comes x l f s).restarts ≡ s.restarts)
    by true is = rw is (refl, refl)
    by false is = rw is (refl, refl)

one_arrives : (x : Exchange) (ls : List Coming) (s : State) → is_next_due ls s ≡ true → Arrives x ls s (unwrap_or (line_arrives x ls s) s)
unfolding arrivals_of
one_arrives x [] s due = cc
one_arrives x (l ∷ rest) s due =
    let t = arrives x l rest s in
    let kept = comes_lines x l (forlopp_for l.origin s) (noted l rest (forlopp_for l.origin s) s) in
    let lines_is : t.lines ≡ rest = kept.0 in
    let is : unwrap_or (line_arrives x (l ∷ rest) s) s ≡ t = rw due refl in
    let there : Arrives x (l ∷ rest) s t = record {
      restarts = kept.1;
      fewer = (let n = ap length lines_is in omega (arith, n));
      rest = ap (λ ls. arrivals_of x ls t) lines_is ∙ sym (ap (λ b. if b then arrivals_of x rest t else s) due);
    } in
    subst (Arrives x (l ∷ rest) s) (sym is) there

pub arriving_more : (x : Exchange) (old b next : Account) → is_next_due b.state.lines b.state ≡ true
    → next ≡ after_arrival x b → Arriving x old b → Arriving x old next
arriving_more x old b next due is g =
    let one = one_arrives x b.state.lines b.state due in
    let there : Arriving x old (after_arrival x b) = record {
      running = g.running;
      limit = g.limit;
      goes_on = stopped b.state (after_arrival x b).state one.restarts ∙ g.goes_on;
      rest = one.rest ∙ g.rest;
    } in
    subst (Arriving x old) (sym is) there
  where
    stopped : (s t : State) → t.restarts ≡ s.restarts → has_stopped t ≡ has_stopped s
    stopped s t same = ap (λ n. has_stopped (record s { restarts = n })) same

pub arriving_fewer : (x : Exchange) (b next : Account) → is_next_due b.state.lines b.state ≡ true
    → next ≡ after_arrival x b → length next.state.lines < length b.state.lines
arriving_fewer x b next due is = subst (λ (a : Account). length a.state.lines < length b.state.lines) (sym is) (one_arrives x b.state.lines b.state due).fewer

none_arrives : (x : Exchange) (ls : List Coming) (s : State) → is_next_due ls s ≡ false → arrivals_of x ls s ≡ s
unfolding arrivals_of
none_arrives x [] s due = refl
none_arrives x (l ∷ rest) s due = ap (λ b. if b then arrivals_of x rest (arrives x l rest s) else s) due

nothing_comes : (x : Exchange) (ls : List Coming) (s : State) → is_next_due ls s ≡ false → unwrap_or (line_arrives x ls s) s ≡ s
nothing_comes x [] s due = refl
nothing_comes x (l ∷ rest) s due = rw due refl

pub arriving_end : (x : Exchange) (old b next : Account) → is_next_due b.state.lines b.state ≡ false
    → next ≡ after_arrival x b → Arriving x old b → next ≡ after_arrivals x old
arriving_end x old b next due is g =
    let same = nothing_comes x b.state.lines b.state due in
    let rest = sym (none_arrives x b.state.lines b.state due) ∙ g.rest in
    let here : after_arrival x b ≡ after_arrivals x old = λ i. record { state = (same ∙ rest) i; running = g.running i; limit = g.limit i } in
    is ∙ here

pub arriving_none : (x : Exchange) (b : Account) → has_stopped b.state ≡ true → b ≡ after_arrivals x b
arriving_none x b stopped = λ i. record {
  state = sym
      (ap (λ t. if t then b.state else arrivals_of x b.state.lines b.state) stopped) i;
  running =
      b.running;
  limit = b.limit;
}
