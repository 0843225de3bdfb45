-- Without jobs in flight, books and root are those of the state, and the next job may run alone.
use Rattle.std.proofs.Common.{inl, ◌≡◌, ℕ, ◌+◌, ◌<◌, ◌≤◌, List, [], ◌∷◌, Some, None, refl, sym, ap}
use Rattle.std.proofs.Common.{◌∙◌, subst, arith}
use Rattle.plex_limits.specs.declared.limits.TheConstants.{MOST_JOBS}
use Rattle.machine_code.specs.Coded.{Code}
use Rattle.exchange_model.specs.declared.exchange.Exchange.{Exchange}
use Rattle.exchange_model.specs.Kept.{IsExchange}
use Rattle.store_layout.specs.Laid.{IsLayout}
use Rattle.source_meaning.specs.SingleRun.{ending_at, next_start, turn}
use Rattle.source_meaning.specs.State.{State}
use Rattle.source_meaning.specs.Valid.{IsValid}
use Rattle.source_meaning.proofs.Retiring.{turn_valid}
use Rattle.checked.specs.Kept.{IsChecked, KeptSummaries}
use Rattle.order_laws.specs.Books.{AreAhead}
use Rattle.order_laws.specs.Keeps.{NoLineBefore}
use Rattle.order_laws.proofs.Following.{ahead_none}
use Rattle.order_laws.proofs.Wording.{over}
use Rattle.machine_meaning.specs.Faithful.{Ends, Faithful, begun, started}
use Rattle.run_books.specs.Accounts.{Account, after_start, with_words}
use Rattle.exchange_run.proofs.Turning.{goes_on, turn_ended, turn_starts}
use Rattle.interleave_core.specs.Runs.{setting}
use Rattle.shared_store.specs.declared.view.Lent.{Lent}
use Rattle.shared_store.specs.declared.view.Top.{Top}
use Rattle.shared_store.specs.Loans.{Has, lender, lent}
use Rattle.shared_store.specs.Seats.{StoreId, no_permit}
use Rattle.lone_job.specs.declared.context.RunContext.{RunContext}
use Rattle.lone_job.specs.Contexts.{IsContext}
use Rattle.lone_job.specs.Turns.{HasTurnedAlone, MayTurn, arrived}
use Rattle.ticket_book.specs.Pages.{BookId}
use Rattle.worker_pool.specs.declared.means.Means.{Means}
use Rattle.parallel_dispatch.specs.declared.moves.Retired.{Retired}
use Rattle.parallel_dispatch.specs.Flying.{Fly}
use Rattle.parallel_dispatch.specs.Made.{JobMakes}
use Rattle.parallel_dispatch.specs.Events.{IsLed, whole_turn}
use Rattle.parallel_dispatch.specs.Moves.{AreCounted, HasTurned, MayRunAlone, Suits, to_do}
use Rattle.parallel_dispatch.specs.Windows.{View}
use Rattle.parallel_dispatch.proofs.Events.{is_issued, issue_then_turn, turn_led}

-- ## No job is in flight

-- the state is that of the books
pub state_is : (x : Exchange) (k : KeptSummaries) (s : State) (books : Account) (top : Top) → Fly x k s books top [] → with_words books.state top.values ≡ s
state_is x k s books top fly = ap (with_words books.state) fly.values ∙ fly.ahead.same

-- the root has no loans
pub bare_of : (x : Exchange) (k : KeptSummaries) (s : State) (books : Account) (top : Top) → Fly x k s books top [] → top.loans ≡ []
bare_of x k s books top fly = by top.loans fly.listed
  where
    by : (ls : List Lent) → ((l : Lent) → Has ls l → ⊥) → ls ≡ []
    by [] none = refl
    by (l ∷ rest) none = absurd (none l (inl refl))

pub fly_none : (x : Exchange) (k : KeptSummaries) (s : State) (books : Account) (top : Top) → IsValid x s
    → with_words books.state top.values ≡ s → books.running ≡ 0 → top.loans ≡ [] → Fly x k s books top []
fly_none x k s books top valid same nobody bare = record {
  valid = valid;
  values = ap (λ (t : State). t.store) same;
  ahead = subst (AreAhead x s []) (sym (ap (over s.store) same)) (ahead_none x s s.store);
  running = nobody;
  within = tt;
  lent = tt;
  pass = tt;
  listed = λ l has. subst (λ ls. Has ls l) bare has;
}

-- ## The next job runs alone

-- a context that belongs to these parts is a valid context
pub context_fits : {x : Exchange} {o : Code} {s : StoreId} {b : BookId} {k : KeptSummaries} {w : ℕ} {c : RunContext}
    {m : Means} {book : BookId} → Suits x o s b k w c m book → IsContext c
context_fits {c = c} u = record {
  laid = subst (λ (y : Exchange). IsLayout y.blocks c.layout.now) (sym u.exchange) u.laid;
  faithful = subst (λ (z : Exchange × Code). Faithful z.0 z.1) (λ i. (sym u.exchange i, sym u.code i)) u.set.faithful;
  checked = subst (λ (z : Exchange × KeptSummaries). IsChecked z.0 z.1) (λ i. (sym u.exchange i, sym u.kept i)) u.set.checked;
  some = u.some;
}

pub may_turn : (x y : Exchange) (k : KeptSummaries) (books : Account) (top : Top) (w : View) → y ≡ x
    → MayRunAlone books w → ending_at books.limit books.state ≡ None → books.limit ≤ MOST_JOBS
    → (s : State) × Fly x k s books top w.loans → MayTurn y books top
may_turn x y k books top w same may goes most flying =
    let here : (s : State) × Fly y k s books top [] = subst
    (λ (z : Exchange × List Lent). (s : State) × Fly z.0 k s books top z.1) (λ i. (sym same i, may.nobody i)) flying
    in
    record {
      turn = record {
        nobody = here.1.running;
        goes_on = goes;
        valid = subst (IsValid y) (sym (state_is y k here.0 books top here.1)) here.1.valid;
      };
      limited = most;
      bare = bare_of y k here.0 books top here.1;
    }

module _ (x : Exchange) (k : KeptSummaries) (code : Code) (kept : IsExchange x) (books : Account) (top : Top)
    (goes : ending_at books.limit books.state ≡ None) (nobody : books.running ≡ 0) (last : Account) (left : Retired)
    (t : HasTurnedAlone x code books top last left.root.1 left.steps) where
  makes_alone : (s : State) → Fly x k s books top [] → JobMakes code s left.steps
  makes_alone s fly = record {
    start = t.start;
    next = subst (λ (u : State). next_start u ≡ Some t.start) (state_is x k s books top fly) (turn_starts books t.start t.is_next nobody goes);
    runs = record {
      end = t.end;
      ends = subst (λ words. Ends code.ops (begun (started code t.start) words) t.end) fly.values t.ends;
      made_is = t.made;
    };
  }

  gone_alone : (s : State) → Fly x k s books top [] → Fly x k (turn x s) last left.root.1 []
  gone_alone s fly =
      fly_none x k (turn x s) last left.root.1 (turn_valid x kept s fly.valid) (t.turn.state ∙ ap (turn x) (state_is x k s books top fly)) t.turn.nobody t.bare

  one_ended : last.state.ended ≡ books.state.ended + 1
  one_ended = ap (λ (s : State). s.ended) t.turn.state ∙ turn_ended x (with_words books.state top.values) books.limit goes

  counted_alone : (w v : View) → v ≡ w → AreCounted books w → AreCounted last v
  counted_alone w v same c =
      let were = c.flown in
      let most = c.limited in
      let ended = one_ended in
      let before = nobody in
      let flown : v.flown ≡ w.flown = ap (λ (u : View). u.flown) same in
      record { flown = omega (arith, were, ended, before, flown); limited = subst (λ m. m ≤ MOST_JOBS) (sym t.turn.limit) most }

  fewer_alone : to_do last < to_do books
  fewer_alone =
      let few = (goes_on books.limit books.state goes).few in
      let ended = one_ended in
      let runs = t.turn.nobody in
      let before = nobody in
      let limit = t.turn.limit in
      omega (arith, few, ended, runs, before, limit)

  -- its events are Issue, the Steps of its instructions, and Retire
  led_alone : (workers : ℕ) → 0 < workers → NoLineBefore (books.state.ended + 1) books.state.lines
      → IsLed (setting x code k workers) whole_turn books top [] last left.root.1 [] left.steps
  led_alone workers some line =
      let mid_books = after_start (Some t.start) books in
      let lends = lender t.start no_permit top in
      let loan = lent top t.start no_permit in
      let count : books.state.ended + 1 ≡ books.state.ended + 0 + 1 = omega arith in
      let last_is : last ≡ record t.settled { state = arrived x t.settled.running t.settled.state } = t.arrived
      ∙ sym (ap (λ m. record t.settled { state = arrived x m t.settled.state }) t.nobody) in
      let issue = is_issued x code k workers books top [] t.start no_permit nobody t.is_next some
      (subst (λ m. NoLineBefore m books.state.lines) count line) tt in
      let turn = turn_led x code k workers mid_books lends t.start [] t.end t.ends t.settled left.root.1.values t.left
      t.nobody t.limit left.root.1 refl loan refl left.steps t.made in
      subst (λ b. IsLed (setting x code k workers) whole_turn books top [] b left.root.1 [] left.steps) (sym last_is)
      (issue_then_turn (setting x code k workers) books mid_books
      (record t.settled { state = arrived x t.settled.running t.settled.state }) top lends left.root.1 []
      (loan ∷ []) [] left.steps issue turn)

  pub turned_alone : (store : StoreId) (w v : View) → MayRunAlone books w → v ≡ w → left.root.0 ≡ store
      → AreCounted books w → HasTurned x k code store whole_turn books top w last left v
  turned_alone store w v may same home counted =
      let none : v.loans ≡ [] = ap (λ (u : View). u.loans) same ∙ may.nobody in
      record {
        fly = λ s fly. subst (λ ls. Fly x k (turn x s) last left.root.1 ls) (sym none) (gone_alone s (subst (λ ls. Fly x k s books top ls) may.nobody fly));
        steps = λ s fly. makes_alone s (subst (λ ls. Fly x k s books top ls) may.nobody fly);
        led = subst (λ (z : List Lent × List Lent). IsLed (setting x code k w.room) whole_turn books top z.0 last
            left.root.1 z.1 left.steps) (λ i. (sym may.nobody i, sym none i)) (led_alone w.room may.room may.line);
        home = home;
        limit = t.turn.limit;
        room = ap (λ (u : View). u.room) same;
        counted = counted_alone w v same counted;
        fewer = fewer_alone;
      }
