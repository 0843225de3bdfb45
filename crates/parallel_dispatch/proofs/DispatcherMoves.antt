-- Each move keeps the invariant of the dispatcher's state.
use Rattle.std.proofs.Common.{◌≡◌, ℕ, ◌+◌, ◌%◌, ◌^◌, ◌<◌, ◌≤◌, List, [], length, None, Some, refl}
use Rattle.std.proofs.Common.{sym, ap, ◌∙◌, subst, arith}
use Rattle.std.specs.List.{AllByRecursion}
use Rattle.plex_limits.specs.declared.limits.TheConstants.{MOST_JOBS}
use Rattle.job_types.specs.declared.job.JobStart.{JobStart}
use Rattle.machine_code.specs.Coded.{Code}
use Rattle.exchange_model.specs.declared.exchange.Exchange.{Exchange}
use Rattle.source_meaning.specs.Arrivals.{arrivals}
use Rattle.source_meaning.specs.SingleRun.{Ending, after, ending_at}
use Rattle.source_meaning.specs.State.{State}
use Rattle.source_meaning.specs.Valid.{IsValid}
use Rattle.checked.specs.Kept.{KeptSummaries}
use Rattle.order_laws.specs.Keeps.{NoLineBefore}
use Rattle.exchange_model.specs.Cells.{cell_count}
use Rattle.run_books.specs.Accounts.{Account, upcoming}
use Rattle.shared_store.specs.Loans.{unlent}
use Rattle.interleave_core.specs.declared.event.CoreEvent.{CoreEvent}
use Rattle.interleave_core.specs.Runs.{setting}
use Rattle.shared_store.specs.declared.view.Lent.{Lent}
use Rattle.shared_store.specs.Seats.{RootView, StoreId}
use Rattle.ticket_book.specs.Pages.{BookId, PenView}
use Rattle.parallel_dispatch.specs.declared.moves.Retired.{Retired}
use Rattle.exchange_run.specs.declared.turns.Standing.{Standing}
use Rattle.exchange_run.specs.Comes.{IsOnTheWay}
use Rattle.parallel_dispatch.specs.declared.dispatcher.Rested.{Rested}
use Rattle.parallel_dispatch.specs.declared.dispatcher.StoredRun.{StoredRun}
use Rattle.parallel_dispatch.specs.DispatcherStates.{IsDispatcherState}
use Rattle.parallel_dispatch.specs.Ends.{AreLedTo, EndsAs, IsRunRest}
use Rattle.parallel_dispatch.specs.Events.{IsIssued, IsLed, IsReached}
use Rattle.parallel_dispatch.specs.Flying.{Fly, starts_of}
use Rattle.parallel_dispatch.specs.Moves.{AreCounted, AreOf, Flying, HasSummary, HasTurned}
use Rattle.parallel_dispatch.specs.Moves.{MayBegin, StandBeside}
use Rattle.parallel_dispatch.specs.Windows.{View}
use Rattle.parallel_dispatch.proofs.Reaching.{reached_ended, reached_issue, reached_led}
use Rattle.parallel_dispatch.proofs.Reaching.{reached_rests, reached_turn}
use Rattle.parallel_dispatch.proofs.Standing.{all_summaries, next_summary, none_lent, stand_begin}
use Rattle.parallel_dispatch.proofs.Standing.{stand_line, stand_some}

-- the first state is valid
pub begins_valid : (x : Exchange) (store : StoreId) (book : BookId) (first : State) (limit : ℕ) (pen : PenView)
    (run : StoredRun) → MayBegin x store book first limit pen run → IsValid x first
begins_valid x store book first limit pen run may = subst (IsValid x) may.first_is may.start.valid

module _ (x : Exchange) (k : KeptSummaries) (code : Code) (store : StoreId) (workers : ℕ) (first : State) (limit : ℕ) where
  abbrev Here : Account → RootView → View → ℕ → Type 0
  Here books root w steps = IsDispatcherState x k code store workers first limit books root w steps

  module _ (o : AreOf x code k) where
    -- ## The first state

    pub state_opened : (y : Exchange) → y ≡ x → (book : BookId) (pen : PenView) (b : StoredRun)
        → MayBegin x store book first limit pen b → (books : Account)
        → books ≡ record b.books { state = arrivals y b.books.state } → (own : ℕ) → own ≡ workers → 0 < own → (w : View)
        → w ≡ record { loans = []; room = own; flown = pen.1 } → Here books b.root w 0
    state_opened y exchange_is book pen b may books is own workers_are some w window_is =
        let here : books ≡ record b.books { state = arrivals x b.books.state } = is
        ∙ ap (λ e. record b.books { state = arrivals e b.books.state }) exchange_is in
        let stand = stand_begin x k code o.exchange o.checked o.true_of workers limit b.books books b.root.1
        (ap (λ (r : RootView). r.1) may.start.root) may.start.nobody may.limit_is may.start.valid here in
        let none : pen.1 ≡ 0 = ap (λ (p : PenView). p.1) may.pen_is in
        subst (λ (v : View). Here books b.root v 0) (sym window_is) (record {
          reached = subst (λ (t : State). IsReached x k code workers t limit books b.root.1 [] 0) may.first_is stand;
          home = ap (λ (r : RootView). r.0) may.start.root;
          room = workers_are;
          some = subst (λ n. 0 < n) workers_are some;
          counted = record { flown = omega (arith, none); limited = subst (λ (a : Account). a.limit ≤ MOST_JOBS) (sym here) may.start.limit };
        })

    -- ## A move

    module _ (books : Account) (root : RootView) (w : View) (steps : ℕ) (h : Here books root w steps) where
      pub state_flies : Flying x k books root w
      state_flies = (after x first h.reached.retired, h.reached.fly)

      -- the books passed to a call are the dispatcher's
      state_same : (old : Account) → old ≡ books → Here old root w steps
      state_same old is = subst (λ (b : Account). Here b root w steps) (sym is) h

      pub state_stands : (old : Account) → old ≡ books → StandBeside x k store old root w
      state_stands old is = subst (λ (b : Account). StandBeside x k store b root w) (sym is)
          (record { home = h.home; counted = h.counted; flying = state_flies })

      pub state_issued : (old next : Account) (now : RootView) (v : View) → old ≡ books
          → IsIssued (setting x code k w.room) old root.1 w.loans next now.1 v.loans → next.limit ≡ old.limit
          → ((s : State) → Fly x k s old root.1 w.loans → Fly x k s next now.1 v.loans) → now.0 ≡ store
          → v.room ≡ w.room → AreCounted next v → Here next now v steps
      state_issued old next now v is issue limit_is fly home room counted = record {
        reached = reached_issue x k code workers first limit old next root.1 now.1 w.loans v.loans steps (state_same old is).reached
            (subst (λ n. IsIssued (setting x code k n) old root.1 w.loans next now.1 v.loans) h.room issue)
            limit_is
            fly;
        home = home;
        room = room ∙ h.room;
        some = h.some;
        counted = counted;
      }

      pub state_turned : (events : ℕ → ℕ → List CoreEvent) (old next : Account) (left : Retired) (v : View) (total : ℕ)
          → old ≡ books → HasTurned x k code store events old root.1 w next left v
          → total ≡ (steps + left.steps) % 2 ^ 64 → Here next left.root v total
      state_turned events old next left v total is t sum = record {
        reached = reached_turn x k code workers first limit events old next root.1 left.root.1 w.loans v.loans steps
            left.steps total (state_same old is).reached
            (subst (λ n. IsLed (setting x code k n) events old root.1 w.loans next left.root.1 v.loans left.steps) h.room t.led)
            t.limit t.fly t.steps sum;
        home = t.home;
        room = t.room ∙ h.room;
        some = h.some;
        counted = t.counted;
      }

      -- ## The next move

      pub state_line : (w.loans ≡ [] → ending_at books.limit books.state ≡ None) → w.loans ≡ [] → NoLineBefore (books.state.ended + 1) books.state.lines
      state_line goes = stand_line x k code o.exchange o.checked o.true_of workers limit first books root.1 w.loans steps goes h.reached

      pub state_next : (m : KeptSummaries) → m ≡ k → (start : JobStart) → Some start ≡ upcoming books → HasSummary m start
      state_next m is start next = subst (λ n. HasSummary n start) (sym is)
          (next_summary x k code o.exchange o.checked o.true_of workers limit first books root.1 w.loans start steps
          h.reached next)

      pub state_window : (m : KeptSummaries) → m ≡ k → AllByRecursion (HasSummary m) (starts_of w.loans)
      state_window m is = subst (λ n. AllByRecursion (HasSummary n) (starts_of w.loans)) (sym is)
          (all_summaries x k code o.exchange o.checked o.true_of workers limit first books root.1
          (after x first h.reached.retired) w.loans h.reached.fly.lent)

      pub state_some : (w.loans ≡ [] → ending_at books.limit books.state ≡ None) → (w.loans ≡ [] → None ≡ upcoming books) → 0 < length w.loans
      state_some goes none = stand_some x k code o.exchange o.checked o.true_of workers limit first books root.1 w.loans steps goes none h.reached

      -- ## The end

      module _ (none : w.loans ≡ []) where
        over_here : IsReached x k code workers first limit books root.1 [] steps
        over_here = subst (λ (ls : List Lent). IsReached x k code workers first limit books root.1 ls steps) none h.reached

        -- the root has no loans
        pub state_bare : root.1 ≡ unlent root.1.values
        state_bare = none_lent x k code o.exchange o.checked o.true_of workers limit first books root.1 steps over_here

        module _ (valid : IsValid x first) (e : Ending) (over : Some e ≡ ending_at books.limit books.state) where
          state_ends : EndsAs x code first limit books.state root.1.values e steps
          state_ends = reached_ended x k code workers first limit o.exchange o.faithful o.checked valid books root.1 e steps over over_here

          pub state_over : (run : Rested) → run.there.books ≡ books → run.there.words ≡ root.1.values
              → run.steps ≡ steps → EndsAs x code first limit run.there.books.state run.there.words e run.steps
          state_over run books_are words_are steps_are =
              subst (λ (z : Account × (List ℕ × ℕ)). EndsAs x code first limit z.0.state z.1.0 e z.1.1)
              (λ i. (sym books_are i, (sym words_are i, sym steps_are i))) state_ends

        -- ## A run that is handed back

        module _ (valid : IsValid x first) where
          state_way : (run : Standing) → run.books ≡ books → run.words ≡ root.1.values → IsOnTheWay x first limit run
          state_way run books_are words_are = reached_rests x k code workers first limit o.exchange o.faithful o.checked
              valid books root.1 steps over_here run books_are words_are

          -- there is a word for each cell
          pub rest_cells : (cells : ℕ) → cells ≡ cell_count x.blocks → length root.1.values ≡ cells
          rest_cells cells is =
              let way = state_way (record { books = books; words = root.1.values }) refl refl in
              way.may.valid.store.whole ∙ o.exchange.numbered.cells ∙ sym is

          pub state_rests : (run : Rested) → run.there.books ≡ books → run.there.words ≡ root.1.values
              → run.steps ≡ steps → IsRunRest x code k workers first limit run
          state_rests run books_are words_are steps_are =
              let led : AreLedTo (setting x code k workers) first limit books.state root.1.values steps =
              reached_led x k code workers first limit books root.1 steps over_here in
              record {
                way = state_way run.there books_are words_are;
                led = subst (λ (z : Account × (List ℕ × ℕ)). AreLedTo (setting x code k workers) first limit z.0.state
                    z.1.0 z.1.1) (λ i. (sym books_are i, (sym words_are i, sym steps_are i))) led;
              }
