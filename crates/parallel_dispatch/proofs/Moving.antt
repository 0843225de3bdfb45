-- The moves, in terms of the contracts of the calls that they make.
use Rattle.std.proofs.Common.{◌≡◌, ℕ, zero, suc, ◌+◌, ◌^◌, ◌<◌, ◌≤◌, List, [], ◌∷◌, ◌++◌, length}
use Rattle.std.proofs.Common.{Option, Some, refl, sym, ap, ◌∙◌, subst, arith}
use Rattle.std.specs.Prelude.{slice_get}
use Rattle.plex_limits.specs.declared.limits.TheConstants.{MOST_JOBS}
use Rattle.job_types.specs.declared.job.JobStart.{JobStart}
use Rattle.job_types.specs.declared.outcome.JobDone.{JobDone}
use Rattle.job_types.specs.declared.touch.Touch.{Touch}
use Rattle.machine_code.specs.Coded.{Code}
use Rattle.machine_code.specs.declared.permit.Permit.{Permit}
use Rattle.exchange_model.specs.declared.exchange.Exchange.{Exchange}
use Rattle.exchange_model.specs.Kept.{IsExchange}
use Rattle.source_meaning.specs.Job.{job}
use Rattle.source_meaning.specs.Retirement.{retires}
use Rattle.source_meaning.specs.SingleRun.{turn}
use Rattle.source_meaning.specs.State.{State}
use Rattle.source_meaning.specs.Traces.{trace_of}
use Rattle.entry_summary.specs.declared.summary.Summary.{Summary}
use Rattle.checked.specs.Kept.{IsChecked, KeptSummaries}
use Rattle.order_laws.specs.Windows.{done_by}
use Rattle.machine_meaning.specs.Faithful.{started}
use Rattle.machine_meaning.specs.Private.{Private}
use Rattle.run_books.specs.Accounts.{Account, after_start, upcoming, with_words}
use Rattle.run_books.specs.Retired.{HasRetired, retired_world}
use Rattle.run_books.specs.Stores.{MayStore}
use Rattle.shared_store.specs.declared.view.Lent.{Lent}
use Rattle.shared_store.specs.declared.view.Top.{Top}
use Rattle.shared_store.specs.Loans.{FitsBeside, borrower, lender, lent, taken_back}
use Rattle.shared_store.specs.Seats.{JobView, RootView, StoreId}
use Rattle.job_runner.specs.Runs.{HasRun, IsReady}
use Rattle.job_runner.specs.Seen.{free_to_write}
use Rattle.parallel_dispatch.specs.declared.moves.Retired.{Retired}
use Rattle.parallel_dispatch.specs.Bare.{bare}
use Rattle.lone_job.specs.Turns.{arrived}
use Rattle.parallel_dispatch.specs.Flying.{Fly, starts_of}
use Rattle.parallel_dispatch.specs.Made.{JobMakes}
use Rattle.parallel_dispatch.specs.Moves.{AreCounted, Flying, HasTurned, MayFly, to_do}
use Rattle.parallel_dispatch.specs.Told.{AreTrue, IsSummaryOf}
use Rattle.parallel_dispatch.specs.Windows.{View}
use Rattle.interleave_core.specs.Runs.{setting}
use Rattle.parallel_dispatch.specs.Events.{IsIssued, IsLed}
use Rattle.parallel_dispatch.specs.Turning.{turn_of}
use Rattle.parallel_dispatch.proofs.Events.{is_issued}
use Rattle.parallel_dispatch.proofs.Reaching.{retired_led}
use Rattle.parallel_dispatch.proofs.Told.{all_pass_of}
use Rattle.parallel_dispatch.proofs.Issuing.{fits_beside, fly_more, for_job, is_job, upcoming_parts}
use Rattle.parallel_dispatch.proofs.Retiring.{Leaves, back, done_is, fly_fewer, makes}
use Rattle.parallel_dispatch.proofs.Retiring.{may_write_there, turn_ended}

-- an index below the length has an item
slice_get_there : {A : Type 0} (xs : List A) (i : ℕ) → i < length xs → (x : A) × (slice_get xs i ≡ Some x)
slice_get_there [] i lt = absurd (omega (arith, lt))
slice_get_there (x ∷ xs) zero lt = (x, refl)
slice_get_there (x ∷ xs) (suc i) lt = slice_get_there xs i (omega (arith, lt))

-- ## One more job in flight

module _ (x : Exchange) (k : KeptSummaries) (kept : IsExchange x) (checked : IsChecked x k) (true_of : AreTrue x k)
    (books : Account) (root : RootView) (w : View) (start : JobStart) (may : MayFly k books w start)
    (flying : Flying x k books root w) where
  entry_there : start.job.entry < length x.entries
  entry_there = (is_job x k kept checked true_of flying.0 books root.1 w.loans flying.1 start may.next).entry

  -- the number of the next job fits 64 bits
  pub number_fits : AreCounted books w → books.state.ended + books.running + 1 < 2 ^ 64
  number_fits counted = (let few = (upcoming_parts books start may.next).0 in let most = counted.limited in omega (arith, few, most))

  -- the kept summaries have one for the job's entry
  pub has_told : (n : Summary) × IsSummaryOf k start n
  has_told = (let entry = entry_there in let each = checked.by_facts.each_entry in slice_get_there k.summaries start.job.entry (omega (arith, entry, each)))

  pub entry_within : (code own : Code) → length x.entries ≤ length code.entries → own ≡ code → start.job.entry < length own.entries
  entry_within code own le same = subst (λ (c : Code). start.job.entry < length c.entries) (sym same) (let entry = entry_there in omega (arith, entry, le))

  module _ (n : Summary) (told : IsSummaryOf k start n) (p : Permit) (p_is : p ≡ bare (trace_of x start root.1.values)) where
    pub beside : FitsBeside root.1.loans p
    beside = fits_beside x k kept checked true_of flying.0 books root.1 w.loans flying.1 start may.next n told may.line
        (all_pass_of k start (starts_of w.loans) may.pass) p p_is

    pub ready : (code own : Code) (store : StoreId) (seat : JobView) (run : Private) → own ≡ code → root.0 ≡ store
        → seat ≡ (root.0, borrower start p root.1) → run ≡ started own start → IsReady x code store seat run
    ready code own store seat run code_is home is run_is =
        subst (λ (z : JobView). IsReady x code store z run) (sym is) (record {
          home = home;
          untouched = refl;
          run_is = run_is ∙ ap (λ (c : Code). started c start) code_is;
          loan = for_job x k kept checked true_of flying.0 books root.1 w.loans flying.1 start may.next n told may.line
              (all_pass_of k start (starts_of w.loans) may.pass) p p_is;
        })

    pub issued : (s : State) (next : Account) (o : Option JobStart) (now : Top) (loans : List Lent)
        → Fly x k s books root.1 w.loans → o ≡ upcoming books → next ≡ after_start o books → now ≡ lender start p root.1
        → loans ≡ w.loans ++ lent root.1 start p ∷ [] → Fly x k s next now loans
    issued s next o now loans fly is next_is now_is loans_are =
        let books_are : next ≡ after_start (Some start) books = next_is ∙ ap (λ u. after_start u books) (is ∙ sym may.next) in
        subst (λ (z : Account × (Top × List Lent)). Fly x k s z.0 z.1.0 z.1.1) (λ i. (sym books_are i, (sym now_is i, sym loans_are i)))
        (fly_more x k kept checked true_of s books root.1 w.loans fly start may.next n told may.line (all_pass_of k start (starts_of w.loans) may.pass) p p_is)

    -- the move is the event Issue
    pub issued_event : (code : Code) (next : Account) (o : Option JobStart) (now : Top) (loans : List Lent)
        → o ≡ upcoming books → next ≡ after_start o books → now ≡ lender start p root.1
        → loans ≡ w.loans ++ lent root.1 start p ∷ []
        → IsIssued (setting x code k w.room) books root.1 w.loans next now loans
    issued_event code next o now loans is next_is now_is loans_are =
        let books_are : next ≡ after_start (Some start) books = next_is ∙ ap (λ u. after_start u books) (is ∙ sym may.next) in
        subst (λ (z : Account × (Top × List Lent)). IsIssued (setting x code k w.room) books root.1 w.loans z.0 z.1.0
        z.1.1) (λ i. (sym books_are i, (sym now_is i, sym loans_are i)))
        (is_issued x code k w.room books root.1 w.loans start p flying.1.running may.next may.room may.line may.pass)

-- ## The oldest retires

module _ (x : Exchange) (k : KeptSummaries) (kept : IsExchange x) (checked : IsChecked x k) (true_of : AreTrue x k)
    (books : Account) (top : Top) (w : View) (l : Lent) (rest : List Lent) (loans_are : w.loans ≡ l ∷ rest)
    (code : Code) (store : StoreId) (seat : JobView) (run : Private) (has : HasRun x code store l seat run)
    (start : JobStart) (start_is : start ≡ l.start) (done : JobDone) (leaves : Leaves run done) (y : Exchange)
    (same : y ≡ x) (mid : Top) (mid_is : mid ≡ taken_back top seat.1) where
  fly_here : (s : State) → Fly x k s books top w.loans → Fly x k s books top (l ∷ rest)
  fly_here s = subst (Fly x k s books top) loans_are

  -- the loan was returned to the root
  module _ (s : State) (fly : Fly x k s books top w.loans) where
    mid_back : mid ≡ back x k kept checked true_of s books top l rest (fly_here s fly)
    mid_back = mid_is ∙ ap (λ (v : JobView). taken_back top v.1) has.seat_is

    done_here : done ≡ done_by (job x l.start s.store)
    done_here = done_is x k kept checked true_of s books top l rest (fly_here s fly) code store seat run done has leaves

    makes_here : (steps : ℕ) → steps ≡ run.made → JobMakes code s steps
    makes_here steps is = subst (JobMakes code s) (sym is) (makes x k kept checked true_of s books top l rest (fly_here s fly) code store seat run has)

    pub stores_here : MayStore (free_to_write mid) (retired_world y start done books.state mid.values).trace
    stores_here =
        subst (λ (z : (Top × JobDone) × (JobStart × Exchange)). MayStore (free_to_write z.0.0) (retired_world z.1.1 z.1.0 z.0.1 books.state z.0.0.values).trace)
        (λ i. ((sym mid_back i, sym done_here i), (sym start_is i, sym same i)))
        (may_write_there x k kept checked true_of s books top l rest (fly_here s fly))

  module _ (next last : Account) (words : List ℕ) (told now_told : Option (List Touch))
      (retired : HasRetired y start done books next mid.values words told now_told)
      (last_is : last ≡ record next { state = arrived y next.running next.state }) where
    module _ (s : State) (fly : Fly x k s books top w.loans) where
      retired_here : with_words next.state words
          ≡ retires x l.start (done_by (job x l.start s.store))
          (with_words books.state (back x k kept checked true_of s books top l rest (fly_here s fly)).values)
      retired_here = retired.state ∙ λ i. retires (same i) (start_is i) (done_here s fly i) (with_words books.state (mid_back s fly i).values)

      gone : (now : Top) (left : List Lent) → now.values ≡ words → now.loans ≡ mid.loans → left ≡ rest → Fly x k (turn x s) last now left
      gone now left values loans_same left_is =
          subst (λ (z : Account × List Lent). Fly x k (turn x s) z.0 now z.1)
          (λ i. (
            sym (last_is ∙ ap (λ e. record next { state = arrived e next.running next.state }) same) i,
            sym
                left_is i,
          ))
          (fly_fewer x k kept checked true_of s books top l rest (fly_here s fly) next words retired_here
          retired.running retired.limit now values (loans_same ∙ ap (λ (t : Top). t.loans) (mid_back s fly)))

    module _ (flying : (s : State) × Fly x k s books top w.loans) (left : Retired) (v : View)
        (values : left.root.1.values ≡ words) (loans_same : left.root.1.loans ≡ mid.loans)
        (left_is : v.loans ≡ rest) where
      one_ended : last.state.ended ≡ books.state.ended + 1
      one_ended =
          let later = gone flying.0 flying.1 left.root.1 v.loans values loans_same left_is in
          let before : books.state.ended ≡ flying.0.ended = ap (λ (t : State). t.ended) flying.1.ahead.same in
          ap (λ (t : State). t.ended) later.ahead.same
          ∙ turn_ended x k kept checked true_of flying.0 books top l rest (fly_here flying.0 flying.1)
          ∙ ap (λ n. n + 1) (sym before)

      one_fewer : last.running + 1 ≡ books.running
      one_fewer = ap (λ (b : Account). b.running + 1) last_is ∙ retired.running

      same_limit : last.limit ≡ books.limit
      same_limit = ap (λ (b : Account). b.limit) last_is ∙ retired.limit

      counted_then : v.flown ≡ w.flown → AreCounted books w → AreCounted last v
      counted_then flown c =
          let before = c.flown in
          let most = c.limited in
          let ended = one_ended in
          let runs = one_fewer in
          let limit = same_limit in
          record { flown = omega (arith, before, ended, runs, flown); limited = subst (λ n. n ≤ MOST_JOBS) (sym limit) most }

      fewer_then : to_do last < to_do books
      fewer_then =
          let ended = one_ended in
          let runs = one_fewer in
          let limit = same_limit in
          omega (arith, ended, runs, limit)

      -- its events are the Steps of its instructions, and Retire
      led_then : (workers : ℕ) → left.steps ≡ run.made → IsLed (setting x code k workers) turn_of books top w.loans last left.root.1 v.loans left.steps
      led_then workers made =
          let led = retired_led x k code workers flying.0 books top l rest (fly_here flying.0 flying.1) store seat run
          mid has mid_is done leaves next words
          (retired.state ∙ λ i. retires (same i) (start_is i) done (with_words books.state mid.values))
          retired.running retired.limit left.root.1 values left.steps made in
          let is : last ≡ record next { state = arrived x next.running next.state } = last_is
          ∙ ap (λ e. record next { state = arrived e next.running next.state }) same in
          subst (λ (z : List Lent × (Account × List Lent)). IsLed (setting x code k workers) turn_of books top z.0 z.1.0
          left.root.1 z.1.1 left.steps) (λ i. (sym loans_are i, (sym is i, sym left_is i))) led

      pub turned_then : left.steps ≡ run.made → left.root.0 ≡ store → v.room ≡ w.room → v.flown ≡ w.flown
          → AreCounted books w → HasTurned x k code store turn_of books top w last left v
      turned_then made home room flown counted = record {
        led = led_then w.room made;
        fly = λ s fly. gone s fly left.root.1 v.loans values loans_same left_is;
        steps = λ s fly. makes_here s fly left.steps made;
        home = home;
        limit = same_limit;
        room = room;
        counted = counted_then flown counted;
        fewer = fewer_then;
      }
