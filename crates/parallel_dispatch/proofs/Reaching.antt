-- The events from the first state to the end of the run.
use Rattle.std.proofs.Common.{◌≡◌, ℕ, suc, ◌+◌, ◌%◌, ◌^◌, ◌<◌, List, [], ◌∷◌, ◌++◌, length, None}
use Rattle.std.proofs.Common.{Some, refl, sym, ap, ◌∙◌, subst, arith}
use Rattle.job_types.specs.declared.outcome.JobDone.{JobDone}
use Rattle.job_types.specs.Own.{World, done_of}
use Rattle.job_types.specs.Touches.{stored}
use Rattle.machine_code.specs.Coded.{Code}
use Rattle.exchange_model.specs.declared.exchange.Exchange.{Exchange}
use Rattle.exchange_model.specs.Kept.{IsExchange}
use Rattle.source_meaning.specs.Arrivals.{arrivals}
use Rattle.source_meaning.specs.Retirement.{retires}
use Rattle.source_meaning.specs.SingleRun.{Ending, after, ending_at, jobs_at_end, turn}
use Rattle.source_meaning.specs.State.{State}
use Rattle.source_meaning.specs.Traces.{Answers, trace_of}
use Rattle.source_meaning.specs.Valid.{IsValid}
use Rattle.source_meaning.proofs.Agreeing.{agree_answers}
use Rattle.source_meaning.proofs.Growing.{job_told}
use Rattle.source_meaning.proofs.Retiring.{after_valid}
use Rattle.machine_meaning.specs.Faithful.{Faithful, started}
use Rattle.machine_meaning.specs.Private.{Private}
use Rattle.run_laws.specs.Alone.{on_words}
use Rattle.run_laws.proofs.Going.{end_framed}
use Rattle.checked.specs.Kept.{IsChecked, KeptSummaries}
use Rattle.order_laws.proofs.Following.{ahead_none}
use Rattle.run_books.specs.Accounts.{Account, with_words}
use Rattle.exchange_run.specs.declared.turns.Standing.{Standing}
use Rattle.exchange_run.specs.Comes.{IsOnTheWay}
use Rattle.exchange_run.specs.Runs.{RunsTo}
use Rattle.exchange_run.proofs.Resting.{rests}
use Rattle.interleave_core.specs.declared.event.CoreEvent.{CoreEvent}
use Rattle.interleave_core.specs.declared.event.CoreEvent.TheVariants.{Issue}
use Rattle.interleave_core.specs.Allowed.{MayFollow}
use Rattle.interleave_core.specs.Runs.{Runs, Setting, setting}
use Rattle.interleave_core.proofs.Certified.{pairs_give}
use Rattle.interleave_core.proofs.Changing.{done_is}
use Rattle.interleave_core.proofs.Following.{Beside, follows_single_run}
use Rattle.shared_store.specs.declared.view.Lent.{Lent}
use Rattle.shared_store.specs.declared.view.Top.{Top}
use Rattle.shared_store.specs.Loans.{taken_back}
use Rattle.shared_store.specs.Seats.{JobView, StoreId}
use Rattle.job_runner.specs.Runs.{HasRun}
use Rattle.parallel_dispatch.specs.Ends.{AreLedTo, EndsAs}
use Rattle.parallel_dispatch.specs.Flying.{Fly, IsLent}
use Rattle.lone_job.specs.Turns.{RunEnds, arrived}
use Rattle.parallel_dispatch.specs.Made.{AllMake, JobMakes, OneMore}
use Rattle.parallel_dispatch.proofs.Retiring.{Leaves}
use Rattle.parallel_dispatch.specs.Events.{IsIssued, IsLed, IsReached, first_core, shown}
use Rattle.parallel_dispatch.specs.Turning.{steps_in, turn_of}
use Rattle.parallel_dispatch.proofs.Counting.{steps_append, sum_made}
use Rattle.parallel_dispatch.proofs.Ending.{run_ends, went_first, went_runs}
use Rattle.parallel_dispatch.proofs.Events.{turn_led}
use Rattle.parallel_dispatch.proofs.Turning.{runs_append}

-- ## The run of a returned loan's job, on the root's words

-- the job of a returned loan would come to the same end on the root's words, and leave them as the
-- root now has them
pub ends_on_root : (x : Exchange) (k : KeptSummaries) (code : Code) (s : State) (top : Top) (l : Lent) (store : StoreId)
    (seat : JobView) (run : Private) (mid : Top) → top.values ≡ s.store → IsLent x k s l
    → HasRun x code store l seat run → mid ≡ taken_back top seat.1 → RunEnds code l.start top.values run mid
ends_on_root x k code s top l store seat run mid values lent has mid_is =
    let same = lent.same in
    let there : Answers s.store (trace_of x l.start l.base) = agree_answers (trace_of x l.start l.base) l.base s.store
    same.long same.same (job_told x l.start l.base) in
    let told : Answers top.values has.end.world.trace = subst (λ ws. Answers ws has.end.world.trace) (sym values)
    (subst (λ (w : World). Answers s.store w.trace) (sym has.means.world) there) in
    record {
      end = on_words top.values has.end;
      ends = end_framed code.ops (started code l.start) l.base top.values has.end has.ends told;
      run_is = has.run_is;
      words_are = ap (λ (t : Top). t.values) mid_is
          ∙ ap (λ (v : JobView). stored top.values v.1.touches) has.seat_is
          ∙ ap (λ (w : World). stored top.values w.trace) (sym has.means.world);
    }

-- ## The oldest job in flight retires

pub retired_led : (x : Exchange) (k : KeptSummaries) (code : Code) (workers : ℕ) (s : State) (books : Account)
    (top : Top) (l : Lent) (rest : List Lent) → Fly x k s books top (l ∷ rest)
    → (store : StoreId) (seat : JobView) (run : Private) (mid : Top) → HasRun x code store l seat run
    → mid ≡ taken_back top seat.1
    → (done : JobDone) → Leaves run done → (next : Account) (words : List ℕ)
    → with_words next.state words ≡ retires x l.start done (with_words books.state mid.values)
    → next.running + 1 ≡ books.running → next.limit ≡ books.limit → (now : Top) → now.values ≡ words → (made : ℕ)
    → made ≡ run.made
    → IsLed (setting x code k workers) turn_of books top (l ∷ rest) (record next { state = arrived x next.running next.state }) now rest made
retired_led x k code workers s books top l rest fly store seat run mid has mid_is done leaves next words left running limit now values made made_is =
    let e = ends_on_root x k code s top l store seat run mid fly.values fly.lent.0 has mid_is in
    let same : done ≡ done_of e.end.run.own e.end.run.over = done_is run.own run.over done leaves.sends leaves.chain
    leaves.outcome ∙ ap (λ (r : Private). done_of r.own r.over) e.run_is in
    let was = fly.running in
    let count : next.running ≡ length rest = omega (arith, was, running) in
    turn_led x code k workers books top l.start rest e.end e.ends next words
    (left ∙ λ i. retires x l.start (same i) (with_words books.state (e.words_are i))) count limit now values l refl
    made (made_is ∙ ap (λ (r : Private). r.made) e.run_is)

-- ## One move after the other

module _ (x : Exchange) (k : KeptSummaries) (code : Code) (workers : ℕ) (first : State) (limit : ℕ) where
  abbrev Here : Account → Top → List Lent → ℕ → Type 0
  Here books top loans steps = IsReached x k code workers first limit books top loans steps

  abbrev at : Setting
  at = setting x code k workers

  pub reached_issue : (books next : Account) (top now : Top) (loans left : List Lent) (steps : ℕ)
      → Here books top loans steps → IsIssued at books top loans next now left → next.limit ≡ books.limit
      → ((s : State) → Fly x k s books top loans → Fly x k s next now left) → Here next now left steps
  reached_issue books next top now loans left steps r issue same fly = record {
    retired = r.retired;
    events = r.events ++ Issue ∷ [];
    runs = runs_append at r.events (Issue ∷ []) (first_core x first limit) (shown code books top loans r.retired)
        (shown code next now left r.retired) r.runs (issue r.retired);
    counted = (let none : steps_in (r.events ++ Issue ∷ []) ≡ steps_in r.events
        + 0 = steps_append r.events (Issue ∷ []) in let all : steps_in r.events
        ≡ steps_in (r.events ++ Issue ∷ []) = omega (arith, none) in r.counted ∙ ap (λ n. n % 2 ^ 64) all);
    limited = same ∙ r.limited;
    fly = fly (after x first r.retired) r.fly;
    made = r.made;
  }

  pub reached_turn : (events : ℕ → ℕ → List CoreEvent) (books next : Account) (top now : Top) (loans left : List Lent)
      (steps made total : ℕ) → Here books top loans steps → IsLed at events books top loans next now left made
      → next.limit ≡ books.limit → ((s : State) → Fly x k s books top loans → Fly x k (turn x s) next now left)
      → ((s : State) → Fly x k s books top loans → JobMakes code s made) → total ≡ (steps + made) % 2 ^ 64 → Here next now left total
  unfolding after
  reached_turn events books next top now loans left steps made total r led same fly makes sum =
      let s = after x first r.retired in
      let more = events led.count (r.retired + 1) in
      let one : r.retired + 1 ≡ suc r.retired = omega arith in
      record {
        retired = suc r.retired;
        events = r.events ++ more;
        runs = subst (λ n. Runs at (r.events ++ more) (first_core x first limit) (shown code next now left n)) one
            (runs_append at r.events more (first_core x first limit) (shown code books top loans r.retired)
            (shown code next now left (r.retired + 1)) r.runs (led.runs r.retired));
        counted = sum ∙ sum_made r.events more steps made r.counted (led.counted (r.retired + 1));
        limited = same ∙ r.limited;
        fly = fly s r.fly;
        made = subst (AllMake x code first (suc r.retired)) (sym sum) (OneMore r.retired steps made r.made (makes s r.fly));
      }

  -- ## The end

  pub reached_led : (books : Account) (top : Top) (steps : ℕ) → Here books top [] steps → AreLedTo at first limit books.state top.values steps
  reached_led books top steps r = record {
    events = r.events;
    counted = r.counted;
    core = shown code books top [] r.retired;
    runs = r.runs;
    state = refl;
    empty = refl;
  }

  module _ (kept : IsExchange x) (faithful : Faithful x code) (checked : IsChecked x k) (valid : IsValid x first) where
    begins : Beside x code (MayFollow k) first (first_core x first limit)
    unfolding after
    begins = record {
      state = arrivals x first;
      jobs = [];
      turn_is = refl;
      window = refl;
      shares = record {
        valid = after_valid x kept first 0 valid;
        ahead = ahead_none x (arrivals x first) (arrivals x first).store;
        passes = tt;
        words = refl;
      };
    }

    -- no job is in flight, and the run is over
    pub reached_ended : (books : Account) (top : Top) (e : Ending) (steps : ℕ)
        → Some e ≡ ending_at books.limit books.state → Here books top [] steps
        → EndsAs x code first limit books.state top.values e steps
    reached_ended books top e steps is r =
        let c = shown code books top [] r.retired in
        let pairs = pairs_give x k kept checked in
        let f = went_runs x kept code faithful k pairs first workers r.events (first_core x first limit) c begins
        (went_first x kept code faithful k pairs first (first_core x first limit) refl refl) r.runs in
        let end = run_ends x kept code faithful k pairs first c e f.0 f.1 refl (sym is) in
        let at_end : jobs_at_end x limit first ≡ r.retired = ap (λ n. jobs_at_end x n first) (sym r.limited) ∙ end.1 in
        record {
          state = end.0 ∙ ap (after x first) (sym at_end);
          ends = ap (ending_at limit) (ap (after x first) at_end ∙ sym end.0) ∙ ap (λ n. ending_at n c.state) (sym r.limited) ∙ sym is;
          made = subst (λ n. AllMake x code first n steps) (sym at_end) r.made;
        }

    -- no job is in flight, and the run may be handed back
    pub reached_rests : (books : Account) (top : Top) (steps : ℕ) → Here books top [] steps → (run : Standing)
        → run.books ≡ books → run.words ≡ top.values → IsOnTheWay x first limit run
    reached_rests books top steps r run books_are words_are =
        let c = shown code books top [] r.retired in
        let pairs = pairs_give x k kept checked in
        let f = went_runs x kept code faithful k pairs first workers r.events (first_core x first limit) c begins
        (went_first x kept code faithful k pairs first (first_core x first limit) refl refl) r.runs in
        let same : c.state ≡ after x first r.retired = (follows_single_run x kept code faithful k pairs first c f.0).empty refl in
        let goes : (n : ℕ) → n < r.retired → ending_at limit (after x first n)
        ≡ None = λ n less. ap (λ m. ending_at m (after x first n)) (sym r.limited)
        ∙ f.1.goes_on n (omega (arith, less)) in
        let there : IsOnTheWay x first limit (record { books = books; words = top.values }) = record {
          limited = r.limited;
          may = record { nobody = r.fly.running; valid = subst (IsValid x) (sym same) (after_valid x kept first r.retired valid) };
          leads = λ s words e runs. rests x first limit r.retired goes s words e
              (subst (λ (z : State × ℕ). RunsTo x z.0 z.1 s words e) (λ i. (same i, r.limited i)) runs);
        } in
        subst (λ (z : Account × List ℕ). IsOnTheWay x first limit (record { books = z.0; words = z.1 })) (λ i. (sym books_are i, sym words_are i)) there
