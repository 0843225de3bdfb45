-- From the first state of a run to its end.
use Rattle.std.proofs.Common.{◌≡◌, ℕ, zero, suc, ◌+◌, ◌<◌, false, List, [], ◌∷◌, length, Option}
use Rattle.std.proofs.Common.{Some, None, refl, sym, ap, ◌∙◌, subst, arith}
use Rattle.std.proofs.lemmas.Bool.{or_parts}
use Rattle.std.proofs.lemmas.Bool.Decides.{nat_tests}
use Rattle.std.proofs.lemmas.Option.{none-some, slice_get_within}
use Rattle.std.specs.Prelude.{nat_le}
use Rattle.std.specs.List.{AllByRecursion}
use Rattle.source_meaning.specs.Arrivals.{is_quiet}
use Rattle.source_meaning.specs.State.{Coming}
use Rattle.order_laws.specs.Keeps.{NoLineBefore}
use Rattle.parallel_dispatch.specs.Flying.{IsLent, starts_of}
use Rattle.parallel_dispatch.specs.Moves.{HasSummary}
use Rattle.parallel_dispatch.proofs.Issuing.{is_job}
use Rattle.std.specs.Option.{option_map_or}
use Rattle.job_types.specs.declared.job.JobStart.{JobStart}
use Rattle.machine_code.specs.Coded.{Code}
use Rattle.exchange_model.specs.declared.exchange.Exchange.{Exchange}
use Rattle.exchange_model.specs.Kept.{IsExchange}
use Rattle.source_meaning.specs.Arrivals.{arrivals}
use Rattle.source_meaning.specs.Job.{job}
use Rattle.source_meaning.specs.SingleRun.{after, begun, ended_as, ending_at, next_start}
use Rattle.source_meaning.specs.State.{State, has_stopped}
use Rattle.source_meaning.specs.Valid.{IsValid}
use Rattle.source_meaning.proofs.Retiring.{after_valid}
use Rattle.checked.specs.Kept.{IsChecked, KeptSummaries}
use Rattle.order_laws.specs.Keeps.{NoneDue}
use Rattle.order_laws.proofs.Arriving.{arrivals_keep, arrivals_settle}
use Rattle.order_laws.proofs.Wording.{arrivals_over}
use Rattle.run_books.specs.Accounts.{Account, upcoming, with_words}
use Rattle.exchange_run.proofs.Turning.{goes_on, some_start, upcoming_is}
use Rattle.shared_store.specs.declared.view.Lent.{Lent}
use Rattle.shared_store.specs.declared.view.Top.{Top}
use Rattle.shared_store.specs.Loans.{unlent}
use Rattle.interleave_core.specs.Runs.{Runs}
use Rattle.parallel_dispatch.specs.Events.{IsReached, first_core}
use Rattle.parallel_dispatch.specs.Made.{NoJob}
use Rattle.parallel_dispatch.specs.Told.{AreTrue}
use Rattle.parallel_dispatch.proofs.Alone.{bare_of, fly_none, state_is}

-- no line is due before one more job has ended
due_before : (lines : List Coming) (s : State) → NoneDue lines s → NoLineBefore (s.ended + 1) lines
due_before [] s none = tt
due_before (l ∷ rest) s none = (let past = (or_parts (nat_le l.after s.ended) (is_quiet s.waiting) none).0 in grind (arith, nat_tests, past))

-- after each job no line is due that has not arrived, unless the run has stopped
due_none : (x : Exchange) (t : State) → has_stopped (arrivals x t) ≡ false → NoneDue (arrivals x t).lines (arrivals x t)
due_none x t going = arrivals_settle x t (ap (λ n. has_stopped (record t { restarts = n })) (sym (arrivals_keep x t).restarts) ∙ going)

pub settled_after : (x : Exchange) (first : State) (n : ℕ) → has_stopped (after x first n) ≡ false → NoneDue (after x first n).lines (after x first n)
unfolding after
settled_after x first zero going = due_none x first going
settled_after x first (suc n) going = by (next_start (after x first n)) (settled_after x first n) going
  where
    Settled : State → Type 0
    Settled t = has_stopped t ≡ false → NoneDue t.lines t

    by : (o : Option JobStart) → Settled (after x first n)
        → Settled (option_map_or (λ (a : JobStart). arrivals x
        (ended_as x a (job x a (after x first n).store) (begun (after x first n)))) o (after x first n))
    by None before = before
    by (Some a) before = due_none x (ended_as x a (job x a (after x first n).store) (begun (after x first n)))

module _ (x : Exchange) (k : KeptSummaries) (code : Code) (kept : IsExchange x) (checked : IsChecked x k) (true_of : AreTrue x k) (workers limit : ℕ) where
  -- before the first job
  pub stand_begin : (old books : Account) (top : Top) → top ≡ unlent top.values → old.running ≡ 0 → old.limit ≡ limit
      → IsValid x (with_words old.state top.values)
      → books ≡ record old { state = arrivals x old.state } → IsReached x k code workers (with_words old.state top.values) limit books top [] 0
  unfolding after Runs
  stand_begin old books top bare none same valid is =
      let first : State = with_words old.state top.values in
      let now : Account = record old { state = arrivals x old.state } in
      let here : IsReached x k code workers first limit now top [] 0 = record {
        retired = 0;
        events = [];
        runs = ap (λ (t : State). record { state = t; limit = old.limit; window = []; retired = 0 })
            (sym (arrivals_over x old.state top.values)) ∙ ap (first_core x first) same;
        fly = fly_none x k (arrivals x first) now top (after_valid x kept first 0 valid)
            (sym (arrivals_over x old.state top.values)) none (ap (λ (t : Top). t.loans) bare);
        counted = refl;
        limited = same;
        made = NoJob;
      } in
      subst (λ b. IsReached x k code workers first limit b top [] 0) (sym is) here

  module _ (first : State) (books : Account) (top : Top) where
    -- if no job is in flight and the run is not over, there is a next job and no line is due before
    -- it
    pub stand_next : (steps : ℕ) → ending_at books.limit books.state ≡ None
        → IsReached x k code workers first limit books top [] steps → (start : JobStart) × (upcoming books ≡ Some start)
    stand_next steps goes g =
        let none : books.running ≡ 0 = g.fly.running in
        let some = some_start books.state books.limit goes in
        (some.0, upcoming_is books none goes ∙ some.1)

    -- so if no job may be issued, the window is not empty
    pub stand_some : (loans : List Lent) (steps : ℕ) → (loans ≡ [] → ending_at books.limit books.state ≡ None)
        → (loans ≡ [] → None ≡ upcoming books) → IsReached x k code workers first limit books top loans steps
        → 0 < length loans
    stand_some [] steps goes none g = let some = stand_next steps (goes refl) g in absurd (none-some some.0 (none refl ∙ some.1))
    stand_some (l ∷ rest) steps goes none g = omega arith

    pub stand_line : (loans : List Lent) (steps : ℕ) → (loans ≡ [] → ending_at books.limit books.state ≡ None)
        → IsReached x k code workers first limit books top loans steps → loans ≡ []
        → NoLineBefore (books.state.ended + 1) books.state.lines
    stand_line [] steps goes g is =
        let s = after x first g.retired in
        let same = state_is x k s books top g.fly in
        let going : has_stopped s ≡ false = ap has_stopped (sym same) ∙ (goes_on books.limit books.state (goes refl)).runs in
        due_before books.state.lines (with_words books.state top.values)
        (subst (λ (t : State). NoneDue t.lines t) (sym same) (settled_after x first g.retired going))
    stand_line (l ∷ rest) steps goes g is = cc

    -- the kept summaries have one for the entry of each job
    pub next_summary : (loans : List Lent) (start : JobStart) (steps : ℕ)
        → IsReached x k code workers first limit books top loans steps → Some start ≡ upcoming books
        → HasSummary k start
    next_summary loans start steps g is =
        let entry = (is_job x k kept checked true_of (after x first g.retired) books top loans g.fly start is).entry in
        let each = checked.by_facts.each_entry in
        omega (arith, entry, each)

    pub all_summaries : (s : State) (loans : List Lent) → AllByRecursion (IsLent x k s) loans → AllByRecursion (HasSummary k) (starts_of loans)
    all_summaries s [] lent = tt
    all_summaries s (l ∷ rest) lent = (slice_get_within k.summaries l.start.job.entry lent.0.summary lent.0.told, all_summaries s rest lent.1)

    -- at the end the root has no loans
    pub none_lent : (steps : ℕ) → IsReached x k code workers first limit books top [] steps → top ≡ unlent top.values
    none_lent steps g = (let bare = bare_of x k (after x first g.retired) books top g.fly in λ i. record { values = top.values; loans = bare i })
