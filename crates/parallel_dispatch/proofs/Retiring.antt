-- The oldest job retires.
use Rattle.std.proofs.Common.{◌≡◌, ◌≢◌, inl, inr, ℕ, ◌+◌, ◌≤◌, List, [], ◌∷◌, length, Some, None}
use Rattle.std.proofs.Common.{refl, sym, ap, ◌∙◌, subst, arith}
use Rattle.std.specs.List.{AllByRecursion}
use Rattle.job_types.specs.declared.job.JobStart.{JobStart}
use Rattle.job_types.specs.declared.outcome.JobDone.{JobDone}
use Rattle.job_types.specs.Own.{World, outcome_of}
use Rattle.job_types.specs.Touches.{stored}
use Rattle.machine_code.specs.Coded.{Code}
use Rattle.exchange_model.specs.declared.exchange.Exchange.{Exchange}
use Rattle.exchange_model.specs.Kept.{IsExchange}
use Rattle.source_meaning.specs.Arrivals.{arrivals}
use Rattle.source_meaning.specs.Job.{job}
use Rattle.source_meaning.specs.Retirement.{retires}
use Rattle.source_meaning.specs.SingleRun.{begun, ended_as, ending_at, turn}
use Rattle.source_meaning.specs.State.{State}
use Rattle.source_meaning.specs.Traces.{Answers, store_after, trace_of}
use Rattle.source_meaning.specs.Valid.{IsFitting}
use Rattle.source_meaning.proofs.Agreeing.{agree_answers, job_length}
use Rattle.source_meaning.proofs.Growing.{job_store, job_told}
use Rattle.source_meaning.proofs.Retiring.{turn_valid}
use Rattle.checked.specs.Kept.{IsChecked, KeptSummaries}
use Rattle.order_laws.specs.Books.{AreAhead, settles}
use Rattle.order_laws.specs.Ends.{words_left}
use Rattle.order_laws.specs.Windows.{done_by}
use Rattle.order_laws.proofs.Arriving.{arrivals_keep}
use Rattle.order_laws.proofs.Following.{ahead_retire, ahead_store, ahead_words, turn_store}
use Rattle.order_laws.proofs.Keeping.{end_keeps}
use Rattle.order_laws.proofs.Moving.{window_first, window_fits, window_next}
use Rattle.order_laws.proofs.Starting.{goes_on}
use Rattle.order_laws.proofs.Wording.{arrivals_over}
use Rattle.run_books.specs.Accounts.{Account, with_words}
use Rattle.run_books.specs.Retired.{retired_world}
use Rattle.run_books.specs.Stores.{MayStore}
use Rattle.run_books.proofs.Cells.{may_store, retired_inside}
use Rattle.machine_meaning.specs.Faithful.{started}
use Rattle.machine_meaning.specs.Private.{Private}
use Rattle.run_laws.specs.Alone.{on_words}
use Rattle.run_laws.proofs.Going.{end_framed}
use Rattle.shared_store.specs.declared.view.Lent.{Lent}
use Rattle.shared_store.specs.declared.view.Top.{Top}
use Rattle.shared_store.specs.Loans.{Has, taken_back}
use Rattle.shared_store.specs.Seats.{JobView, StoreId}
use Rattle.shared_store.proofs.Loaned.{kept_out}
use Rattle.job_runner.specs.Runs.{HasRun}
use Rattle.job_runner.specs.Seen.{free_to_write}
use Rattle.lone_job.specs.Turns.{arrived}
use Rattle.parallel_dispatch.specs.Flying.{AreWithin, Fly, IsLent, starts_of}
use Rattle.parallel_dispatch.specs.Made.{JobMakes}
use Rattle.parallel_dispatch.specs.Told.{AreTrue, PassBy}
use Rattle.lone_job.proofs.Words.{free_stores}
use Rattle.parallel_dispatch.proofs.Lending.{of_loan, of_start}
use Rattle.parallel_dispatch.proofs.Told.{aside, lent_stays, same_over, same_own, same_trace}

-- the outcome of a run that is over
pub record Leaves (run : Private) (done : JobDone) : Type 0 where
  pub sends : done.sends ≡ run.own.sends
  pub chain : done.chain ≡ run.own.chain
  pub outcome : Some done.outcome ≡ run.over

module _ (x : Exchange) (k : KeptSummaries) (kept : IsExchange x) (checked : IsChecked x k) (true_of : AreTrue x k)
    (s : State) (books : Account) (top : Top) (l : Lent) (rest : List Lent) (fly : Fly x k s books top (l ∷ rest)) where
  abbrev a : JobStart
  a = l.start

  abbrev done : JobDone
  done = done_by (job x a s.store)

  -- the root after the loan was returned, with the job's touches
  abbrev pub back : Top
  back = taken_back top (record { lent = l; touches = trace_of x a l.base })

  all_fit : AllByRecursion (IsFitting x s) (a ∷ starts_of rest)
  all_fit = window_fits x s (a ∷ starts_of rest) fly.valid fly.ahead.window

  -- ## The job's end

  -- the outcome of the run is the job's outcome in the single run
  pub done_is : (code : Code) (store : StoreId) (seat : JobView) (run : Private) (left : JobDone)
      → HasRun x code store l seat run → Leaves run left → left ≡ done
  done_is code store seat run left has leaves =
      let own = same_own x k s l fly.lent.0 in
      let over = same_over x k s l fly.lent.0 in
      let sends = leaves.sends ∙ ap (λ (r : Private). r.own.sends) has.run_is ∙ has.means.sends ∙ sym (ap (λ o. o.sends) own) in
      let chain = leaves.chain ∙ ap (λ (r : Private). r.own.chain) has.run_is ∙ has.means.chain ∙ sym (ap (λ o. o.chain) own) in
      let outcome = ap outcome_of (leaves.outcome ∙ ap (λ (r : Private). r.over) has.run_is ∙ has.means.over ∙ sym over) in
      λ i. record { sends = sends i; chain = chain i; outcome = outcome i }

  -- its number of instructions is that of the run on the loan's words, which to the job are the
  -- same as the words of the state
  pub makes : (code : Code) (store : StoreId) (seat : JobView) (run : Private) → HasRun x code store l seat run → JobMakes code s run.made
  makes code store seat run has =
      let same = fly.lent.0.same in
      let there : Answers s.store (trace_of x a l.base) = agree_answers (trace_of x a l.base) l.base s.store same.long same.same (job_told x a l.base) in
      let told : Answers s.store has.end.world.trace = subst (λ (w : World). Answers s.store w.trace) (sym has.means.world) there in
      record {
        start = a;
        next = window_next x s fly.valid a (starts_of rest) fly.ahead.window;
        runs = record {
          end = on_words s.store has.end;
          ends = end_framed code.ops (started code a) l.base s.store has.end has.ends told;
          made_is = ap (λ (r : Private). r.made) has.run_is;
        };
      }

  back_values : back.values ≡ store_after x a s.store
  back_values = (λ i. stored (fly.values i) (sym (same_trace x k s l fly.lent.0) i)) ∙ sym (job_store x a s.store)

  back_listed : (o : Lent) → Has back.loans o → Has rest o
  back_listed o has =
      let out = kept_out l.number top.loans o has in
      by (fly.listed o out.0) out.1
    where
      by : Has (l ∷ rest) o → o.number ≢ l.number → Has rest o
      by (inl is) other = absurd (other (sym (ap (λ (m : Lent). m.number) is)))
      by (inr has) other = has

  -- ## The job may retire

  chains_same : books.state.chains ≡ s.chains
  chains_same = ap (λ (t : State). t.chains) fly.ahead.same

  whole : length back.values ≡ x.cells
  whole = ap length back_values ∙ job_length x a s.store ∙ fly.valid.store.whole

  pub may_write_there : MayStore (free_to_write back) (retired_world x a done books.state back.values).trace
  may_write_there =
      let few = kept.limited.cells in
      free_stores back (retired_world x a done books.state back.values).trace
      (may_store x back.values (retired_world x a done books.state back.values).trace whole (omega (arith, few))
      (retired_inside x kept s books.state a back.values fly.valid all_fit.0 chains_same))
      (λ o has. let here = back_listed o has in
      aside x k kept checked s fly.valid true_of l o fly.lent.0 (of_loan (IsLent x k s) rest o fly.lent.1 here)
      all_fit.0 (of_start (IsFitting x s) rest o all_fit.1 here) (of_start (PassBy k a) rest o fly.pass.0 here)
      books.state back.values)

  -- ## The job has retired

  turn_is : turn x s ≡ arrivals x (ended_as x a (job x a s.store) (begun s))
  turn_is = window_first x s a (starts_of rest) fly.ahead.window

  pub turn_ended : (turn x s).ended ≡ s.ended + 1
  turn_ended =
      ap (λ (t : State). t.ended) turn_is
      ∙ (arrivals_keep x (ended_as x a (job x a s.store) (begun s))).ended
      ∙ (end_keeps x a (job x a s.store) (begun s)).ended

  lent_then : (os : List Lent) → AllByRecursion (IsLent x k s) os → AllByRecursion (IsFitting x s) (starts_of os)
      → AllByRecursion (PassBy k a) (starts_of os) → AllByRecursion (IsLent x k (turn x s)) os
  lent_then [] lent fit pass = tt
  lent_then (o ∷ os) lent fit pass =
      let keep = arrivals_keep x (ended_as x a (job x a s.store) (begun s)) in (
        lent_stays x k kept checked s fly.valid true_of l o fly.lent.0 lent.0 all_fit.0 fit.0 pass.0 (turn x s)
            (ap (λ (t : State). t.store) turn_is ∙ keep.store) (ap (λ (t : State). t.chains) turn_is ∙ keep.chains),
        lent_then os lent.1 fit.1 pass.1,
      )

  within_then : (limit : ℕ) (os : List Lent) → s.ended + length (l ∷ os) ≤ limit → AreWithin limit (turn x s).ended os
  within_then limit [] le = tt
  within_then limit (o ∷ os) le = (let one = turn_ended in omega (arith, le, one))

  -- the single run was not over before the job
  pub goes_before : ending_at books.limit s ≡ None
  goes_before = (let le = fly.within in goes_on books.limit s a (window_next x s fly.valid a (starts_of rest) fly.ahead.window) (omega (arith, le)))

  module _ (next : Account) (words : List ℕ) (retired : with_words next.state words
      ≡ retires x a done (with_words books.state back.values)) (running : next.running + 1 ≡ books.running)
      (limit : next.limit ≡ books.limit) where
    ahead_back : AreAhead x s (a ∷ starts_of rest) (with_words books.state back.values)
    ahead_back = ahead_words x s (a ∷ starts_of rest) (with_words books.state s.store) back.values fly.ahead

    settled : (os : List Lent) → os ≡ rest → settles x a done (starts_of os) (with_words books.state back.values)
        ≡ with_words (arrived x (length os) next.state) words
    settled [] is = ap (arrivals x) (sym retired) ∙ arrivals_over x next.state words
    settled (o ∷ os) is = sym retired

    settled_here : settles x a done (starts_of rest) (with_words books.state back.values) ≡ with_words (arrived x (length rest) next.state) words
    settled_here = settled rest refl

    ahead_then : AreAhead x (turn x s) (starts_of rest) (with_words (arrived x (length rest) next.state) words)
    ahead_then = subst (AreAhead x (turn x s) (starts_of rest)) settled_here
        (ahead_retire x s fly.valid a (starts_of rest) (with_words books.state back.values) ahead_back)

    words_are : words ≡ (turn x s).store
    words_are =
        ap (λ (t : State). t.store) (sym settled_here)
        ∙ ahead_store x s fly.valid a (starts_of rest) (with_words books.state back.values) ahead_back
        ∙ ap (λ ws. words_left x a.job.forlopp done.outcome done.chain s.chains ws) back_values
        ∙ sym (turn_store x s a (starts_of rest) fly.ahead.window)

    count : next.running ≡ length rest
    count = (let was = fly.running in omega (arith, was, running))

    pub fly_fewer : (root : Top) → root.values ≡ words → root.loans ≡ back.loans
        → Fly x k (turn x s) (record next { state = arrived x next.running next.state }) root rest
    fly_fewer root values loans = record {
      valid = turn_valid x kept s fly.valid;
      values = values ∙ words_are;
      ahead = ahead_words x (turn x s) (starts_of rest) (with_words (arrived x next.running next.state) words)
          (turn x s).store (subst (λ n. AreAhead x (turn x s) (starts_of rest)
          (with_words (arrived x n next.state) words)) (sym count) ahead_then);
      running = count;
      within = subst (λ m. AreWithin m (turn x s).ended rest) (sym limit) (within_then books.limit rest fly.within);
      lent = lent_then rest fly.lent.1 all_fit.1 fly.pass.0;
      pass = fly.pass.1;
      listed = λ o has. back_listed o (subst (λ ls. Has ls o) loans has);
    }
