-- A run that rests before its end: what it comes to from there is what it comes to.
use Rattle.std.proofs.Common.{◌≡◌, ℕ, zero, suc, ◌+◌, ◌-◌, ◌<◌, ◌≤◌, Bool, true, false, List}
use Rattle.std.proofs.Common.{Option, Some, None, refl, sym, ap, ◌∙◌, subst, arith}
use Rattle.std.specs.Prelude.{nat_lt}
use Rattle.std.specs.Option.{option_map_or}
use Rattle.std.proofs.lemmas.Bool.Decides.{nat_tests}
use Rattle.job_types.specs.declared.job.JobStart.{JobStart}
use Rattle.exchange_model.specs.declared.exchange.Exchange.{Exchange}
use Rattle.exchange_model.specs.Kept.{IsExchange}
use Rattle.source_meaning.specs.Arrivals.{arrivals}
use Rattle.source_meaning.specs.Job.{job}
use Rattle.source_meaning.specs.SingleRun.{Ending, after, begun, end_state, ended_as, ending_at}
use Rattle.source_meaning.specs.SingleRun.{jobs_at_end, next_start, turn}
use Rattle.source_meaning.specs.State.{State, has_stopped}
use Rattle.source_meaning.specs.Valid.{IsValid}
use Rattle.order_laws.proofs.Arriving.{arrivals_idle, arrivals_settle, arrivals_stopped}
use Rattle.job_types.specs.declared.outcome.JobDone.{JobDone}
use Rattle.run_books.specs.Accounts.{Account}
use Rattle.run_books.specs.Events.{ending_of}
use Rattle.exchange_run.specs.declared.turns.Ended.{Ended}
use Rattle.exchange_run.specs.declared.turns.Standing.{Standing}
use Rattle.exchange_run.specs.Comes.{IsOnTheWay}
use Rattle.exchange_run.specs.Runs.{IsEndOf, MayGoOn, RunsTo, state_of}
use Rattle.exchange_run.proofs.Ending.{before_end, ends_at}
use Rattle.exchange_run.proofs.Turning.{Goes, at_most, stands_valid}

-- ## Nothing is due between two turns

pub quiet_again : (x : Exchange) (s : State) → arrivals x (arrivals x s) ≡ arrivals x s
quiet_again x s = by (has_stopped s) refl
  where
    by : (b : Bool) → has_stopped s ≡ b → arrivals x (arrivals x s) ≡ arrivals x s
    by true is = ap (arrivals x) (arrivals_stopped x s is)
    by false is = arrivals_idle x (arrivals x s) (arrivals_settle x s is)

pub quiet_after : (x : Exchange) (first : State) (n : ℕ) → arrivals x (after x first n) ≡ after x first n
unfolding after
quiet_after x first zero = quiet_again x first
quiet_after x first (suc n) = by (next_start (after x first n)) (quiet_after x first n)
  where
    s : State
    s = after x first n

    by : (o : Option JobStart) → arrivals x s ≡ s
        → arrivals x (option_map_or (λ start. arrivals x (ended_as x start (job x start s.store) (begun s))) o s)
        ≡ option_map_or (λ start. arrivals x (ended_as x start (job x start s.store) (begun s))) o s
    by None quiet = quiet
    by (Some start) quiet = quiet_again x (ended_as x start (job x start s.store) (begun s))

-- so many jobs and then so many more
after_both : (x : Exchange) (first : State) (n m : ℕ) → after x (after x first n) m ≡ after x first (m + n)
unfolding after
after_both x first n zero = (let same : n ≡ 0 + n = omega arith in quiet_after x first n ∙ ap (after x first) same)
after_both x first n (suc m) =
    let one : after x (after x first n) (suc m) ≡ after x first (suc (m + n)) = ap (turn x) (after_both x first n m) in
    let same : suc (m + n) ≡ suc m + n = omega arith in
    one ∙ ap (after x first) same

-- ## The run from there

module _ (x : Exchange) (first : State) (limit n : ℕ) (goes : (m : ℕ) → m < n → ending_at limit (after x first m) ≡ None) where
  abbrev there : State
  there = after x first n

  abbrev rest : ℕ
  rest = jobs_at_end x limit there

  all_go : (m : ℕ) → m < rest + n → ending_at limit (after x first m) ≡ None
  all_go m lt = by (nat_lt m n) refl
    where
      by : (b : Bool) → nat_lt m n ≡ b → ending_at limit (after x first m) ≡ None
      by true is = goes m (grind (arith, nat_tests, is))
      by false is =
          let ge : n ≤ m = grind (arith, nat_tests, is) in
          let same : m - n + n ≡ m = omega (arith, ge) in
          let left : m - n < rest = omega (arith, ge, lt) in
          ap (λ k. ending_at limit (after x first k)) (sym same)
          ∙ ap (ending_at limit) (sym (after_both x first n (m - n)))
          ∙ before_end x there limit (m - n) left

  same_end : (e : Ending) → ending_at limit (end_state x limit there) ≡ Some e → jobs_at_end x limit first ≡ rest + n
  same_end e is = ends_at x first limit (rest + n) e (at_most x first limit (rest + n) all_go) all_go
      (ap (ending_at limit) (sym (after_both x first n rest)) ∙ is)

  -- what it comes to from there is what it comes to
  pub rests : (s : State) (words : List ℕ) (e : Ending) → RunsTo x there limit s words e → RunsTo x first limit s words e
  rests s words e r =
      let far : end_state x limit there ≡ end_state x limit first = after_both x first n rest ∙ ap (after x first) (sym (same_end e r.ends)) in
      record {
        state = r.state ∙ far;
        ends = ap (ending_at limit) (sym far) ∙ r.ends;
      }

-- where a run rests it is on its way
pub goes_rests : {W : Type 0} {tell : W → Exchange → ℕ → JobStart → JobDone → W} {x : Exchange} {first : State}
    {limit : ℕ} {old : W} {b : Account} {words : List ℕ} {w : W} → IsExchange x → IsValid x first
    → Goes tell x first limit old b words w → IsOnTheWay x first limit (record { books = b; words = words })
goes_rests {x = x} {first = first} {limit = limit} {b = b} {words = words} kept fit g =
    let s = g.stands in
    record {
      limited = s.limited;
      may = record { nobody = s.nobody; valid = stands_valid x kept first limit fit g.count b words s };
      leads = λ t ws e r. rests x first limit g.count s.goes_on t ws e (subst (λ (z : State × ℕ). RunsTo x z.0 z.1 t ws e) (λ i. (s.state i, s.limited i)) r);
    }

-- a run goes on from where it stands on its way: the run before it may end there, or rest again

pub way_over : {x : Exchange} {first : State} {limit : ℕ} {run : Standing} {end : Ended} → IsOnTheWay x first limit run
    → IsEndOf x (state_of run) run.books.limit end → IsEndOf x first limit end
way_over {end = end} way over = record { runs = way.leads end.books.state end.words (ending_of end.ending) over.runs; nobody = over.nobody }

pub way_more : {x : Exchange} {first : State} {limit : ℕ} {run next : Standing} → IsOnTheWay x first limit run
    → IsOnTheWay x (state_of run) run.books.limit next → IsOnTheWay x first limit next
way_more way more = record { limited = more.limited ∙ way.limited; may = more.may; leads = λ s words e runs. way.leads s words e (more.leads s words e runs) }

-- a run stands on its own way
pub way_begin : (x : Exchange) (run : Standing) → MayGoOn x run → IsOnTheWay x (state_of run) run.books.limit run
way_begin x run may = record { limited = refl; may = may; leads = λ s words e runs. runs }

pub ruleset way_rules = (way_begin, way_over, way_more)
