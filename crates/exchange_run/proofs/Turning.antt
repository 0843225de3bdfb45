-- From turn to turn of the single run.
use Rattle.std.proofs.Common.{◌≡◌, ⊎_elim, ℕ, zero, suc, ◌+◌, ◌-◌, ◌<◌, ◌≤◌, Bool, true, false}
use Rattle.std.proofs.Common.{List, length, Option, Some, None, refl, sym, ap, ◌∙◌, subst, arith}
use Rattle.std.proofs.Common.{if◌then◌else◌}
use Rattle.std.proofs.lemmas.Bool.{cases_eq, lt-ltb}
use Rattle.std.proofs.lemmas.Bool.Decides.{nat_tests}
use Rattle.std.specs.Prelude.{is_none, nat_le}
use Rattle.std.specs.Option.{option_map, option_map_or}
use Rattle.job_types.specs.declared.job.Job.{Job}
use Rattle.job_types.specs.declared.job.JobStart.{JobStart}
use Rattle.job_types.specs.declared.outcome.JobDone.{JobDone}
use Rattle.job_types.specs.Waiting.{pick}
use Rattle.machine_code.specs.Listed.{is_word_of}
use Rattle.exchange_model.specs.declared.exchange.Exchange.{Exchange}
use Rattle.exchange_model.specs.Kept.{IsExchange}
use Rattle.source_meaning.specs.Arrivals.{arrivals, is_quiet}
use Rattle.source_meaning.specs.Job.{job}
use Rattle.source_meaning.specs.Retirement.{retires}
use Rattle.source_meaning.specs.SingleRun as single
use Rattle.source_meaning.specs.SingleRun.{Ending, after, begun, ended_as, ending_at, jobs_at_end}
use Rattle.source_meaning.specs.SingleRun.{next_start, start_of, turn}
use Rattle.source_meaning.specs.State.{State, has_stopped}
use Rattle.source_meaning.specs.Valid.{IsValid, MayBe}
use Rattle.source_meaning.proofs.Agreeing.{job_length}
use Rattle.source_meaning.proofs.Retiring.{after_valid, start_fits}
use Rattle.run_books.specs.Accounts.{Account, after_start, upcoming, with_words}
use Rattle.job_types.specs.declared.touch.Touch.{Touch}
use Rattle.run_books.specs.Retired.{HasRetired, retired_world}
use Rattle.run_books.specs.Stores.{MayStore}
use Rattle.run_books.specs.Events.{ending_of}
use Rattle.run_books.specs.declared.event.Ending.{Ending as EndOf}
use Rattle.exchange_run.specs.Runs.{HasTurn, IsEndOf, IsTurn, MayRun, RunStands, left_by, told_next}
use Rattle.exchange_run.specs.Runs.{told_of, words_after}
use Rattle.run_books.proofs.Arriving.{arrivals_with}
use Rattle.run_books.proofs.Cells.{may_store, retired_inside}
use Rattle.exchange_run.proofs.Counting.{arrivals_ended, retired_ended}
use Rattle.exchange_run.proofs.Ending.{before_end, ends_at}

-- ## Where the run goes on

-- what it is that the run is not over
pub record GoesOn (limit : ℕ) (s : State) : Type 0 where
  pub runs : has_stopped s ≡ false
  pub waits : is_quiet s.waiting ≡ false
  pub few : s.ended < limit

pub goes_on : (limit : ℕ) (s : State) → ending_at limit s ≡ None → GoesOn limit s
goes_on limit s none = by_stop (has_stopped s) refl none
  where
    by_few : (b : Bool) → nat_le limit s.ended ≡ b → has_stopped s ≡ false → is_quiet s.waiting ≡ false
        → (if b then Some single.Limited else None) ≡ None → GoesOn limit s
    by_few true le runs waits e = cc
    by_few false le runs waits e = record { runs = runs; waits = waits; few = grind (arith, nat_tests, le) }

    by_quiet : (b : Bool) → is_quiet s.waiting ≡ b → has_stopped s ≡ false
        → (if b then Some single.Finished else (if nat_le limit s.ended then Some single.Limited else None)) ≡ None
        → GoesOn limit s
    by_quiet true quiet runs e = cc
    by_quiet false quiet runs e = by_few (nat_le limit s.ended) refl runs quiet e

    by_stop : (b : Bool) → has_stopped s ≡ b → (if b then Some single.Restarted
        else (if is_quiet s.waiting then Some single.Finished
        else (if nat_le limit s.ended then Some single.Limited else None))) ≡ None → GoesOn limit s
    by_stop true stopped e = cc
    by_stop false stopped e = by_quiet (is_quiet s.waiting) refl stopped e

-- a job may begin then
pub upcoming_is : (b : Account) → b.running ≡ 0 → ending_at b.limit b.state ≡ None → upcoming b ≡ next_start b.state
upcoming_is b none goes =
    let g = goes_on b.limit b.state goes in
    let few = g.few in
    ap (λ t. if t then next_start b.state else None) (lt-ltb (b.state.ended + b.running) b.limit (omega (arith, few, none)))

-- the start of the next job
pub some_start : (s : State) (limit : ℕ) → ending_at limit s ≡ None → (start : JobStart) × (next_start s ≡ Some start)
some_start s limit goes =
    let g = goes_on limit s goes in
    by (pick s.waiting) g.waits g.runs
  where
    by : (o : Option Job) → is_none o ≡ false → has_stopped s ≡ false
        → (start : JobStart) × ((if has_stopped s then None else option_map (λ j. start_of j s) o) ≡ Some start)
    by None waits runs = cc
    by (Some j) waits runs = (start_of j s, ap (λ t. if t then None else Some (start_of j s)) runs)

-- ## A turn

pub turn_starts : (b : Account) (start : JobStart) → Some start ≡ upcoming b → b.running ≡ 0
    → ending_at b.limit b.state ≡ None → next_start b.state ≡ Some start
turn_starts b start is none goes = sym (is ∙ upcoming_is b none goes)

-- the start may run on the stored words
pub may_run : (x : Exchange) (b : Account) (start : JobStart) (words : List ℕ) → Some start ≡ upcoming b → b.running ≡ 0
    → ending_at b.limit b.state ≡ None → IsValid x (with_words b.state words) → MayRun x start words
may_run x b start words is none goes valid = record {
  state = with_words b.state words;
  valid = valid;
  fitting = start_fits x (with_words b.state words) start valid (turn_starts b start is none goes);
  store_is = refl;
}

-- its retirement stores to cells alone
pub may_retire : (x : Exchange) (b begun_books : Account) (start : JobStart) (done : JobDone) (words now : List ℕ)
    → IsExchange x → Some start ≡ upcoming b → b.running ≡ 0 → ending_at b.limit b.state ≡ None
    → IsValid x (with_words b.state words) → begun_books ≡ after_start (Some start) b → done ≡ left_by x start words
    → now ≡ words_after x start words → MayStore (is_word_of now)
    (retired_world x start done begun_books.state now).trace
may_retire x b begun_books start done words now kept is none goes valid begins done_is now_is =
    let s = with_words b.state words in
    let fits = start_fits x s start valid (turn_starts b start is none goes) in
    let few = kept.limited.cells in
    let long : length (words_after x start words) ≡ length words = job_length x start words in
    let whole : length now ≡ x.cells = ap length now_is ∙ long ∙ valid.store.whole in
    let here = may_store x now (retired_world x start (left_by x start words) (begun b.state) now).trace whole
    (omega (arith, few)) (retired_inside x kept s (begun b.state) start now valid fits refl) in
    subst (λ d. MayStore (is_word_of now) (retired_world x start d begun_books.state now).trace) (sym done_is)
    (subst (λ (a : Account). MayStore (is_word_of now) (retired_world x start (left_by x start words) a.state now).trace) (sym begins) here)

-- its forlopp is live, or it has none
pub may_be : (x : Exchange) (b begun_books : Account) (start : JobStart) (words : List ℕ) → Some start ≡ upcoming b
    → b.running ≡ 0 → ending_at b.limit b.state ≡ None → IsValid x (with_words b.state words)
    → begun_books ≡ after_start (Some start) b → MayBe begun_books.state start.job.forlopp
may_be x b begun_books start words is none goes valid begins =
    let s = with_words b.state words in
    let fits = start_fits x s start valid (turn_starts b start is none goes) in
    subst (λ (a : Account). MayBe a.state start.job.forlopp) (sym begins) (by start.job.forlopp fits.forlopp)
  where
    by : (n : ℕ) → MayBe (with_words b.state words) n → MayBe (begun b.state) n
    by zero may = tt
    by (suc n) may = record { drawn = may.drawn; before = may.before; alive = may.alive }

-- the state after a turn
pub turn_more : (x : Exchange) (b begun_books next last : Account) (start : JobStart) (done : JobDone)
    (words now after_words : List ℕ) → Some start ≡ upcoming b → b.running ≡ 0 → ending_at b.limit b.state ≡ None
    → begun_books ≡ after_start (Some start) b → done ≡ left_by x start words → now ≡ words_after x start words
    → with_words next.state after_words ≡ retires x start done (with_words begun_books.state now)
    → last ≡ record next { state = arrivals x next.state }
    → with_words last.state after_words ≡ turn x (with_words b.state words)
turn_more x b begun_books next last start done words now after_words is none goes begins done_is now_is retired arrived =
    let s = with_words b.state words in
    let same : retires x start done (with_words begun_books.state now)
    ≡ retires x start (left_by x start words) (with_words (begun b.state) (words_after x start words)) =
    λ i. retires x start (done_is i) (with_words (begins i).state (now_is i)) in
    ap (λ (a : Account). with_words a.state after_words) arrived
    ∙ sym (arrivals_with x next.state after_words)
    ∙ ap (arrivals x) (retired ∙ same)
    ∙ sym (ap (λ o. option_map_or (λ begins. arrivals x (ended_as x begins (job x begins s.store) (begun s))) o s) (turn_starts b start is none goes))

-- a turn counts one job
pub turn_ended : (x : Exchange) (s : State) (limit : ℕ) → ending_at limit s ≡ None → (turn x s).ended ≡ s.ended + 1
turn_ended x s limit goes =
    let some = some_start s limit goes in
    let start = some.0 in
    let done = left_by x start s.store in
    let u : State = record (begun s) { store = words_after x start s.store } in
    ap (λ o. (option_map_or (λ begins. arrivals x (ended_as x begins (job x begins s.store) (begun s))) o s).ended) some.1
    ∙ arrivals_ended x (retires x start done u)
    ∙ retired_ended x start done u

-- a job that has run and retired, and what is due has arrived
pub turned : {x : Exchange} {b begun_books next last : Account} {start : JobStart} {done : JobDone}
    {words now after_words : List ℕ} {told now_told : Option (List Touch)} → HasTurn x b words → Some start ≡ upcoming b
    → begun_books ≡ after_start (Some start) b → done ≡ left_by x start words → now ≡ words_after x start words
    → HasRetired x start done begun_books next now after_words told now_told
    → last ≡ record next { state = arrivals x next.state } → IsTurn x b last words after_words
turned {x = x} {b = b} {begun_books = begun_books} {next = next} {last = last} {start = start} {done = done}
    {words = words} {now = now} {after_words = after_words} has is begins done_is now_is retired arrived =
    let none = has.nobody in
    let left = retired.running in
    record {
      state = turn_more x b begun_books next last start done words now after_words is has.nobody has.goes_on begins done_is now_is retired.state arrived;
      nobody = omega (arith, none, left, ap (λ (a : Account). a.running) arrived, ap (λ (a : Account). a.running) begins);
      limit = ap (λ (a : Account). a.limit) arrived ∙ retired.limit ∙ ap (λ (a : Account). a.limit) begins;
    }

-- a watcher that is told of the job of a turn is told of the next one
pub told_turn : {W : Type 0} (tell : W → Exchange → ℕ → JobStart → JobDone → W) {x : Exchange} {b next : Account}
    {words now : List ℕ} {start : JobStart} {done : JobDone} {number : ℕ} {w v : W} → HasTurn x b words
    → Some start ≡ upcoming b → IsTurn x b next words now → number ≡ next.state.ended → done ≡ left_by x start words
    → v ≡ tell w x number start done → v ≡ told_next tell x (with_words b.state words) w
told_turn tell {x = x} {b = b} {words = words} {start = start} {number = number} {w = w} has is turn number_is left told =
    let count : number ≡ b.state.ended + 1 = number_is ∙ ap (λ (s : State). s.ended) turn.state ∙ turn_ended x (with_words b.state words) b.limit has.goes_on in
    told ∙ (λ i. tell w x (count i) start (left i))
    ∙ sym (ap (λ o. option_map_or (λ begins. tell w x (b.state.ended + 1) begins (left_by x begins words)) o w) (turn_starts b start is has.nobody has.goes_on))

-- ## The run

-- before a run is over, at least and at most so many jobs have ended
at_least : (x : Exchange) (first : State) (limit n : ℕ) → ((m : ℕ) → m < n → ending_at limit (after x first m) ≡ None) → n ≤ (after x first n).ended
unfolding after
at_least x first limit zero goes = omega arith
at_least x first limit (suc n) goes =
    let more = turn_ended x (after x first n) limit (goes n (omega arith)) in
    let so_far = at_least x first limit n (λ m lt. goes m (omega (arith, lt))) in
    omega (arith, more, so_far)

pub at_most : (x : Exchange) (first : State) (limit n : ℕ) → ((m : ℕ) → m < n → ending_at limit (after x first m) ≡ None) → n ≤ limit
at_most x first limit zero goes = omega arith
at_most x first limit (suc n) goes =
    let few = (goes_on limit (after x first n) (goes n (omega arith))).few in
    let ended = at_least x first limit n (λ m lt. goes m (omega (arith, lt))) in
    omega (arith, few, ended)

-- what is due has arrived
pub stands_begin : (x : Exchange) (before b : Account) (words : List ℕ) → before.running ≡ 0
    → b ≡ record before { state = arrivals x before.state }
    → RunStands x (with_words before.state words) before.limit 0 b words
unfolding after
stands_begin x before b words none is = record {
  state = ap (λ (a : Account). with_words a.state words) is ∙ sym (arrivals_with x before.state words);
  nobody = ap (λ (a : Account). a.running) is ∙ none;
  limited = ap (λ (a : Account). a.limit) is;
  goes_on = λ m lt. absurd (omega arith);
}

pub stands_valid : (x : Exchange) → IsExchange x → (first : State) (limit : ℕ) → IsValid x first
    → (n : ℕ) (b : Account) (words : List ℕ) → RunStands x first limit n b words → IsValid x (with_words b.state words)
stands_valid x kept first limit fit n b words g = subst (IsValid x) (sym g.state) (after_valid x kept first n fit)

-- the run stands after some number of jobs, and the watcher has been told of these
pub record Goes {W : Type 0} (tell : W → Exchange → ℕ → JobStart → JobDone → W) (x : Exchange) (first : State)
    (limit : ℕ) (old : W) (b : Account) (words : List ℕ) (w : W) : Type 0 where
  pub count : ℕ
  pub stands : RunStands x first limit count b words
  pub told : w ≡ told_of tell x first count old

pub goes_begin : {W : Type 0} (tell : W → Exchange → ℕ → JobStart → JobDone → W) (x : Exchange) (before b : Account)
    (words : List ℕ) (w : W) → before.running ≡ 0 → b ≡ record before { state = arrivals x before.state }
    → Goes tell x (with_words before.state words) before.limit w b words w
unfolding told_of
goes_begin tell x before b words w none is = record { count = 0; stands = stands_begin x before b words none is; told = refl }

module _ {W : Type 0} {tell : W → Exchange → ℕ → JobStart → JobDone → W} {x : Exchange} {first : State} {limit : ℕ}
    {old : W} {b : Account} {words : List ℕ} {w : W} (kept : IsExchange x) (fit : IsValid x first)
    (g : Goes tell x first limit old b words w) where
  here : RunStands x first limit g.count b words
  here = g.stands

  at_limit : {o : Option Ending} → ending_at b.limit b.state ≡ o → ending_at limit (after x first g.count) ≡ o
  at_limit is = ap (ending_at limit) (sym here.state) ∙ ap (λ l. ending_at l b.state) (sym here.limited) ∙ is

  -- there is a turn, where the run is not over
  pub goes_turn : ending_at b.limit b.state ≡ None → HasTurn x b words
  goes_turn goes = record { nobody = here.nobody; goes_on = goes; valid = stands_valid x kept first limit fit g.count b words here }

  pub goes_more : {next : Account} {now : List ℕ} {v : W} → ending_at b.limit b.state ≡ None → IsTurn x b next words now
      → v ≡ told_next tell x (with_words b.state words) w → Goes tell x first limit old next now v
  unfolding after told_of
  goes_more goes turned told = record {
    count = suc g.count;
    stands = record {
      state = turned.state ∙ ap (turn x) here.state;
      nobody = turned.nobody;
      limited = turned.limit ∙ here.limited;
      goes_on = λ m lt. ⊎_elim
          (λ same. ap (λ k. ending_at limit (after x first k)) same ∙ at_limit goes)
          (λ other. here.goes_on m (let ne = other in grind (arith, lt, ne))) (cases_eq m g.count);
    };
    told = told ∙ (λ i. told_next tell x (here.state i) (g.told i));
  }

  pub goes_fewer : {next : Account} {now : List ℕ} → ending_at b.limit b.state ≡ None → IsTurn x b next words now
      → limit - next.state.ended < limit - b.state.ended
  goes_fewer {next = next} goes turned =
      let few = (goes_on b.limit b.state goes).few in
      let same = here.limited in
      let count : next.state.ended ≡ b.state.ended + 1 = ap (λ (t : State). t.ended) turned.state ∙ turn_ended x (with_words b.state words) b.limit goes in
      omega (arith, few, same, count)

  -- the run is over after so many jobs
  last_turn : {e : Ending} → Some e ≡ ending_at b.limit b.state → jobs_at_end x limit first ≡ g.count
  last_turn {e = e} is = ends_at x first limit g.count e (at_most x first limit g.count here.goes_on) here.goes_on (at_limit (sym is))

  pub goes_over : (e : EndOf) → Some (ending_of e) ≡ ending_at b.limit b.state → IsEndOf x first limit (record { books = b; words = words; ending = e })
  goes_over e is = record {
    runs = record {
      state = here.state ∙ ap (after x first) (sym (last_turn is));
      ends = ap (λ k. ending_at limit (after x first k)) (last_turn is) ∙ at_limit (sym is);
    };
    nobody = here.nobody;
  }

  pub goes_told : {e : Ending} → Some e ≡ ending_at b.limit b.state → w ≡ told_of tell x first (jobs_at_end x limit first) old
  goes_told is = g.told ∙ ap (λ n. told_of tell x first n old) (sym (last_turn is))

-- the count of ended jobs is the number of turns
pub counted : (x : Exchange) (first : State) → first.ended ≡ 0 → (limit n : ℕ) → n ≤ jobs_at_end x limit first → (after x first n).ended ≡ n
unfolding after
counted x first none limit zero le = arrivals_ended x first ∙ none
counted x first none limit (suc n) le =
    let more = turn_ended x (after x first n) limit (before_end x first limit n (omega (arith, le))) in
    let so_far = counted x first none limit n (omega (arith, le)) in
    omega (arith, more, so_far)
