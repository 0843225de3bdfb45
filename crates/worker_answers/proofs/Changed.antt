-- A run that continues with another exchange.
use Rattle.std.proofs.Common.{◌≡◌, ℕ, zero, suc, ◌<◌, ◌≤◌, Bool, true, false, Some, None, refl, sym}
use Rattle.std.proofs.Common.{ap, ◌∙◌, subst, arith, if◌then◌else◌, not, ◌&&◌, List, ◌++◌, map}
use Rattle.std.proofs.Common.{Option, Result, Ok, Err}
use Rattle.std.specs.Prelude.{nat_le, IfOk, nat_lt, unwrap_or}
use Rattle.std.proofs.lemmas.Bool.Decides.{nat_tests}
use Rattle.std.proofs.lemmas.Option.{none-some, same_Some}
use Rattle.exchange_model.specs.declared.exchange.Exchange.{Exchange}
use Rattle.source_meaning.specs.Arrivals.{is_quiet}
use Rattle.source_meaning.specs.SingleRun.{Ending, Finished, Limited, Restarted, after, end_state}
use Rattle.source_meaning.specs.SingleRun.{ending_at, jobs_at_end, opening}
use Rattle.source_meaning.specs.State.{State, has_stopped}
use Rattle.exchange_run.proofs.Ending.{before_end, ends_at}
use Rattle.exchange_run.proofs.Turning.{counted, goes_on}
use Rattle.plex_num.specs.declared.seq.Memory.{Memory}
use Rattle.exchange_model.specs.Kept.{IsExchange}
use Rattle.signal_file.specs.declared.line.Line.{Line}
use Rattle.source_meaning.specs.Valid.{IsValid}
use Rattle.source_meaning.proofs.Opening.{opening_valid}
use Rattle.source_meaning.proofs.Retiring.{after_valid}
use Rattle.run_books.specs.declared.parts.BookParts.{BookParts}
use Rattle.run_books.specs.Accounts.{Account, with_words}
use Rattle.run_books.specs.Lines.{coming_of}
use Rattle.run_books.specs.Parts.{AreParts, account_of}
use Rattle.run_books.specs.Events.{ending_of as told_ending}
use Rattle.exchange_run.specs.declared.turns.Ended.{Ended}
use Rattle.exchange_run.specs.declared.turns.Standing.{Standing}
use Rattle.exchange_run.specs.Runs.{IsEndOf, state_of}
use Rattle.report_text.specs.Report.{event_lines, text_of}
use Rattle.block_change.specs.declared.misfit.Misfit.{Misfit}
use Rattle.block_change.specs.Carried.{AreStanding, state_with}
use Rattle.block_change.specs.Misfits.{misfit}
use Rattle.answer_meaning.specs.Outcome.{headed_by}
use Rattle.answer_meaning.specs.RunAnswer.{end_of, ended_answer, ending_answer, ending_of}
use Rattle.answer_meaning.specs.RunAnswer.{run_answer}
use Rattle.answer_meaning.specs.ChangeAnswer.{AnswersChange, ChangesOrNot, IsChanged}
use Rattle.answer_meaning.specs.ChangeAnswer.{changed_answer, ends_before, further_answer}
use Rattle.answer_meaning.specs.ChangeAnswer.{is_changed}
use Rattle.answer_meaning.specs.Stages.{IsStopOf, TellsOutcome}
use Rattle.answer_meaning.proofs.Stages.{refused_so, told_memory}
use Rattle.answer_meaning.specs.Lines.{AreRead}
use Rattle.run_answers.specs.Runs.{CarriesOn, IsRunOf}
use Rattle.answer_meaning.specs.Text.{change_text, misfit_refusal}
use Rattle.answer_meaning.specs.declared.answer.Answer.{Answer}
use Rattle.answer_meaning.specs.declared.answer.Stop.{Stop}
use Rattle.run_answers.proofs.Telling.{answer_is}

-- ## A run with a limit of jobs, compared with the same run and a higher limit

-- a state that does not end the run under a limit does not end it under a higher one
higher : (low high : ℕ) (s : State) → low ≤ high → ending_at low s ≡ None → ending_at high s ≡ None
higher low high s le goes =
    let g = goes_on low s goes in
    let few = g.few in
    let under : nat_le high s.ended ≡ false = grind (arith, nat_tests, few, le) in
    rw (g.runs, g.waits, under) refl

-- an ending for another reason than the limit
abbrev pub IsOwn : Ending → Type 0
IsOwn Restarted = Unit {0}
IsOwn Finished = Unit {0}
IsOwn Limited = ⊥

at_limit : (d : Bool) (e : Ending) → IsOwn e → (if d then Some Limited else None) ≡ Some e → ⊥
at_limit true e own is = subst IsOwn (sym (same_Some Limited e is)) own
at_limit false e own is = none-some e is

own_ending : (low high : ℕ) (s : State) (e : Ending) → IsOwn e → ending_at low s ≡ Some e → ending_at high s ≡ Some e
own_ending low high s e own is = by (has_stopped s) (is_quiet s.waiting) is
  where
    by : (b c : Bool) → (if b then Some Restarted
        else (if c then Some Finished else (if nat_le low s.ended then Some Limited else None))) ≡ Some e
        → (if b then Some Restarted else (if c then Some Finished
        else (if nat_le high s.ended then Some Limited else None))) ≡ Some e
    by true c is = is
    by false true is = is
    by false false is = absurd (at_limit (nat_le low s.ended) e own is)

-- an ending by the limit comes only when that many jobs have ended
limit_reached : (limit : ℕ) (s : State) → ending_at limit s ≡ Some Limited → limit ≤ s.ended
limit_reached limit s is = by (has_stopped s) (is_quiet s.waiting) (nat_le limit s.ended) refl is
  where
    by : (b c d : Bool) → nat_le limit s.ended ≡ d
        → (if b then Some Restarted else (if c then Some Finished else (if d then Some Limited else None)))
        ≡ Some Limited → limit ≤ s.ended
    by true c d t is = cc
    by false true d t is = cc
    by false false true t is = grind (arith, nat_tests, t)
    by false false false t is = cc

-- whether the run stopped after its last restart
pub stopped_so : (limit : ℕ) (s : State) → ending_at limit s ≡ Some Restarted → has_stopped s ≡ true
stopped_so limit s is = by (has_stopped s) (is_quiet s.waiting) (nat_le limit s.ended) is
  where
    by : (b c d : Bool) → (if b then Some Restarted else (if c then Some Finished else (if d then Some Limited else None))) ≡ Some Restarted → b ≡ true
    by true c d is = refl
    by false true d is = cc
    by false false true is = cc
    by false false false is = cc

abbrev pub IsNoRestart : Ending → Type 0
IsNoRestart Restarted = ⊥
IsNoRestart Finished = Unit {0}
IsNoRestart Limited = Unit {0}

pub goes_so : (limit : ℕ) (s : State) (e : Ending) → IsNoRestart e → ending_at limit s ≡ Some e → has_stopped s ≡ false
goes_so limit s e other is = by (has_stopped s) is
  where
    by : (b : Bool) → (if b then Some Restarted
        else (if is_quiet s.waiting then Some Finished else (if nat_le limit s.ended then Some Limited else None)))
        ≡ Some e → b ≡ false
    by true is = absurd (subst IsNoRestart (sym (same_Some Restarted e is)) other)
    by false is = refl

module _ (x : Exchange) (first : State) (none : first.ended ≡ 0) where
  -- the run has at most as many jobs as the limit
  pub few_jobs : (limit : ℕ) → jobs_at_end x limit first ≤ limit
  few_jobs limit = by (jobs_at_end x limit first) refl
    where
      by : (n : ℕ) → jobs_at_end x limit first ≡ n → jobs_at_end x limit first ≤ limit
      by zero is = omega (arith, is)
      by (suc k) is =
          let few = (goes_on limit (after x first k) (before_end x first limit k (omega (arith, is)))).few in
          let count = counted x first none limit k (omega (arith, is)) in
          omega (arith, is, few, count)

  module _ (low high : ℕ) (le : low ≤ high) where
    -- a run that ends by itself under a limit ends so under a higher one
    pub same_end : (e : Ending) → IsOwn e → ending_at low (end_state x low first) ≡ Some e → jobs_at_end x high first ≡ jobs_at_end x low first
    same_end e own is =
        let few = few_jobs low in
        ends_at x first high (jobs_at_end x low first) e (omega (arith, few, le))
        (λ m lt. higher low high (after x first m) le (before_end x first low m lt))
        (own_ending low high (end_state x low first) e own is)

    pub same_ending : (e : Ending) → IsOwn e → ending_at low (end_state x low first) ≡ Some e → ending_at high (end_state x high first) ≡ Some e
    same_ending e own is = ap (λ n. ending_at high (after x first n)) (same_end e own is) ∙ own_ending low high (end_state x low first) e own is

-- a run with fewer jobs than the limit did not end by it
pub own_before : (limit : ℕ) (s : State) (e : Ending) → ending_at limit s ≡ Some e → s.ended < limit → IsOwn e
own_before limit s Restarted is less = tt
own_before limit s Finished is less = tt
own_before limit s Limited is less = (let le = limit_reached limit s is in omega (arith, le, less))

-- a change is at no later job than the limit, so its number is within the bounds too
pub at_few : (at jobs most : ℕ) → at ≤ jobs → jobs ≤ most → at ≤ most
at_few at jobs most le few = omega (arith, le, few)

-- ## The change

-- whether the new exchange fits

pub answers_misfit : (x y : Exchange) (lines : List Line) (jobs at : ℕ) (found : Option Misfit) (m : Misfit) (s : Stop)
    → found ≡ misfit x y → found ≡ Some m → IsStopOf (misfit_refusal x m) s
    → TellsOutcome (AnswersChange x y lines jobs at (misfit x y)) (Err s)
answers_misfit x y lines jobs at found m s same is stops =
    subst (λ o. TellsOutcome (AnswersChange x y lines jobs at o) (Err s)) (sym is ∙ same)
    (refused_so (Err (misfit_refusal x m)) (misfit_refusal x m) s refl stops)

pub answers_fit : (x y : Exchange) (lines : List Line) (jobs at : ℕ) (found : Option Misfit) (a : Answer)
    → found ≡ misfit x y → found ≡ None → ChangesOrNot x y lines jobs at (is_changed x lines jobs at) a
    → TellsOutcome (AnswersChange x y lines jobs at (misfit x y)) (Ok a)
answers_fit x y lines jobs at found a same is told = subst (λ o. AnswersChange x y lines jobs at o (Ok a)) (sym is ∙ same) told

-- without a change

tested : (x y : Exchange) (lines : List Line) (jobs at : ℕ) (b : Bool) (a : Answer) → is_changed x lines jobs at ≡ b
    → ChangesOrNot x y lines jobs at b a → ChangesOrNot x y lines jobs at (is_changed x lines jobs at) a
tested x y lines jobs at b a is told = subst (λ c. ChangesOrNot x y lines jobs at c a) (sym is) told

-- the limit is below the job of the change
pub never_reached : (x y : Exchange) (lines : List Line) (jobs at : ℕ) (r : Result Answer Memory) → jobs < at
    → IfOk r (λ a. a ≡ run_answer x lines jobs) → IfOk r (ChangesOrNot x y lines jobs at (is_changed x lines jobs at))
never_reached x y lines jobs at (Err m) less told = tt
never_reached x y lines jobs at (Ok a) less told =
    let over : nat_le at jobs ≡ false = grind (arith, nat_tests, less) in
    tested x y lines jobs at false a (ap (λ b. b && (nat_le at (end_of x lines at).ended && not (has_stopped (end_of x lines at)))) over) told

-- not fewer is the negation of fewer
no_fewer : (n m : ℕ) → (nat_le m n && true) ≡ not (nat_lt n m)
no_fewer n m = by (nat_le m n) refl
  where
    by : (b : Bool) → nat_le m n ≡ b → (b && true) ≡ not (nat_lt n m)
    by true is = (let no : nat_lt n m ≡ false = grind (arith, nat_tests, is) in rw no refl)
    by false is = (let yes : nat_lt n m ≡ true = grind (arith, nat_tests, is) in rw yes refl)

module _ (x y : Exchange) (lines : List Line) (jobs at : ℕ) (le : at ≤ jobs) (end : Ended) (over : IsRunOf x lines at end) where
  abbrev start : State
  start = opening x (map coming_of lines)

  abbrev last : State
  last = end_of x lines at

  abbrev e : Ending
  e = told_ending end.ending

  ended_is : last.ended ≡ end.books.state.ended
  ended_is = sym (ap (λ (s : State). s.ended) over.runs.state)

  -- the run has that many jobs and did not stop with the last of them, or it ended before
  goes : (nat_le at last.ended && not (has_stopped last)) ≡ not (ends_before e end.books.state.ended at)
  goes = by e over.runs.ends
    where
      side : (b : Bool) → has_stopped last ≡ true → (b && not (has_stopped last)) ≡ false
      side false stopped = refl
      side true stopped = ap not stopped

      further : has_stopped last ≡ false → (nat_le at last.ended && not (has_stopped last)) ≡ not (nat_lt end.books.state.ended at)
      further running = ap (λ b. nat_le at last.ended && not b) running ∙ no_fewer last.ended at ∙ ap (λ n. not (nat_lt n at)) ended_is

      by : (f : Ending) → ending_at at last ≡ Some f → (nat_le at last.ended && not (has_stopped last)) ≡ not (ends_before f end.books.state.ended at)
      by Restarted is = side (nat_le at last.ended) (stopped_so at last is)
      by Finished is = further (goes_so at last Finished tt is)
      by Limited is = further (goes_so at last Limited tt is)

  tests_are : {b : Bool} → ends_before e end.books.state.ended at ≡ b → is_changed x lines jobs at ≡ not b
  tests_are is =
      let may : nat_le at jobs ≡ true = grind (arith, nat_tests, le) in
      ap (λ c. c && (nat_le at last.ended && not (has_stopped last))) may ∙ goes ∙ ap not is

  -- the run ends by itself
  own_so : ends_before e end.books.state.ended at ≡ true → IsOwn e
  own_so before = by e over.runs.ends before
    where
      by : (f : Ending) → ending_at at last ≡ Some f → ends_before f end.books.state.ended at ≡ true → IsOwn f
      by Restarted is before = tt
      by Finished is before = tt
      by Limited is before = own_before at last Limited is (let same = ended_is in grind (arith, nat_tests, before, same))

  -- the report of that end is the report of the run
  run_there : (a : Answer) → IsOwn e → a ≡ ending_answer x end → a ≡ run_answer x lines jobs
  run_there a own told =
      answer_is x lines jobs end a (record {
        runs = record {
          state = over.runs.state ∙ ap (after x start) (sym (same_end x start refl at jobs le e own over.runs.ends));
          ends = same_ending x start refl at jobs le e own over.runs.ends;
        };
        nobody = over.nobody;
      }) told

  pub not_changed : (r : Result Answer Memory) → ends_before e end.books.state.ended at ≡ true
      → IfOk r (λ a. a ≡ ending_answer x end) → IfOk r (ChangesOrNot x y lines jobs at (is_changed x lines jobs at))
  not_changed (Err m) before told = tt
  not_changed (Ok a) before told = tested x y lines jobs at false a (tests_are before) (run_there a (own_so before) told)

  -- the parts of the books at the change
  module _ (p : BookParts) (is : account_of p ≡ end.books) where
    parts_state : state_with p end.words ≡ last
    parts_state = ap (λ (a : Account). with_words a.state end.words) is ∙ over.runs.state

    pub parts_few : p.ended ≤ jobs
    parts_few =
        let same : p.ended ≡ last.ended = ap (λ (s : State). s.ended) parts_state in
        let few = few_jobs x start refl at in
        let count : last.ended ≡ jobs_at_end x at start = counted x start refl at (jobs_at_end x at start) (omega arith) in
        omega (arith, same, few, count, le)

    pub parts_stand : IsExchange x → AreRead x lines → AreParts p → AreStanding x p end.words
    parts_stand kept read are = record {
      are_parts = are;
      valid = subst (IsValid x) (sym parts_state) (after_valid x kept start (jobs_at_end x at start) (opening_valid x kept (map coming_of lines) read.fit));
    }

    pub is_changed_so : (r : Result Answer Memory) → ends_before e end.books.state.ended at ≡ false
        → IfOk r (IsChanged x y (state_with p end.words) jobs at)
        → IfOk r (ChangesOrNot x y lines jobs at (is_changed x lines jobs at))
    is_changed_so (Err m) on told = tt
    is_changed_so (Ok a) on told = tested x y lines jobs at true a (tests_are on) (subst (λ t. IsChanged x y t jobs at a) parts_state told)

-- the answer with a change
pub changes : (x y : Exchange) (before : State) (jobs at : ℕ) (run : Standing) (end : Ended) (front : List ℕ) (a : Answer) → CarriesOn x y before jobs run
    → IsEndOf y (state_of run) run.books.limit end → front ≡ text_of (event_lines x before.events) ++ change_text at
    → a ≡ headed_by front (ending_answer y end) → IsChanged x y before jobs at a
changes x y before jobs at run end front a on over begins told = record { carried = t; is = on.carried; answers = answers }
  where
    t : State
    t = state_of run

    e : Ending
    e = told_ending end.ending

    limited : IsEndOf y t jobs end
    limited = subst (λ n. IsEndOf y t n end) on.limited over

    ends : e ≡ ending_of jobs (end_state y jobs t)
    ends = ap (λ o. unwrap_or o Limited) (sym limited.runs.ends)

    further : ending_answer y end ≡ further_answer y t jobs
    further = ap (λ u. ended_answer y u e) limited.runs.state ∙ ap (ended_answer y (end_state y jobs t)) ends

    answers : a ≡ changed_answer x y before t jobs at
    answers = told ∙ ap (λ f. headed_by f (ending_answer y end)) begins ∙ ap (headed_by (text_of (event_lines x before.events) ++ change_text at)) further

pub ruleset change_rules = (answers_misfit, answers_fit, told_memory)

pub ruleset reached_rules = (not_changed, is_changed_so, parts_few, parts_stand)
