-- The turn of the next job.
use Rattle.std.proofs.Common.{◌≡◌, ℕ, ◌+◌, ◌^◌, ◌<◌, [], length, Option, Some, None, ap, ◌∙◌, subst}
use Rattle.std.proofs.Common.{arith}
use Rattle.std.proofs.lemmas.Option.{none-some}
use Rattle.job_types.specs.declared.job.JobStart.{JobStart}
use Rattle.job_types.specs.declared.outcome.JobDone.{JobDone}
use Rattle.job_types.specs.Own.{Own, done_of, outcome_of}
use Rattle.job_types.specs.declared.outcome.Outcome.{Outcome}
use Rattle.machine_code.specs.Coded.{Code}
use Rattle.exchange_model.specs.declared.exchange.Exchange.{Exchange}
use Rattle.exchange_model.specs.Kept.{IsExchange}
use Rattle.source_meaning.specs.Arrivals.{arrivals}
use Rattle.source_meaning.specs.Retirement.{retires}
use Rattle.source_meaning.specs.SingleRun.{turn}
use Rattle.source_meaning.specs.Valid.{MayBe}
use Rattle.machine_meaning.specs.Faithful.{Faithful}
use Rattle.machine_meaning.specs.Private.{Private}
use Rattle.run_books.specs.Accounts.{Account, after_start, upcoming, with_words}
use Rattle.run_books.specs.Retired.{retired_world}
use Rattle.run_books.specs.Stores.{MayStore}
use Rattle.exchange_run.specs.Runs.{MayRun, left_by, words_after}
use Rattle.run_engines.proofs.Starting.{entry_within}
use Rattle.exchange_run.proofs.Turning.{goes_on, may_be, may_retire, may_run, some_start, turn_more}
use Rattle.exchange_run.proofs.Turning.{upcoming_is}
use Rattle.shared_store.specs.declared.view.Top.{Top}
use Rattle.shared_store.specs.Loans.{Has, unlent}
use Rattle.job_runner.specs.Seen.{free_to_write}
use Rattle.lone_job.specs.Turns.{HasRetiredOn, HasTurnedAlone, MayTurn, RunEnds, arrived}
use Rattle.lone_job.proofs.Words.{free_stores}

-- what the job's run leaves
pub done_is : (own : Own) (over : Option Outcome) (done : JobDone) → done.sends ≡ own.sends → done.chain ≡ own.chain
    → Some done.outcome ≡ over → done ≡ done_of own over
done_is own over done sends chain outcome = λ i. record { sends = sends i; chain = chain i; outcome = outcome_of (outcome i) }

-- the number of the next job fits 64 bits
pub number_fits : (x : Exchange) (books : Account) (top : Top) → MayTurn x books top → books.state.ended + books.running + 1 < 2 ^ 64
number_fits x books top may =
    let few = (goes_on books.limit books.state may.turn.goes_on).few in
    let none = may.turn.nobody in
    let most = may.limited in
    omega (arith, few, none, most)

-- there is a next job
pub some_next : (x : Exchange) (books : Account) (top : Top) → MayTurn x books top → None ≡ upcoming books → ⊥
some_next x books top may none =
    let some = some_start books.state books.limit may.turn.goes_on in
    none-some some.0 (none ∙ upcoming_is books may.turn.nobody may.turn.goes_on ∙ some.1)

module _ (x : Exchange) (kept : IsExchange x) (books : Account) (top : Top) (may : MayTurn x books top)
    (start : JobStart) (next : Some start ≡ upcoming books) where
  pub may_run_here : MayRun x start top.values
  may_run_here = may_run x books start top.values next may.turn.nobody may.turn.goes_on may.turn.valid

  pub entry_here : (code : Code) → Faithful x code → start.job.entry < length code.entries
  entry_here code faithful = entry_within x code start top.values faithful may_run_here

  module _ (begun_books : Account) (begins : begun_books ≡ after_start (Some start) books) where
    runs : begun_books.running ≡ books.running + 1
    runs = ap (λ (b : Account). b.running) begins

    pub one_runs : 0 < begun_books.running
    one_runs = (let one = runs in omega (arith, one))

    pub may_be_here : MayBe begun_books.state start.job.forlopp
    may_be_here = may_be x books begun_books start top.values next may.turn.nobody may.turn.goes_on may.turn.valid begins

    module _ (done : JobDone) (is_done : done ≡ left_by x start top.values) (mid : Top) (mid_is : mid ≡ unlent (words_after x start top.values)) where
      now_is : mid.values ≡ words_after x start top.values
      now_is = ap (λ (t : Top). t.values) mid_is

      none : mid.loans ≡ []
      none = ap (λ (t : Top). t.loans) mid_is

      pub stores_here : MayStore (free_to_write mid) (retired_world x start done begun_books.state mid.values).trace
      stores_here =
          free_stores mid (retired_world x start done begun_books.state mid.values).trace
          (may_retire x books begun_books start done top.values mid.values kept next may.turn.nobody may.turn.goes_on may.turn.valid begins is_done now_is)
          (λ l has. absurd (subst (λ ls. Has ls l) none has))

      module _ (last : Account) (now : Top) (r : HasRetiredOn x start done begun_books mid last now) where
        nobody : r.settled.running ≡ 0
        nobody =
            let were = r.retired.running in
            let one = runs in
            let before = may.turn.nobody in
            omega (arith, were, one, before)

        same_limit : r.settled.limit ≡ books.limit
        same_limit = r.retired.limit ∙ ap (λ (b : Account). b.limit) begins

        last_is : last ≡ record r.settled { state = arrivals x r.settled.state }
        last_is = r.next_is ∙ ap (λ m. record r.settled { state = arrived x m r.settled.state }) nobody

        turned : with_words last.state now.values ≡ turn x (with_words books.state top.values)
        turned = turn_more x books begun_books r.settled last start done top.values mid.values now.values next
            may.turn.nobody may.turn.goes_on begins is_done now_is r.retired.state last_is

        pub has_turned : (code : Code) (run : Private) (steps : ℕ) → RunEnds code start top.values run mid
            → done ≡ done_of run.own run.over → steps ≡ run.made → HasTurnedAlone x code books top last now steps
        has_turned code run steps comes leaves made =
            let same : done ≡ done_of comes.end.run.own comes.end.run.over = leaves ∙ ap (λ (p : Private). done_of p.own p.over) comes.run_is in
            record {
              start = start;
              is_next = next;
              end = comes.end;
              ends = comes.ends;
              made = made ∙ ap (λ (p : Private). p.made) comes.run_is;
              settled = r.settled;
              left = r.retired.state ∙ λ i. retires x start (same i) (with_words (begins i).state (comes.words_are i));
              nobody = nobody;
              limit = same_limit;
              arrived = last_is;
              bare = r.loans ∙ none;
              turn = record {
                state = turned;
                nobody = ap (λ (b : Account). b.running) last_is ∙ nobody;
                limit = ap (λ (b : Account). b.limit) last_is ∙ same_limit;
              };
            }
