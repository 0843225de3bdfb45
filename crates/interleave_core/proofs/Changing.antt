-- What is left after an event was made.
use Rattle.std.proofs.Common.{◌≡◌, ℕ, ◌+◌, ◌<◌, List, [], ◌∷◌, length, get_or, drop, Option, Some}
use Rattle.std.proofs.Common.{None, refl, sym, ap, ◌∙◌, subst, slice_get, arith}
use Rattle.std.proofs.lemmas.Option.{get_or_from_slice_get, same_Some, slice_get-get_or}
use Rattle.std.specs.Prelude.{IsSome, slice_set}
use Rattle.job_types.specs.declared.job.JobStart.{JobStart}
use Rattle.job_types.specs.declared.outcome.JobDone.{JobDone}
use Rattle.job_types.specs.declared.outcome.Outcome.{Outcome}
use Rattle.job_types.specs.Own.{Own, done_of, outcome_of}
use Rattle.machine_code.specs.Coded.{Code}
use Rattle.machine_code.specs.declared.op.Op.{Op}
use Rattle.machine_code.specs.Listed.{is_word_of}
use Rattle.exchange_model.specs.declared.exchange.Exchange.{Exchange}
use Rattle.source_meaning.specs.Retirement.{retires}
use Rattle.source_meaning.specs.State.{State}
use Rattle.run_books.specs.Accounts.{Account, upcoming, with_words}
use Rattle.run_books.specs.Retired.{retired_world}
use Rattle.run_books.specs.Stores.{MayStore}
use Rattle.machine_meaning.specs.Private.{Private}
use Rattle.machine_meaning.specs.Machine.{stepped}
use Rattle.run_books.proofs.Arriving.{arrivals_with}
use Rattle.checked.specs.Kept.{KeptSummaries}
use Rattle.interleave_core.specs.declared.event.CoreEvent.{CoreEvent}
use Rattle.interleave_core.specs.declared.event.CoreEvent.TheVariants.{Issue, Step, Retire}
use Rattle.interleave_core.specs.declared.window.RunningCore.{RunningCore}
use Rattle.interleave_core.specs.declared.window.WindowJob.{WindowJob}
use Rattle.interleave_core.specs.Allowed.{IsAllowed, after_event}
use Rattle.interleave_core.specs.Cores.{Core, issues, lets_go, running_core, settles, steps}
use Rattle.interleave_core.specs.Making.{Becomes, CanGo, CanMake, HasLeft, HasStepped, Steppable}
use Rattle.interleave_core.specs.Safe.{IsSafe, MayRetire}
use Rattle.interleave_core.proofs.Enabling.{is_upcoming}
use Rattle.interleave_core.proofs.Picking.{next_with}

-- ## Step

-- the job at a place may make its next instruction
pub it_may : (code : List Op) (words : List ℕ) (window : List WindowJob) (place : ℕ) (d : WindowJob)
    → place < length window → ((own : WindowJob) → slice_get window place ≡ Some own → Steppable code words own)
    → Steppable code words (get_or window place d)
it_may code words window place d lt may = may (get_or window place d) (slice_get-get_or window place d lt)

pub has_moved : (code : List Op) (window : List WindowJob) (place : ℕ) (d own : WindowJob) (words now : List ℕ)
    (run : Private) → slice_get window place ≡ Some own → run ≡ (stepped code (get_or window place d).run words).run
    → now ≡ (stepped code (get_or window place d).run words).world.store
    → HasStepped code place own window (slice_set window place
    (record { start = (get_or window place d).start; run = run })) words now
has_moved code window place d own words now run there run_is words_are =
    let same : get_or window place d ≡ own = get_or_from_slice_get window place own d there in
    record {
      window_is = (λ i. slice_set window place
          (record {
            start = (same i).start;
            run = (run_is ∙ ap (λ (j : WindowJob). (stepped code j.run words).run) same)
                i;
          }));
      words_are = words_are ∙ ap (λ (j : WindowJob). (stepped code j.run words).world.store) same;
    }

-- ## Retire

-- what the job leaves
pub done_is : (own : Own) (over : Option Outcome) (done : JobDone) → done.sends ≡ own.sends → done.chain ≡ own.chain
    → Some done.outcome ≡ over → done ≡ done_of own over
done_is own over done sends chain outcome = λ i. record { sends = sends i; chain = chain i; outcome = outcome_of (outcome i) }

-- the job that stands first
pub first_is : (jobs : List WindowJob) (job : WindowJob) → 0 < length jobs → job ≡ get_or jobs 0 job → jobs ≡ job ∷ drop 1 jobs
first_is [] job lt is = absurd (omega arith)
first_is (oldest ∷ younger) job lt is = ap (λ j. j ∷ younger) (sym is)

-- what its retirement asks for
pub may_go : (x : Exchange) (r : RunningCore) (job : WindowJob) → CanGo x r → 0 < length r.window.items
    → job ≡ get_or r.window.items 0 job → IsSome job.run.over × MayRetire x job r.books.state r.words
may_go x r job can some is = can job (drop 1 r.window.items) (first_is r.window.items job some is)

pub may_store : (x : Exchange) (job : WindowJob) (done : JobDone) (s : State) (words : List ℕ) → MayRetire x job s words
    → done.sends ≡ job.run.own.sends → done.chain ≡ job.run.own.chain → Some done.outcome ≡ job.run.over
    → MayStore (is_word_of words) (retired_world x job.start done s words).trace
may_store x job done s words may sends chain outcome =
    subst (λ d. MayStore (is_word_of words) (retired_world x job.start d s words).trace)
    (sym (done_is job.run.own job.run.over done sends chain outcome)) may.stores

-- the words are of no account where lines arrive
settles_with : (x : Exchange) (jobs : List WindowJob) (s : State) (words : List ℕ) → with_words (settles x jobs s) words ≡ settles x jobs (with_words s words)
settles_with x [] s words = sym (arrivals_with x s words)
settles_with x (job ∷ rest) s words = refl

-- the books count those that are left
pub left_running : (x : Exchange) (old mid : RunningCore) → 0 < length old.window.items
    → ((oldest : WindowJob) (younger : List WindowJob) → old.window.items ≡ oldest ∷ younger
    → HasLeft x oldest younger old mid) → old.books.running ≡ length old.window.items
    → mid.books.running ≡ length mid.window.items
left_running x old mid some left runs = by old.window.items refl
  where
    by : (jobs : List WindowJob) → old.window.items ≡ jobs → mid.books.running ≡ length mid.window.items
    by [] is = let none : length old.window.items ≡ 0 = ap length is in absurd (omega (arith, some, none))
    by (oldest ∷ younger) is =
        let l = left oldest younger is in
        let fewer = l.running in
        let long : length old.window.items ≡ length younger + 1 = ap length is ∙ omega arith in
        let now : length mid.window.items ≡ length younger = ap length l.window in
        omega (arith, fewer, long, now, runs)

pub has_gone : (x : Exchange) (old mid new : RunningCore) (oldest : WindowJob) (younger : List WindowJob)
    → HasLeft x oldest younger old mid → new.books
    ≡ record mid.books { state = settles x mid.window.items mid.books.state } → new.words ≡ mid.words
    → new.window.items ≡ mid.window.items → new.retired ≡ mid.retired → old.books.running ≡ length old.window.items
    → old.window.items ≡ oldest ∷ younger → Becomes (lets_go x oldest younger (running_core old)) new
has_gone x old mid new oldest younger left books words window retired runs first =
    record { core = here; running = counted }
  where
    state_is : with_words new.books.state new.words
        ≡ settles x younger (retires x oldest.start (done_of oldest.run.own oldest.run.over)
        (with_words old.books.state old.words))
    state_is =
        (λ i. with_words (books i).state (words i))
        ∙ settles_with x mid.window.items mid.books.state mid.words
        ∙ (λ i. settles x (left.window i) (left.state i))

    limit_is : new.books.limit ≡ old.books.limit
    limit_is = ap (λ (b : Account). b.limit) books ∙ left.limit

    window_is : new.window.items ≡ younger
    window_is = window ∙ left.window

    retired_is : new.retired ≡ old.retired + 1
    retired_is = retired ∙ left.retired

    whole : State → ℕ → List WindowJob → ℕ → Core
    whole s l js n = record { state = s; limit = l; window = js; retired = n }

    here : running_core new ≡ lets_go x oldest younger (running_core old)
    here = λ i. whole (state_is i) (limit_is i) (window_is i) (retired_is i)

    counted : new.books.running ≡ length new.window.items
    counted =
        let same : new.books.running ≡ mid.books.running = ap (λ (b : Account). b.running) books in
        let fewer = left.running in
        let long : length old.window.items ≡ length younger + 1 = ap length first ∙ omega arith in
        let now : length new.window.items ≡ length younger = ap length window_is in
        omega (arith, same, fewer, long, now, runs)

-- ## Any event

-- whoever allows the event, this is the core after it
abbrev pub MadeAs : Exchange → Code → RunningCore → RunningCore → CoreEvent → Type 0
MadeAs x code old new e = (kept : KeptSummaries) (workers : ℕ) (can : IsAllowed kept workers (running_core old) e)
    → Becomes (after_event x code kept workers (running_core old) e can) new

pub made_issue : (x : Exchange) (code : Code) (old new : RunningCore) (e : CoreEvent) → e ≡ Issue
    → old.books.running ≡ length old.window.items
    → ((start : JobStart) → upcoming old.books ≡ Some start → Becomes (issues code start (running_core old)) new)
    → MadeAs x code old new e
made_issue x code old new e is runs made =
    subst (MadeAs x code old new) (sym is)
    (λ kept workers can. made can.start (is_upcoming kept workers old.books old.words old.window.items old.retired runs can))

pub made_step : (x : Exchange) (code : Code) (old new : RunningCore) (e : CoreEvent) (job : ℕ) → e ≡ Step job
    → ((place : ℕ) (own : WindowJob) → old.retired + place + 1 ≡ job → slice_get old.window.items place ≡ Some own
    → Becomes (steps code place own (running_core old)) new) → MadeAs x code old new e
made_step x code old new e job is made =
    subst (MadeAs x code old new) (sym is) (λ kept workers can. made can.place can.job can.numbered can.there)

pub made_retire : (x : Exchange) (code : Code) (old new : RunningCore) (e : CoreEvent) → e ≡ Retire
    → ((oldest : WindowJob) (younger : List WindowJob) → old.window.items ≡ oldest ∷ younger
    → Becomes (lets_go x oldest younger (running_core old)) new) → MadeAs x code old new e
made_retire x code old new e is made =
    subst (MadeAs x code old new) (sym is) (λ kept workers can. made can.oldest can.younger can.first)

-- what is allowed in a core in which all that is allowed can be made
pub can_make : (x : Exchange) (code : Code) (kept : KeptSummaries) (workers : ℕ) (r : RunningCore) (e : CoreEvent)
    → IsSafe x code kept (running_core r) → IsAllowed kept workers (running_core r) e → CanMake x code r e
can_make x code kept workers r Issue safe can = λ start is. (safe.pick start (next_with r.books.state r.words ∙ is)).address
can_make x code kept workers r (Step job) safe can = λ place own numbered there.
    let here = can.numbered in
    let at : can.place ≡ place = omega (arith, here, numbered) in
    let same : can.job ≡ own = same_Some can.job own (sym can.there ∙ ap (slice_get r.window.items) at ∙ there) in
    let runs : own.run.over ≡ None = ap (λ (j : WindowJob). j.run.over) (sym same) ∙ can.runs in
    record { runs = runs; may = safe.steps place own there runs }
can_make x code kept workers r Retire safe can = λ oldest younger first.
    let its : can.oldest ≡ oldest = same_Some can.oldest oldest (ap (λ js. slice_get js 0) (sym can.first ∙ first)) in
    let over : IsSome oldest.run.over = subst (λ (j : WindowJob). IsSome j.run.over) its can.over in
    (over, safe.retires oldest younger r.books.state first over refl)
