-- Each move of the dispatcher as events of the core of events.
use Rattle.std.proofs.Common.{◌≡◌, ℕ, ◌+◌, ◌%◌, ◌^◌, ◌<◌, List, [], ◌∷◌, ◌++◌, length, Some, refl}
use Rattle.std.proofs.Common.{sym, ap, ◌∙◌, subst, arith}
use Rattle.std.proofs.lemmas.List.{length-map, map-append}
use Rattle.std.specs.List.{AllByRecursion}
use Rattle.job_types.specs.declared.job.JobStart.{JobStart}
use Rattle.job_types.specs.Own.{done_of}
use Rattle.machine_code.specs.Coded.{Code}
use Rattle.machine_code.specs.declared.permit.Permit.{Permit}
use Rattle.exchange_model.specs.declared.exchange.Exchange.{Exchange}
use Rattle.source_meaning.specs.Arrivals.{arrivals}
use Rattle.source_meaning.specs.Retirement.{retires}
use Rattle.source_meaning.specs.State.{State, Coming}
use Rattle.machine_meaning.specs.Faithful.{Ends, begun, started}
use Rattle.machine_meaning.specs.Machine.{Machine}
use Rattle.checked.specs.Kept.{KeptSummaries}
use Rattle.order_laws.specs.Keeps.{NoLineBefore}
use Rattle.order_laws.proofs.Wording.{arrivals_over}
use Rattle.run_books.specs.Accounts.{Account, after_start, next_count, upcoming, with_words}
use Rattle.interleave_core.specs.declared.event.CoreEvent.TheVariants.{Issue}
use Rattle.interleave_core.specs.declared.window.WindowJob.{WindowJob}
use Rattle.interleave_core.specs.Allowed.{CanIssue, IsBefore, MayFollow}
use Rattle.interleave_core.specs.Cores.{Core, core_of, issues, lets_go, settles}
use Rattle.interleave_core.specs.Runs.{Runs, Setting, setting}
use Rattle.interleave_core.proofs.Picking.{next_with}
use Rattle.shared_store.specs.declared.view.Lent.{Lent}
use Rattle.shared_store.specs.declared.view.Top.{Top}
use Rattle.shared_store.specs.Loans.{lender, lent}
use Rattle.lone_job.specs.Turns.{arrived}
use Rattle.parallel_dispatch.specs.Flying.{starts_of}
use Rattle.parallel_dispatch.proofs.Issuing.{upcoming_parts}
use Rattle.parallel_dispatch.specs.Events.{IsIssued, IsLed, shown, standing, whole_turn}
use Rattle.parallel_dispatch.specs.Turning.{at_machine, turn_of}
use Rattle.parallel_dispatch.proofs.Counting.{steps_turn}
use Rattle.parallel_dispatch.proofs.Turning.{HasTurn, has_turn, runs_append, runs_one}

-- ## Issue

line_first : (lines : List Coming) (n : ℕ) → NoLineBefore (n + 1) lines → IsBefore (next_count lines) n
line_first [] n none = tt
line_first (l ∷ rest) n le = omega (arith, le)

follows_all : (k : KeptSummaries) (code : Code) (start : JobStart) (loans : List Lent)
    → AllByRecursion (λ (older : JobStart). MayFollow k older start) (starts_of loans)
    → AllByRecursion (λ (older : WindowJob). MayFollow k older.start start) (standing code loans)
follows_all k code start [] all = tt
follows_all k code start (l ∷ rest) all = (all.0, follows_all k code start rest all.1)

-- the next job may be issued, and the parts after the call show the next state of the core
pub is_issued : (x : Exchange) (code : Code) (k : KeptSummaries) (workers : ℕ) (books : Account) (top : Top)
    (loans : List Lent) (start : JobStart) (p : Permit) → books.running ≡ length loans → Some start ≡ upcoming books
    → length loans < workers → NoLineBefore (books.state.ended + length loans + 1) books.state.lines
    → AllByRecursion (λ (older : JobStart). MayFollow k older start) (starts_of loans)
    → IsIssued (setting x code k workers) books top loans (after_start (Some start) books) (lender start p top) (loans ++ lent top start p ∷ [])
is_issued x code k workers books top loans start p running next room line pass retired =
    let c = shown code books top loans retired in
    let parts = upcoming_parts books start next in
    let few = parts.0 in
    let long : length (standing code loans) ≡ length loans = length-map loans (λ (l : Lent). record { start = l.start; run = started code l.start }) in
    let can : CanIssue k workers c = record {
      start = start;
      picked = next_with books.state top.values ∙ parts.1;
      worker = omega (arith, long, room);
      limited = omega (arith, long, few, running);
      line = subst (λ n. IsBefore (next_count books.state.lines) (books.state.ended + n)) (sym long)
          (line_first books.state.lines (books.state.ended + length loans) line);
      follows = follows_all k code start loans pass;
    } in
    let there = shown code (after_start (Some start) books) (lender start p top) (loans ++ lent top start p ∷ []) retired in
    let same : issues code start c ≡ there =
    ap (λ jobs. core_of (after_start (Some start) books) top.values jobs retired)
    (sym (map-append (λ (l : Lent). record { start = l.start; run = started code l.start }) loans
    (lent top start p ∷ []))) in
    subst (Runs (setting x code k workers) (Issue ∷ []) c) same (runs_one (setting x code k workers) c Issue can)

-- ## The oldest job finishes and retires

settles_shown : (x : Exchange) (code : Code) (rest : List Lent) (s : State) (words : List ℕ) (t : State)
    → t ≡ with_words s words → settles x (standing code rest) t ≡ with_words (arrived x (length rest) s) words
settles_shown x code [] s words t is = ap (arrivals x) is ∙ arrivals_over x s words
settles_shown x code (l ∷ rest) s words t is = is

module _ (x : Exchange) (code : Code) (k : KeptSummaries) (workers : ℕ) (books : Account) (top : Top) (start : JobStart)
    (rest : List Lent) (end : Machine) (ends : Ends code.ops (begun (started code start) top.values) end)
    (next : Account) (words : List ℕ)
    (left : with_words next.state words ≡ retires x start (done_of end.run.own end.run.over)
    (with_words books.state end.world.store)) (running : next.running ≡ length rest)
    (limit : next.limit ≡ books.limit) (now : Top) (values : now.values ≡ words) where
  abbrev last : Account
  last = record next { state = arrived x next.running next.state }

  -- the state of the core after the retirement is the one shown
  gone_is : (c : Core) (retired : ℕ) → c.state ≡ with_words books.state top.values → c.limit ≡ books.limit → c.retired ≡ retired
      → lets_go x (record { start = start; run = end.run }) (standing code rest)
      (at_machine c start (standing code rest) end) ≡ shown code last now rest (retired + 1)
  gone_is c retired state_is limit_is retired_is =
      let done = done_of end.run.own end.run.over in
      let state : settles x (standing code rest) (retires x start done (record c.state { store = end.world.store })) ≡ with_words last.state now.values =
      settles_shown x code rest next.state words (retires x start done (record c.state { store = end.world.store }))
      (ap (λ (s : State). retires x start done (record s { store = end.world.store })) state_is ∙ sym left)
      ∙ (λ i. with_words (arrived x (sym running i) next.state) (sym values i)) in
      λ i. record { state = state i; limit = (limit_is ∙ sym limit) i; window = standing code rest; retired = retired_is i + 1 }

  abbrev k' : Setting
  k' = setting x code k workers

  turn : HasTurn k' start top.values end
  turn = has_turn k' start top.values end ends

  -- a job that was in flight retires
  pub turn_led : (l : Lent) → l.start ≡ start → (made : ℕ) → made ≡ end.run.made
      → IsLed (setting x code k workers) turn_of books top (l ∷ rest) last now rest made
  turn_led l is made made_is = record {
    count = turn.count;
    counted = λ job. made_is ∙ turn.made ∙ ap (λ n. n % 2 ^ 64) (sym (steps_turn turn.count job));
    runs = λ retired.
        let c = shown code books top (l ∷ rest) retired in
        subst (Runs k' (turn_of turn.count (retired + 1)) c) (gone_is c retired refl refl refl)
        (turn.runs c (standing code rest) (ap (λ (a : JobStart). record { start = a; run = started code a } ∷ standing code rest) is) refl);
  }

-- ## A job runs alone: it is issued, runs and retires at once

pub issue_then_turn : (k : Setting) (books mid next : Account) (top lends now : Top) (loans between left : List Lent)
    (made : ℕ) → IsIssued k books top loans mid lends between → IsLed k turn_of mid lends between next now left made
    → IsLed k whole_turn books top loans next now left made
issue_then_turn k books mid next top lends now loans between left made issue turn = record {
  count = turn.count;
  counted = turn.counted;
  runs = λ retired. runs_append k (Issue ∷ []) (turn_of turn.count (retired + 1)) (shown k.code books top loans retired)
      (shown k.code mid lends between retired) (shown k.code next now left (retired + 1)) (issue retired)
      (turn.runs retired);
}
