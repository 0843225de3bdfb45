-- Which events are allowed, as the tests of the code find out.
use Rattle.std.proofs.Common.{◌≡◌, ◌↔◌, ℕ, ◌+◌, ◌<◌, ◌≤◌, Bool, true, false, List, [], ◌∷◌, length}
use Rattle.std.proofs.Common.{get_or, take, Option, Some, None, refl, sym, ◌∙◌, subst, arith}
use Rattle.std.proofs.lemmas.List.{take_all, take_more}
use Rattle.std.proofs.lemmas.Option.{none-some, same_Some, slice_get_read, slice_get_within}
use Rattle.std.specs.Prelude.{IsTrue}
use Rattle.std.specs.List.{AllByRecursion}
use Rattle.job_types.specs.declared.job.JobStart.{JobStart}
use Rattle.plex_num.proofs.Lists.{all_append, all_at}
use Rattle.run_books.specs.Accounts.{Account, next_count, upcoming}
use Rattle.pair_tests.specs.Pairs.{Passes}
use Rattle.checked.specs.Kept.{KeptSummaries}
use Rattle.interference_check.specs.Pairs.{OfPair}
use Rattle.interleave_core.specs.declared.window.WindowJob.{WindowJob}
use Rattle.interleave_core.specs.Cores.{Core, core_of}
use Rattle.interleave_core.specs.Allowed.{CanIssue, CanStep, IsBefore, MayFollow}
use Rattle.interleave_core.proofs.Picking.{next_with, upcoming_from, upcoming_parts}

-- ## What is never allowed

not_allowed : (P : Type 0) → (P → ⊥) → IsTrue false ↔ P
not_allowed P never = (λ t. cc, λ p. absurd (never p))

-- ## The tests of pairs

-- the job passes all tests with the first one, where the tests of what is kept of their entries
-- tell it
pub follows_by : (kept : KeptSummaries) (first later : JobStart) (r : Bool)
    → OfPair kept first.job.entry later.job.entry (λ one other. IsTrue r ↔ Passes one other first later)
    → IsTrue r ↔ MayFollow kept first later
follows_by kept first later r told = (
  λ t. record { one = told.one; other = told.other; of_first = told.of_first; of_later = told.of_later; holds = told.holds.0 t },
  λ may. told.holds.1
      (subst (λ m. Passes m told.other first later) (same_Some may.one told.one (sym may.of_first ∙ told.of_first))
      (subst (λ n. Passes may.one n first later) (same_Some may.other told.other (sym may.of_later ∙ told.of_later)) may.holds)),
)

-- the job passes all tests with these
abbrev pub FollowsAll : KeptSummaries → JobStart → List WindowJob → Type 0
FollowsAll kept later jobs = AllByRecursion (λ (older : WindowJob). MayFollow kept older.start later) jobs

pub follows_more : (kept : KeptSummaries) (later : JobStart) (jobs : List WindowJob) (i : ℕ) (job : WindowJob)
    → i < length jobs → job ≡ get_or jobs i job → MayFollow kept job.start later → FollowsAll kept later (take i jobs)
    → FollowsAll kept later (take (i + 1) jobs)
follows_more kept later jobs i job lt is one all =
    subst (FollowsAll kept later) (sym (take_more jobs i job lt))
    (all_append (λ (older : WindowJob). MayFollow kept older.start later) (take i jobs) (get_or jobs i job ∷ []) all
    (subst (λ (j : WindowJob). MayFollow kept j.start later) is one, tt))

pub follows_not : (kept : KeptSummaries) (later : JobStart) (jobs : List WindowJob) (i : ℕ) (job : WindowJob)
    → i < length jobs → job ≡ get_or jobs i job → (MayFollow kept job.start later → ⊥)
    → IsTrue false ↔ FollowsAll kept later jobs
follows_not kept later jobs i job lt is never =
    not_allowed (FollowsAll kept later jobs)
    (λ all. never (all_at (λ (older : WindowJob). MayFollow kept older.start later) jobs i job all (slice_get_read jobs (length jobs) i job refl lt is)))

pub follows_end : (kept : KeptSummaries) (later : JobStart) (jobs : List WindowJob)
    → FollowsAll kept later (take (length jobs) jobs) → IsTrue true ↔ FollowsAll kept later jobs
follows_end kept later jobs all = (λ t. subst (FollowsAll kept later) (take_all (length jobs) jobs (omega arith)) all, λ a. refl)

-- ## Issue

module _ (kept : KeptSummaries) (workers : ℕ) (b : Account) (words : List ℕ) (window : List WindowJob) (retired : ℕ) (runs : b.running ≡ length window) where
  abbrev pub Here : Type 0
  Here = CanIssue kept workers (core_of b words window retired)

  pub is_upcoming : (can : Here) → upcoming b ≡ Some can.start
  is_upcoming can =
      let lt = can.limited in
      upcoming_from b can.start (omega (arith, lt, runs)) (sym (next_with b.state words) ∙ can.picked)

  pub no_worker : workers ≤ length window → IsTrue false ↔ Here
  no_worker le = not_allowed Here (λ can. let lt = can.worker in omega (arith, le, lt))

  pub no_job : None ≡ upcoming b → IsTrue false ↔ Here
  no_job none = not_allowed Here (λ can. none-some can.start (none ∙ is_upcoming can))

  pub line_first : (IsBefore (next_count b.state.lines) (b.state.ended + length window) → ⊥) → IsTrue false ↔ Here
  line_first never = not_allowed Here (λ can. never can.line)

  pub tested : (start : JobStart) (r : Bool) (line : Option ℕ) (ended running : ℕ) (jobs : List WindowJob)
      → Some start ≡ upcoming b → line ≡ next_count b.state.lines → ended ≡ b.state.ended → running ≡ length window
      → jobs ≡ window → running < workers → IsBefore line (ended + running) → (IsTrue r ↔ FollowsAll kept start jobs)
      → IsTrue r ↔ Here
  tested start r line ended running jobs is line_is ended_is running_is jobs_are worker before follows =
      let parts = upcoming_parts b start (sym is) in
      let lt = parts.0 in
      let line_before : IsBefore (next_count b.state.lines) (b.state.ended + length window) =
      subst (λ o. IsBefore o (b.state.ended + length window)) line_is
      (subst (λ n. IsBefore line (b.state.ended + n)) running_is (subst (λ n. IsBefore line (n + running)) ended_is before)) in (
        λ t. record {
          start = start;
          picked = next_with b.state words ∙ parts.1;
          worker = omega (arith, worker, running_is);
          limited = omega (arith, lt, runs);
          line = line_before;
          follows = subst (FollowsAll kept start) jobs_are (follows.0 t);
        },
        λ can. follows.1 (subst (FollowsAll kept start) (sym jobs_are)
            (subst (λ s. FollowsAll kept s window) (sym (same_Some start can.start (is ∙ is_upcoming can)))
            can.follows)),
      )

-- ## Step

pub no_step : (c : Core) (number : ℕ) → ((place : ℕ) → place < length c.window → c.retired + place + 1 ≡ number → ⊥) → IsTrue false ↔ CanStep c number
no_step c number never = not_allowed (CanStep c number) (λ can. never can.place (slice_get_within c.window can.place can.job can.there) can.numbered)
