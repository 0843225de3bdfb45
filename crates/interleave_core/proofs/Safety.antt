-- In a core that follows the single run each event that is allowed can be made.
use Rattle.std.proofs.Common.{◌≡◌, ℕ, ◌<◌, List, ◌∷◌, length, Some, None, slice_get, sym, ap, ◌∙◌}
use Rattle.std.proofs.Common.{subst, arith}
use Rattle.std.specs.Prelude.{IsSome}
use Rattle.std.specs.List.{AllByRecursion}
use Rattle.job_types.specs.declared.job.JobStart.{JobStart}
use Rattle.job_types.specs.Forlopps.{is_dead}
use Rattle.job_types.proofs.Touched.{length-stored}
use Rattle.machine_code.specs.Coded.{Code}
use Rattle.machine_code.specs.Listed.{is_word_of}
use Rattle.exchange_model.specs.declared.exchange.Exchange.{Exchange}
use Rattle.exchange_model.specs.Kept.{IsExchange}
use Rattle.source_meaning.specs.Job.{job}
use Rattle.source_meaning.specs.State.{State}
use Rattle.source_meaning.specs.Valid.{IsFitting}
use Rattle.source_meaning.proofs.States.{IsLater, may_later}
use Rattle.run_books.specs.Accounts.{with_words}
use Rattle.run_books.specs.Retired.{retired_world}
use Rattle.run_books.specs.Stores.{MayStore}
use Rattle.run_books.proofs.Cells.{may_store, retired_inside}
use Rattle.machine_meaning.specs.Faithful.{Faithful}
use Rattle.machine_meaning.specs.Steps.{MayStep}
use Rattle.checked.specs.Kept.{KeptSummaries}
use Rattle.order_laws.specs.Windows.{done_by}
use Rattle.order_laws.proofs.Following.{ahead_live}
use Rattle.interleave_core.specs.declared.window.WindowJob.{WindowJob}
use Rattle.interleave_core.specs.Allowed.{MayFollow}
use Rattle.interleave_core.specs.Cores.{Core}
use Rattle.interleave_core.specs.Follows.{one_after_other}
use Rattle.interleave_core.specs.Runs.{Runs}
use Rattle.interleave_core.specs.Runs as runs
use Rattle.interleave_core.specs.Safe.{HasEntry, HasSummary, IsSafe, MayRetire, StaysSafe}
use Rattle.interleave_core.proofs.Following.{Beside, first_at, follows_runs, job_at, stands_at}
use Rattle.interleave_core.proofs.Following.{window_in}
use Rattle.interleave_core.proofs.Joining.{PairsGive, Progress, Shares, all_fit, may_step}
use Rattle.interleave_core.proofs.Joining.{next_is_job, retire, run_of, starts_of, touches_of}
use Rattle.plex_num.proofs.Lists.{all_weaker}

module _ (x : Exchange) (kept : IsExchange x) (code : Code) (faithful : Faithful x code) (facts : KeptSummaries)
    (pairs : PairsGive x (MayFollow facts)) (each : length facts.summaries ≡ length x.entries) (first : State) where
  abbrev Follows : Core → Type 0
  Follows c = Beside x code (MayFollow facts) first c

  has_entry : (start : JobStart) → start.job.entry < length x.entries → HasEntry code facts start
  has_entry start lt =
      let all = faithful.entries in
      record { summary = omega (arith, lt, each); address = omega (arith, lt, all) }

  module _ (c : Core) (f : Beside x code (MayFollow facts) first c) where
    abbrev s : State
    s = f.state

    fit_all : AllByRecursion (IsFitting x s) (starts_of f.jobs)
    fit_all = all_fit x kept code faithful (MayFollow facts) pairs s f.jobs c.state f.shares

    tests_safe : AllByRecursion (λ (job : WindowJob). HasSummary facts job.start) c.window
    tests_safe =
        subst (AllByRecursion (λ (job : WindowJob). HasSummary facts job.start)) (sym f.window)
        (window_in (HasSummary facts) code s.store f.jobs
        (all_weaker (IsFitting x s) (HasSummary facts) (starts_of f.jobs) (λ start fits. (has_entry start fits.job.entry).summary) fit_all))

    steps_safe : (place : ℕ) (job : WindowJob) → slice_get c.window place ≡ Some job → job.run.over ≡ None
        → MayStep code.ops (is_word_of c.state.store) (is_word_of c.state.store) job.run
    steps_safe place job at runs =
        let r = job_at code s.store f.jobs place job (ap (λ l. slice_get l place) (sym f.window) ∙ at) in
        let here : (run_of code s.store r.progress).run.over ≡ None = ap (λ (k : WindowJob). k.run.over) (sym r.is) ∙ runs in
        subst (λ (k : WindowJob). MayStep code.ops (is_word_of c.state.store) (is_word_of c.state.store) k.run) (sym r.is)
        (may_step x kept code faithful (MayFollow facts) pairs s f.jobs c.state f.shares place r.progress r.there here)

    retires_at : (j : Progress) (js : List Progress) → Shares x code (MayFollow facts) s (j ∷ js) c.state
        → IsSome (run_of code s.store j).run.over → (t : State) → with_words t c.state.store ≡ c.state
        → MayRetire x (stands_at code s.store j) t c.state.store
    retires_at j js h over t same =
        let words = c.state.store in
        let live = (ahead_live x s (starts_of (j ∷ js)) c.state h.valid h.ahead).0 in
        let next : t.next ≡ c.state.next = ap (λ (u : State). u.next) same in
        let dead = ap (λ (u : State). u.dead) same in
        let later : IsLater c.state t = record { next = omega arith; dead = λ n alive. ap (λ d. is_dead d n) dead ∙ alive } in
        let chains : t.chains ≡ s.chains = ap (λ (u : State). u.chains) same ∙ ap (λ (u : State). u.chains) h.ahead.same in
        let fits = all_fit x kept code faithful (MayFollow facts) pairs s (j ∷ js) c.state h in
        let whole : length words ≡ x.cells =
        ap length h.words ∙ length-stored (one_after_other (touches_of code s.store (j ∷ js))) s.store ∙ h.valid.store.whole in
        let few = kept.limited.cells in
        let r = retire x kept code faithful (MayFollow facts) pairs s j js c.state h over in
        let stores : MayStore (is_word_of words) (retired_world x j.start (done_by (job x j.start s.store)) t words).trace =
        may_store x words (retired_world x j.start (done_by (job x j.start s.store)) t words).trace whole
        (omega (arith, few)) (retired_inside x kept s t j.start words h.valid fits.0 chains) in
        record {
          forlopp = may_later later j.start.job.forlopp live;
          stores = subst (λ d. MayStore (is_word_of words) (retired_world x j.start d t words).trace) (sym r.done) stores;
        }

    retires_safe : (oldest : WindowJob) (younger : List WindowJob) (t : State) → c.window ≡ oldest ∷ younger
        → IsSome oldest.run.over → with_words t c.state.store ≡ c.state → MayRetire x oldest t c.state.store
    retires_safe oldest younger t is over same =
        let r = first_at code s.store f.jobs oldest younger (sym f.window ∙ is) in
        let h : Shares x code (MayFollow facts) s (r.progress ∷ r.others) c.state = subst (λ l. Shares x code (MayFollow facts) s l c.state) r.here f.shares in
        subst (λ (k : WindowJob). MayRetire x k t c.state.store) (sym r.is)
        (retires_at r.progress r.others h (subst (λ (k : WindowJob). IsSome k.run.over) r.is over) t same)

    pub follows_safe : IsSafe x code facts c
    follows_safe = record {
      pick = λ start is. has_entry start (next_is_job x s (starts_of f.jobs) c.state start f.shares.valid f.shares.ahead is).entry;
      tests = tests_safe;
      steps = steps_safe;
      retires = retires_safe;
    }

  -- so it is wherever events lead
  pub follows_stays_safe : (workers : ℕ) (c : Core) → Follows c → StaysSafe (runs.setting x code facts workers) c
  follows_stays_safe workers c f = λ events d r. follows_safe d (follows_runs x kept code faithful facts pairs first workers events c d f r)
