-- Events that leave the window empty when the run is over have led to the end of the single run.
use Rattle.std.proofs.Common.{◌≡◌, ⊎_elim, ℕ, ◌+◌, ◌<◌, List, [], ◌∷◌, ◌++◌, length, get_or, Some}
use Rattle.std.proofs.Common.{refl, sym, ap, ◌∙◌, subst, slice_get, arith, length-set}
use Rattle.std.proofs.lemmas.Bool.{cases_eq}
use Rattle.std.proofs.lemmas.List.{length-map}
use Rattle.std.proofs.lemmas.Option.{slice_get-get_or}
use Rattle.job_types.specs.Own.{done_of}
use Rattle.machine_code.specs.Coded.{Code}
use Rattle.exchange_model.specs.declared.exchange.Exchange.{Exchange}
use Rattle.exchange_model.specs.Kept.{IsExchange}
use Rattle.source_meaning.specs.Retirement.{retires}
use Rattle.source_meaning.specs.SingleRun.{Ending, after, ending_at, jobs_at_end}
use Rattle.source_meaning.specs.State.{State}
use Rattle.machine_meaning.specs.Faithful.{Faithful, started}
use Rattle.checked.specs.Kept.{KeptSummaries}
use Rattle.order_laws.proofs.Arriving.{arrivals_keep}
use Rattle.order_laws.proofs.Keeping.{retire_keeps}
use Rattle.order_laws.specs.Windows.{turns}
use Rattle.machine_meaning.specs.Machine.{stepped}
use Rattle.order_laws.proofs.Turning.{after_more, window_limit}
use Rattle.exchange_run.proofs.Ending.{ends_at}
use Rattle.interleave_core.specs.declared.event.CoreEvent.{CoreEvent}
use Rattle.interleave_core.specs.declared.event.CoreEvent.TheVariants.{Issue, Step, Retire}
use Rattle.interleave_core.specs.declared.window.WindowJob.{WindowJob}
use Rattle.interleave_core.specs.Allowed.{CanIssue, IsAllowed, MayFollow, after_event}
use Rattle.interleave_core.specs.Cores.{Core, issues, lets_go, settles, steps}
use Rattle.interleave_core.specs.Runs.{Runs}
use Rattle.interleave_core.specs.Runs as runs
use Rattle.interleave_core.proofs.Following.{Beside, follows_event, follows_single_run, stands_at}
use Rattle.interleave_core.proofs.Joining.{PairsGive, Progress, starts_of}
use Rattle.parallel_dispatch.specs.Ending.{Went}

module _ (x : Exchange) (kept : IsExchange x) (code : Code) (faithful : Faithful x code) (facts : KeptSummaries)
    (pairs : PairsGive x (MayFollow facts)) (first : State) where
  abbrev Follows : Core → Type 0
  Follows c = Beside x code (MayFollow facts) first c

  long_more : (jobs : List WindowJob) (job : WindowJob) → length (jobs ++ job ∷ []) ≡ length jobs + 1
  long_more [] job = refl
  long_more (j ∷ jobs) job = (let e = long_more jobs job in omega (arith, e))

  went_issue : (workers : ℕ) (c : Core) (can : CanIssue facts workers c) → Follows (issues code can.start c)
      → Went x first c → Went x first (issues code can.start c)
  went_issue workers c can f w =
      let s = f.state in
      let starts = starts_of f.jobs in
      let n = length c.window in
      let long : length starts ≡ n + 1 =
      length-map f.jobs (λ (j : Progress). j.start) ∙ sym (length-map f.jobs (stands_at code s.store))
      ∙ sym (ap length f.window) ∙ long_more c.window (record { start = can.start; run = started code can.start })
      in
      let ended : c.state.ended ≡ s.ended = ap (λ (t : State). t.ended) f.shares.ahead.same in
      let lt : c.state.ended + n < c.limit = can.limited in
      let were = w.counted in
      let last = get_or starts n can.start in
      let at : slice_get starts n ≡ Some last = slice_get-get_or starts n can.start (omega (arith, long)) in
      let none = window_limit x kept starts s n last c.limit f.shares.valid f.shares.ahead.window at (omega (arith, long, ended, lt)) in
      let here : after x first (c.retired + n) ≡ turns x s n = after_more x first c.retired n ∙ ap (λ t. turns x t n) (sym f.turn_is) in
      record {
        counted = were;
        few = (let more = long_more c.window (record { start = can.start; run = started code can.start }) in omega (arith, more, lt, were));
        goes_on = λ m less. ⊎_elim (λ same. ap (λ i. ending_at c.limit (after x first i)) same
            ∙ ap (ending_at c.limit) here ∙ none)
            (λ other. w.goes_on m (let ne = other in let more = long_more c.window
            (record { start = can.start; run = started code can.start }) in grind (arith, less, ne, more)))
            (cases_eq m (c.retired + n));
      }

  went_step : (c : Core) (place : ℕ) (job : WindowJob) → Went x first c → Went x first (steps code place job c)
  went_step c place job w =
      let same : length (steps code place job c).window
      ≡ length c.window = length-set c.window place
      (record { start = job.start; run = (stepped code.ops job.run c.state.store).run }) in
      let were = w.few in
      record {
        counted = w.counted;
        few = omega (arith, same, were);
        goes_on = λ n less. w.goes_on n (omega (arith, less, same));
      }

  settled_ended : (jobs : List WindowJob) (s : State) → (settles x jobs s).ended ≡ s.ended
  settled_ended [] s = (arrivals_keep x s).ended
  settled_ended (job ∷ rest) s = refl

  went_retire : (c : Core) (oldest : WindowJob) (younger : List WindowJob) → c.window ≡ oldest ∷ younger
      → Went x first c → Went x first (lets_go x oldest younger c)
  went_retire c oldest younger is w =
      let done = done_of oldest.run.own oldest.run.over in
      let ended : (lets_go x oldest younger c).state.ended ≡ c.state.ended + 1 =
      settled_ended younger (retires x oldest.start done c.state) ∙ (retire_keeps x oldest.start done c.state).ended in
      let long : length c.window ≡ length younger + 1 = ap length is ∙ omega arith in
      let were = w.few in
      let count = w.counted in
      record {
        counted = omega (arith, ended, count);
        few = omega (arith, long, were);
        goes_on = λ n less. w.goes_on n (omega (arith, less, long));
      }

  went_event : (workers : ℕ) (c : Core) (e : CoreEvent) (can : IsAllowed facts workers c e)
      → Follows (after_event x code facts workers c e can) → Went x first c
      → Went x first (after_event x code facts workers c e can)
  went_event workers c Issue can f w = went_issue workers c can f w
  went_event workers c (Step number) can f w = went_step c can.place can.job w
  went_event workers c Retire can f w = went_retire c can.oldest can.younger can.first w

  pub went_runs : (workers : ℕ) (events : List CoreEvent) (c d : Core) → Follows c → Went x first c
      → Runs (runs.setting x code facts workers) events c d → Follows d × Went x first d
  unfolding Runs
  went_runs workers [] c d f w is = (subst Follows (sym is) f, subst (Went x first) (sym is) w)
  went_runs workers (e ∷ es) c d f w r =
      let next = follows_event x kept code faithful facts pairs first workers c e r.0 f in
      went_runs workers es (after_event x code facts workers c e r.0) d next (went_event workers c e r.0 next w) r.1

  pub went_first : (c : Core) → c.window ≡ [] → c.retired ≡ 0 → Went x first c
  went_first c none zero_now =
      let long : length c.window ≡ 0 = ap length none in
      record { counted = omega (arith, zero_now); few = omega (arith, zero_now, long); goes_on = λ n less. absurd (omega (arith, less, zero_now, long)) }

  -- if the window is empty and the run is over, the single run is over in the same state
  pub run_ends : (c : Core) (e : Ending) → Follows c → Went x first c → c.window ≡ [] → ending_at c.limit c.state ≡ Some e
      → (c.state ≡ after x first c.retired) × (jobs_at_end x c.limit first ≡ c.retired)
  run_ends c e f w none over =
      let same = (follows_single_run x kept code faithful facts pairs first c f).empty none in
      let were = w.few in (
        same,
        ends_at x first c.limit c.retired e (omega (arith, were)) (λ n less. w.goes_on n (omega (arith, less))) (ap (ending_at c.limit) (sym same) ∙ over),
      )
