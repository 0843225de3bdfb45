-- The core goes on until the single run is over, within a bound of events, and then stands where
-- the single run ends.
use Rattle.std.proofs.Common.{◌≡◌, ◌⊎◌, inl, inr, ⊎_elim, ℕ, zero, suc, ◌+◌, ◌<◌, ◌≤◌, Bool, true}
use Rattle.std.proofs.Common.{false, List, [], ◌∷◌, length, Option, Some, None, slice_get, refl}
use Rattle.std.proofs.Common.{sym, ap, ◌∙◌, subst, arith}
use Rattle.std.proofs.lemmas.Bool.Decides.{nat_tests}
use Rattle.std.proofs.lemmas.List.{length-map}
use Rattle.std.proofs.lemmas.Option.{none-some}
use Rattle.std.specs.Prelude.{IsSome, nat_le, ◌||◌}
use Rattle.std.specs.List.{AllByRecursion}
use Rattle.plex_num.proofs.Options.{none_is_none}
use Rattle.job_types.specs.declared.outcome.Outcome.{Outcome}
use Rattle.machine_code.specs.Coded.{Code}
use Rattle.exchange_model.specs.declared.exchange.Exchange.{Exchange}
use Rattle.exchange_model.specs.Kept.{IsExchange}
use Rattle.source_meaning.specs.Arrivals.{arrivals, is_quiet}
use Rattle.source_meaning.specs.SingleRun.{Ending, after, ending_at, jobs_at_end}
use Rattle.source_meaning.specs.State.{Coming, State}
use Rattle.run_books.specs.Accounts.{next_count}
use Rattle.machine_meaning.specs.Faithful.{Faithful}
use Rattle.checked.specs.Kept.{KeptSummaries}
use Rattle.order_laws.specs.Keeps.{NoneDue}
use Rattle.order_laws.proofs.Arriving.{arrivals_settle}
use Rattle.order_laws.proofs.Starting.{goes_on}
use Rattle.exchange_run.proofs.Ending.{ends_at}
use Rattle.exchange_run.proofs.Resting.{quiet_after}
use Rattle.exchange_run.proofs.Turning.{at_most, some_start}
use Rattle.exchange_run.proofs.Turning as turning
use Rattle.interleave_core.specs.declared.event.CoreEvent.TheVariants.{Issue, Step, Retire}
use Rattle.interleave_core.specs.declared.window.WindowJob.{WindowJob}
use Rattle.interleave_core.specs.Allowed.{IsBefore, MayFollow, after_event}
use Rattle.interleave_core.specs.Cores.{Core, begun_jobs}
use Rattle.interleave_core.specs.Runs.{Runs, Setting}
use Rattle.interleave_core.specs.Runs as runs
use Rattle.interleave_core.proofs.Following.{follows_single_run, stands_at}
use Rattle.interleave_core.proofs.Joining.{PairsGive}
use Rattle.progress_laws.specs.Counts.{JobsMake, events_of}
use Rattle.progress_laws.specs.Going.{ComesToEnd, HasEvent, IsOver, IsSingleEnd, NoEvent}
use Rattle.progress_laws.proofs.Counting.{all_go, no_fewer, one_total}
use Rattle.progress_laws.proofs.Ending.{no_more}
use Rattle.progress_laws.proofs.Pacing.{Paced, made_none, paced_event, window_makes}

-- where the run is over and the window is empty, no event is allowed
pub over_stops : (k : Setting) (c : Core) → IsOver c → NoEvent k c
over_stops k c o Issue can =
    let long : length c.window ≡ 0 = ap length o.empty in
    let lt = can.limited in
    none_is_none (ending_at c.limit c.state) (goes_on c.limit c.state can.start can.picked (omega (arith, lt, long))) o.over
over_stops k c o (Step number) can = none-some can.job (sym (ap (λ l. slice_get l can.place) o.empty) ∙ can.there)
over_stops k c o Retire can =
    let differ : [] ≡ can.oldest ∷ can.younger = sym o.empty ∙ can.first in
    cc

-- where nothing is due, the next line waits for more jobs than have ended
line_waits : (lines : List Coming) (s : State) (n : ℕ) → n ≡ s.ended → NoneDue lines s → is_quiet s.waiting ≡ false → IsBefore (next_count lines) n
line_waits [] s n is none waits = tt
line_waits (l ∷ rest) s n is none waits = by (nat_le l.after s.ended) refl none
  where
    by : (b : Bool) → nat_le l.after s.ended ≡ b → (b || is_quiet s.waiting) ≡ false → n < l.after
    by true le idle = cc
    by false le idle = grind (arith, nat_tests, le, is)

module _ (x : Exchange) (kept : IsExchange x) (code : Code) (faithful : Faithful x code) (facts : KeptSummaries)
    (pairs : PairsGive x (MayFollow facts)) (first : State) (limit workers : ℕ) (worker : 0 < workers) where
  abbrev After : ℕ → Core → Type 0
  After n c = Paced x kept code faithful facts pairs first limit n c

  abbrev k : Setting
  k = runs.setting x code facts workers

  abbrev jobs : ℕ
  jobs = jobs_at_end x limit first

  -- ## Some event is allowed

  with_job : (c : Core) (oldest : WindowJob) (younger : List WindowJob) → c.window ≡ oldest ∷ younger → HasEvent k c
  with_job c oldest younger is = by oldest.run.over refl
    where
      by : (o : Option Outcome) → oldest.run.over ≡ o → HasEvent k c
      by None runs = record {
        event = Step (c.retired + 0 + 1);
        can = record { place = 0; job = oldest; numbered = refl; there = ap (λ l. slice_get l 0) is; runs = runs };
      }
      by (Some o) over = record {
        event = Retire;
        can = record { oldest = oldest; younger = younger; first = is; over = subst (λ u. IsSome u) (sym over) refl };
      }

  with_none : (n : ℕ) (c : Core) → After n c → c.window ≡ [] → HasEvent k c ⊎ IsOver c
  with_none n c p empty = by (ending_at c.limit c.state) refl
    where
      long : length c.window ≡ 0
      long = ap length empty

      here : c.state ≡ after x first c.retired
      here = (follows_single_run x kept code faithful facts pairs first c p.beside).empty empty

      quiet : arrivals x c.state ≡ c.state
      quiet = ap (arrivals x) here ∙ quiet_after x first c.retired ∙ sym here

      next : ending_at c.limit c.state ≡ None → HasEvent k c
      next goes =
          let g = turning.goes_on c.limit c.state goes in
          let few = g.few in
          let some = some_start c.state c.limit goes in
          let none = subst (λ (t : State). NoneDue t.lines t) quiet (arrivals_settle x c.state g.runs) in
          record {
            event = Issue;
            can = record {
              start = some.0;
              picked = some.1;
              worker = omega (arith, long, worker);
              limited = omega (arith, long, few);
              line = line_waits c.state.lines c.state (begun_jobs c) (omega (arith, long)) none g.waits;
              follows = subst (AllByRecursion (λ (older : WindowJob). MayFollow facts older.start some.0)) (sym empty) tt;
            };
          }

      by : (o : Option Ending) → ending_at c.limit c.state ≡ o → HasEvent k c ⊎ IsOver c
      by None goes = inl (next goes)
      by (Some e) over = inr (record { empty = empty; over = subst (λ u. IsSome u) (sym over) refl })

  pub event_or_over : (n : ℕ) (c : Core) → After n c → HasEvent k c ⊎ IsOver c
  event_or_over n c p = by c.window refl
    where
      by : (window : List WindowJob) → c.window ≡ window → HasEvent k c ⊎ IsOver c
      by [] is = with_none n c p is
      by (oldest ∷ younger) is = inl (with_job c oldest younger is)

  -- ## The bound

  module _ (instructions : ℕ) (make : JobsMake x code limit first (jobs_at_end x limit first) instructions) where
    abbrev most : ℕ
    most = events_of jobs instructions

    pub bounded : (n : ℕ) (c : Core) → After n c → n ≤ most
    bounded n c p =
        let f = p.beside in
        let s = f.state in
        let h = f.shares in
        let long : length c.window ≡ length f.jobs = ap length f.window ∙ length-map f.jobs (stands_at code s.store) in
        let ended : c.state.ended ≡ s.ended = ap (λ (t : State). t.ended) h.ahead.same in
        let few : 0 < length f.jobs → s.ended + length f.jobs
        ≤ limit = λ some. (let le = p.few (omega (arith, some, long)) in omega (arith, le, long, ended)) in
        let r = window_makes x kept code faithful facts pairs first limit f.jobs c.retired s f.turn_is h.valid
        h.ahead.window h.passes few p.ways p.before p.retired in
        let fewer = no_more x first limit (c.retired + length f.jobs) (all_go x code limit first (c.retired + length f.jobs) r.total r.made) in
        let less = no_fewer x code limit first jobs (c.retired + length f.jobs) r.total instructions fewer r.made make in
        let more = r.most in
        let counted = p.counted in
        omega (arith, long, fewer, less, more, counted)

    -- ## The end

    ended_at : (n : ℕ) (c : Core) → After n c → IsOver c → (ending : Option Ending) → ending_at c.limit c.state ≡ ending → IsSome ending → jobs ≡ c.retired
    ended_at n c p o None is over = cc
    ended_at n c p o (Some e) is over =
        let here = (follows_single_run x kept code faithful facts pairs first c p.beside).empty o.empty in
        let goes = all_go x code limit first c.retired p.before p.retired in
        ends_at x first limit c.retired e (at_most x first limit c.retired goes) goes
        (ap (ending_at limit) (sym here) ∙ ap (λ l. ending_at l c.state) (sym p.limited) ∙ is)

    pub at_end : (n : ℕ) (c : Core) → After n c → IsOver c → IsSingleEnd x first limit c
    at_end n c p o =
        let last = ended_at n c p o (ending_at c.limit c.state) refl o.over in
        record {
          empty = o.empty;
          state = (follows_single_run x kept code faithful facts pairs first c p.beside).empty o.empty ∙ ap (after x first) (sym last);
          retired = sym last;
        }

    pub exactly : (n : ℕ) (c : Core) → After n c → IsOver c → n ≡ most
    exactly n c p o =
        let f = p.beside in
        let last = ended_at n c p o (ending_at c.limit c.state) refl o.over in
        let none : length c.window ≡ 0 = ap length o.empty in
        let long : length c.window ≡ length f.jobs = ap length f.window ∙ length-map f.jobs (stands_at code f.state.store) in
        let made = made_none f.jobs (omega (arith, none, long)) in
        let all = one_total x code limit first c.retired p.before instructions p.retired (subst (λ m. JobsMake x code limit first m instructions) last make) in
        let counted = p.counted in
        omega (arith, last, none, made, all, counted)

    -- so many events more lead there at most
    pub comes : (fuel n : ℕ) (c : Core) → After n c → most ≤ n + fuel → ComesToEnd k first limit c
    unfolding Runs
    comes zero n c p le = ⊎_elim
        (λ h. absurd (let less = bounded (suc n) (after_event x code facts workers c h.event h.can)
        (paced_event x kept code faithful facts pairs first limit workers n c h.event h.can p) in omega
        (arith, less, le)))
        (λ o. record { events = []; core = c; runs = refl; ends = at_end n c p o })
        (event_or_over n c p)
    comes (suc fuel) n c p le = ⊎_elim
        (λ h. (
        let next = paced_event x kept code faithful facts pairs first limit workers n c h.event h.can p in
        let more = comes fuel (suc n) (after_event x code facts workers c h.event h.can) next (omega (arith, le)) in
        record { events = h.event ∷ more.events; core = more.core; runs = (h.can, more.runs); ends = more.ends }
        ))
        (λ o. record { events = []; core = c; runs = refl; ends = at_end n c p o })
        (event_or_over n c p)
