-- A window gets a job more, and its oldest job retires.
use Rattle.std.proofs.Common.{◌≡◌, ℕ, ◌+◌, ◌≤◌, false, List, [], ◌∷◌, ◌++◌, length, Some, refl, sym}
use Rattle.std.proofs.Common.{ap, ◌∙◌, subst, arith, length-append}
use Rattle.std.specs.List.{AllByRecursion}
use Rattle.plex_num.proofs.Lists.{all_append, all_weaker}
use Rattle.job_types.specs.declared.job.JobStart.{JobStart}
use Rattle.job_types.specs.declared.outcome.Outcome.{Outcome}
use Rattle.job_types.specs.declared.outcome.Outcome.TheVariants.{Ended, Faulted}
use Rattle.exchange_model.specs.declared.exchange.Exchange.{Exchange}
use Rattle.source_meaning.proofs.Retiring.{begun_valid, start_fits}
use Rattle.source_meaning.proofs.States.{may_later}
use Rattle.source_meaning.specs.Arrivals.{arrivals}
use Rattle.source_meaning.specs.Job.{job}
use Rattle.source_meaning.specs.Retirement.{retires}
use Rattle.source_meaning.specs.SingleRun.{begun, ended_as, next_start, turn}
use Rattle.source_meaning.specs.State.{State, Coming, has_stopped}
use Rattle.source_meaning.specs.Valid.{IsFitting, IsValid}
use Rattle.order_laws.specs.Ends.{GoesOn, LetsStay, Spares, words_left}
use Rattle.order_laws.specs.Keeps.{NoLineBefore, NoRestart, RetirementKeeps}
use Rattle.order_laws.specs.Picks.{Picks, all_begun}
use Rattle.order_laws.specs.Windows.{AllMakeWay, AllRunBefore, IsWindow, MakesWay, RunBefore}
use Rattle.order_laws.specs.Windows.{StartsAs, done_by, jobs_of}
use Rattle.order_laws.proofs.Arriving.{arrivals_quiet}
use Rattle.order_laws.proofs.Keeping.{chain_in_same, end_keeps, end_runs}
use Rattle.order_laws.proofs.Picking.{end_all_stay, picks_more, retire_all_stay}
use Rattle.order_laws.proofs.Placing.{placed_rest, placed_valid}
use Rattle.order_laws.proofs.Wording.{over, retire_over}
use Rattle.order_laws.proofs.Starting.{first_next, has_next, starts_then, turn_is}

-- bounds

no_line_less : (m n : ℕ) (lines : List Coming) → m ≤ n → NoLineBefore n lines → NoLineBefore m lines
no_line_less m n [] le none = tt
no_line_less m n (l ∷ rest) le none = let few : n ≤ l.after = none in omega arith

spares_goes : (later own : ℕ) (o : Outcome) → Spares later own o → GoesOn own o
spares_goes later own Ended h = tt
spares_goes later own (Faulted f point) h = h.0

-- a window gets a job more

ways_more : (x : Exchange) (starts : List JobStart) (start : JobStart) → AllMakeWay x starts
    → AllByRecursion (λ (older : JobStart). MakesWay x older start) starts → AllMakeWay x (starts ++ start ∷ [])
ways_more x [] start ways new = (tt, tt)
ways_more x (a ∷ rest) start ways new = (all_append (MakesWay x a) rest (start ∷ []) ways.0 (new.0, tt), ways_more x rest start ways.1 new.1)

pub jobs_more : (starts : List JobStart) (start : JobStart) → jobs_of (starts ++ start ∷ []) ≡ jobs_of starts ++ start.job ∷ []
jobs_more [] start = refl
jobs_more (a ∷ rest) start = ap (λ js. a.job ∷ js) (jobs_more rest start)

runs_before : (s : State) (starts : List JobStart) → RunBefore s (length starts) → AllRunBefore s starts
runs_before s [] h = tt
runs_before s (a ∷ rest) h = h

pub window_grows : (x : Exchange) (s : State) (starts : List JobStart) (start : JobStart) → IsWindow x s starts
    → next_start (all_begun (jobs_of starts) s) ≡ Some start
    → AllByRecursion (λ (older : JobStart). MakesWay x older start) starts
    → NoLineBefore (s.ended + length starts + 1) s.lines → IsWindow x s (starts ++ start ∷ [])
window_grows x s starts start w is new none =
    let t = all_begun (jobs_of starts) s in
    let next = has_next t start is in
    let long = length-append starts (start ∷ []) in
    let more : s.ended + length (starts ++ start ∷ []) ≤ s.ended + length starts + 1 = omega arith in
    record {
      picked = subst (Picks s.waiting) (sym (jobs_more starts start)) (picks_more s.waiting (jobs_of starts) start.job w.picked next.picked);
      same = all_append (StartsAs s) starts (start ∷ []) w.same (starts_then t s start (chain_in_same t s refl start.job.forlopp) next.same, tt);
      ways = ways_more x starts start w.ways new;
      before = runs_before s (starts ++ start ∷ []) (record {
        lines = no_line_less (s.ended + length (starts ++ start ∷ [])) (s.ended + length starts + 1) s.lines more none;
        going = next.going;
      });
    }

-- each start of a window fits

unbegun : (x : Exchange) (s : State) (start : JobStart) → IsFitting x (begun s) start → IsFitting x s start
unbegun x s start h = record {
  job = h.job;
  forlopp = may_later {s = begun s} {t = s} (record { next = omega arith; dead = λ n alive. alive }) start.job.forlopp h.forlopp;
  chain = h.chain ∙ chain_in_same s (begun s) refl start.job.forlopp;
}

same_begun : (s : State) (starts : List JobStart) → AllByRecursion (StartsAs s) starts → AllByRecursion (StartsAs (begun s)) starts
same_begun s starts = all_weaker (StartsAs s) (StartsAs (begun s)) starts (λ a. starts_then s (begun s) a (chain_in_same s (begun s) refl a.job.forlopp))

starts_fit : (x : Exchange) (starts : List JobStart) (s : State) → IsValid x s → has_stopped s ≡ false
    → Picks s.waiting (jobs_of starts) → AllByRecursion (StartsAs s) starts → AllByRecursion (IsFitting x s) starts
starts_fit x [] s v going picked same = tt
starts_fit x (a ∷ rest) s v going picked same = (
  start_fits x s a v (first_next s a going picked.0 same.0),
  all_weaker (IsFitting x (begun s)) (IsFitting x s) rest (unbegun x s)
      (starts_fit x rest (begun s) (begun_valid x s v) going picked.1 (same_begun s rest same.1)),
)

pub window_fits : (x : Exchange) (s : State) (starts : List JobStart) → IsValid x s → IsWindow x s starts → AllByRecursion (IsFitting x s) starts
window_fits x s [] v w = tt
window_fits x s (a ∷ rest) v w = starts_fit x (a ∷ rest) s v w.before.going w.picked w.same

pub window_none : (x : Exchange) (s : State) → IsWindow x s []
window_none x s = record { picked = tt; same = tt; ways = tt; before = tt }

pub window_first : (x : Exchange) (s : State) (oldest : JobStart) (rest : List JobStart) → IsWindow x s (oldest ∷ rest)
    → turn x s ≡ arrivals x (ended_as x oldest (job x oldest s.store) (begun s))
window_first x s oldest rest w = turn_is x s oldest (first_next s oldest w.before.going w.picked.0 w.same.0)

-- the oldest job of a window retires
module _ (x : Exchange) (s : State) (v : IsValid x s) (oldest : JobStart) where
  abbrev retired : State
  retired = ended_as x oldest (job x oldest s.store) (begun s)

  module _ (is : next_start s ≡ Some oldest) where
    lets_stay : (rest : List JobStart) → AllByRecursion (MakesWay x oldest) rest
        → AllByRecursion (LetsStay oldest (done_by (job x oldest s.store))) (jobs_of rest)
    lets_stay [] ways = tt
    lets_stay (a ∷ rest) ways = (ways.0.stays s v (start_fits x s oldest v is), lets_stay rest ways.1)

    picked_then : (rest : List JobStart) → AllByRecursion (MakesWay x oldest) rest
        → Picks (begun s).waiting (jobs_of rest) → Picks retired.waiting (jobs_of rest)
    picked_then rest ways picked =
        let all = end_all_stay x oldest (job x oldest s.store) (begun s) (jobs_of rest)
        (placed_rest s.waiting (placed_valid x s v)) picked (lets_stay rest ways) in
        all.picked

    keeps : RetirementKeeps (begun s) retired
    keeps = end_keeps x oldest (job x oldest s.store) (begun s)

    module _ (going : GoesOn oldest.job.forlopp (done_by (job x oldest s.store)).outcome) where
      runs : NoRestart oldest.job.forlopp (begun s) retired
      runs = end_runs x oldest (job x oldest s.store) (begun s) going

      same_then : (rest : List JobStart) → AllByRecursion (MakesWay x oldest) rest → AllByRecursion (StartsAs s) rest → AllByRecursion (StartsAs retired) rest
      same_then [] ways same = tt
      same_then (a ∷ rest) ways same = (
        starts_then s retired a (runs.chains a.job.forlopp ways.0.forlopps ∙ chain_in_same s (begun s) refl a.job.forlopp) same.0,
        same_then rest ways.1 same.1,
      )

  pub window_next : (rest : List JobStart) → IsWindow x s (oldest ∷ rest) → next_start s ≡ Some oldest
  window_next rest w = first_next s oldest w.before.going w.picked.0 w.same.0

  pub window_retired : (rest : List JobStart) → IsWindow x s (oldest ∷ rest) → IsWindow x retired rest
  window_retired [] w = window_none x retired
  window_retired (a ∷ rest) w =
      let is = window_next (a ∷ rest) w in
      let goes = spares_goes a.job.forlopp oldest.job.forlopp (done_by (job x oldest s.store)).outcome (lets_stay is (a ∷ rest) w.ways.0).0.outcome in
      let k = keeps is in
      let ended : retired.ended ≡ s.ended + 1 = k.ended in
      let fewer : retired.ended + length (a ∷ rest) ≤ s.ended + length (oldest ∷ a ∷ rest) = omega arith in
      record {
        picked = picked_then is (a ∷ rest) w.ways.0 w.picked.1;
        same = same_then is goes (a ∷ rest) w.ways.0 w.same.1;
        ways = w.ways.1;
        before = record {
          lines = subst (NoLineBefore (retired.ended + length (a ∷ rest))) (sym k.lines)
              (no_line_less (retired.ended + length (a ∷ rest)) (s.ended + length (oldest ∷ a ∷ rest)) s.lines fewer
              w.before.lines);
          going = (runs is goes).stopped ∙ w.before.going;
        };
      }

  -- it retires over other words, while all others have begun
  pub window_books : (rest : List JobStart) (words : List ℕ) → IsWindow x s (oldest ∷ rest)
      → retires x oldest (done_by (job x oldest s.store)) (over words (all_begun (jobs_of (oldest ∷ rest)) s))
      ≡ over (words_left x oldest.job.forlopp (done_by (job x oldest s.store)).outcome
      (done_by (job x oldest s.store)).chain s.chains words) (all_begun (jobs_of rest) retired)
  window_books rest words w =
      let end = job x oldest s.store in
      let done = done_by end in
      let js = jobs_of rest in
      let later = all_begun js (begun s) in
      let left : List ℕ → List ℕ = words_left x oldest.job.forlopp done.outcome done.chain s.chains in
      let all = retire_all_stay x oldest done (begun s) js (placed_rest s.waiting (placed_valid x s v)) w.picked.1
      (lets_stay (window_next rest w) rest w.ways.0) in
      retire_over x oldest done later words
      ∙ ap (over (left words)) (sym all.same)
      ∙ ap (λ (t : State). over (left words) (all_begun js t)) (sym (retire_over x oldest done (begun s) end.world.store))

  -- nothing arrives while others of the window wait
  pub window_quiet : (next : JobStart) (rest : List JobStart) → IsWindow x s (oldest ∷ next ∷ rest) → turn x s ≡ retired
  window_quiet next rest w =
      let is = window_next (next ∷ rest) w in
      let left = window_retired (next ∷ rest) w in
      let fewer : retired.ended + 1 ≤ retired.ended + length (next ∷ rest) = omega arith in
      turn_is x s oldest is
      ∙ arrivals_quiet x retired next.job left.picked.0
      (no_line_less (retired.ended + 1) (retired.ended + length (next ∷ rest)) retired.lines fewer
      left.before.lines)
