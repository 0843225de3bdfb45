-- Where events lead, the core follows the single run.
use Rattle.std.proofs.Common.{◌≡◌, ℕ, zero, suc, ◌+◌, ◌<◌, List, [], ◌∷◌, ◌++◌, length, map, Some}
use Rattle.std.proofs.Common.{None, slice_get, refl, sym, ap, ◌∙◌, subst, arith}
use Rattle.std.proofs.lemmas.List.{length-map, map-append, map-set}
use Rattle.std.proofs.lemmas.Option.{none-some, same_Some}
use Rattle.std.specs.Prelude.{IsSome, slice_index, slice_set}
use Rattle.std.specs.List.{AllByRecursion}
use Rattle.plex_num.proofs.Lists.{all_both, all_weaker}
use Rattle.job_types.specs.declared.job.JobStart.{JobStart}
use Rattle.job_types.specs.declared.outcome.JobDone.{JobDone}
use Rattle.job_types.specs.Own.{done_of}
use Rattle.job_types.specs.Touches.{stored}
use Rattle.job_types.proofs.Touched.{stored-kept}
use Rattle.machine_code.specs.Coded.{Code}
use Rattle.exchange_model.specs.declared.exchange.Exchange.{Exchange}
use Rattle.exchange_model.specs.Kept.{IsExchange}
use Rattle.source_meaning.specs.Arrivals.{arrivals}
use Rattle.source_meaning.specs.Job.{job}
use Rattle.source_meaning.specs.Retirement.{retires}
use Rattle.source_meaning.specs.SingleRun.{after, turn}
use Rattle.source_meaning.specs.State.{State, Coming}
use Rattle.source_meaning.specs.Traces.{IsTouched}
use Rattle.source_meaning.specs.Valid.{IsValid}
use Rattle.source_meaning.proofs.Agreeing.{stored_alike}
use Rattle.source_meaning.proofs.Retiring.{turn_valid}
use Rattle.run_books.specs.Accounts.{next_count}
use Rattle.machine_meaning.specs.Faithful.{Faithful, started}
use Rattle.machine_meaning.specs.Machine.{Machine, stepped}
use Rattle.checked.specs.Kept.{KeptSummaries}
use Rattle.order_laws.specs.Books.{AreAhead}
use Rattle.order_laws.specs.Books as books
use Rattle.order_laws.specs.Keeps.{NoLineBefore}
use Rattle.order_laws.specs.Picks.{all_begun}
use Rattle.order_laws.specs.Windows.{IsWindow, done_by, jobs_of}
use Rattle.order_laws.proofs.Following.{ahead_none, ahead_retire}
use Rattle.order_laws.proofs.Moving.{window_fits, window_next}
use Rattle.order_laws.proofs.Turning.{after_later}
use Rattle.order_laws.proofs.Wording.{over}
use Rattle.run_laws.specs.Alone.{alone}
use Rattle.run_laws.proofs.Told.{run_told}
use Rattle.interleave_core.specs.declared.event.CoreEvent.{CoreEvent}
use Rattle.interleave_core.specs.declared.event.CoreEvent.TheVariants.{Issue, Step, Retire}
use Rattle.interleave_core.specs.declared.window.WindowJob.{WindowJob}
use Rattle.interleave_core.specs.Allowed.{CanIssue, IsAllowed, IsBefore, MayFollow, after_event}
use Rattle.interleave_core.specs.Cores.{Core, issues, lets_go, settles, steps}
use Rattle.interleave_core.specs.Follows.{AllPicks, FollowsSingleRun, IsPick, one_after_other}
use Rattle.interleave_core.specs.Runs.{Runs, Setting}
use Rattle.interleave_core.specs.Runs as runs
use Rattle.interleave_core.proofs.Joining.{AllPass, MovesOn, PairsGive, Progress, Shares, all_apart}
use Rattle.interleave_core.proofs.Joining.{all_fit, all_map_same, all_move_on, beginning, issue}
use Rattle.interleave_core.proofs.Joining.{one_more, retire, run_of, starts_of, step, touches_move}
use Rattle.interleave_core.proofs.Joining.{touches_of}
use Rattle.interleave_core.proofs.Sharing.{HasOwn, each_has_own}

-- ## The window

-- a job as it stands in the window
abbrev pub stands_at : Code → List ℕ → Progress → WindowJob
stands_at code base j = record { start = j.start; run = (run_of code base j).run }

abbrev pub window_of : Code → List ℕ → List Progress → List WindowJob
window_of code base js = map (stands_at code base) js

-- the core stands beside a state of the single run
pub record Beside (x : Exchange) (code : Code) (Pass : JobStart → JobStart → Type 0) (first : State) (c : Core) : Type 0 where
  pub state : State
  pub jobs : List Progress
  pub turn_is : state ≡ after x first c.retired
  pub window : c.window ≡ window_of code state.store jobs
  pub shares : Shares x code Pass state jobs c.state

-- what is true of the starts of the window
pub starts_in : (P : JobStart → Type 0) (code : Code) (base : List ℕ) (js : List Progress)
    → AllByRecursion (λ (older : WindowJob). P older.start) (window_of code base js) → AllByRecursion P (starts_of js)
starts_in P code base [] all = tt
starts_in P code base (j ∷ js) all = (all.0, starts_in P code base js all.1)

pub window_in : (P : JobStart → Type 0) (code : Code) (base : List ℕ) (js : List Progress)
    → AllByRecursion P (starts_of js) → AllByRecursion (λ (older : WindowJob). P older.start) (window_of code base js)
window_in P code base [] all = tt
window_in P code base (j ∷ js) all = (all.0, window_in P code base js all.1)

-- the job at a place of the window
pub record IsJobAt (code : Code) (base : List ℕ) (js : List Progress) (place : ℕ) (job : WindowJob) : Type 0 where
  pub progress : Progress
  pub there : slice_get js place ≡ Some progress
  pub is : job ≡ stands_at code base progress

pub job_at : (code : Code) (base : List ℕ) (js : List Progress) (place : ℕ) (job : WindowJob)
    → slice_get (window_of code base js) place ≡ Some job → IsJobAt code base js place job
job_at code base [] place job at = absurd (none-some job at)
job_at code base (j ∷ js) zero job at = record { progress = j; there = refl; is = sym (same_Some (stands_at code base j) job at) }
job_at code base (j ∷ js) (suc n) job at =
    let r = job_at code base js n job at in
    record { progress = r.progress; there = r.there; is = r.is }

-- the oldest job of the window, and the others
pub record IsFirst (code : Code) (base : List ℕ) (js : List Progress) (oldest : WindowJob) (younger : List WindowJob) : Type 0 where
  pub progress : Progress
  pub others : List Progress
  pub here : js ≡ progress ∷ others
  pub is : oldest ≡ stands_at code base progress
  pub rest : younger ≡ window_of code base others

pub first_at : (code : Code) (base : List ℕ) (js : List Progress) (oldest : WindowJob) (younger : List WindowJob)
    → window_of code base js ≡ oldest ∷ younger → IsFirst code base js oldest younger
first_at code base [] oldest younger is = cc
first_at code base (j ∷ js) oldest younger is = record {
  progress = j;
  others = js;
  here = refl;
  is = sym (same_Some (stands_at code base j) oldest (ap (λ l. slice_get l 0) is));
  rest = sym (ap (drop_one (window_of code base js)) is);
}
  where
    drop_one : List WindowJob → List WindowJob → List WindowJob
    drop_one d [] = d
    drop_one d (k ∷ ks) = ks

-- ## Issue

line_after : (lines : List Coming) (n m : ℕ) → n ≡ m → IsBefore (next_count lines) n → NoLineBefore (m + 1) lines
line_after [] n m is before = tt
line_after (l ∷ rest) n m is before = let lt : n < l.after = before in omega (arith, lt, is)

-- ## Retire

settles_same : (x : Exchange) (code : Code) (base : List ℕ) (js : List Progress) (oldest : JobStart) (done : JobDone)
    (s : State) → settles x (window_of code base js) (retires x oldest done s)
    ≡ books.settles x oldest done (starts_of js) s
settles_same x code base [] oldest done s = refl
settles_same x code base (j ∷ js) oldest done s = refl

module _ (x : Exchange) (kept : IsExchange x) (code : Code) (faithful : Faithful x code) (facts : KeptSummaries)
    (pairs : PairsGive x (MayFollow facts)) (first : State) where
  abbrev Follows : Core → Type 0
  Follows c = Beside x code (MayFollow facts) first c

  -- the window of the next state
  window_move : (base now : List ℕ) (js : List Progress) → AllByRecursion (MovesOn code base now) js → window_of code base js ≡ window_of code now js
  window_move base now js all =
      all_map_same (stands_at code base) (stands_at code now) js
      (all_weaker (MovesOn code base now) (λ j. stands_at code base j ≡ stands_at code now j) js
      (λ j m. ap (λ (q : Machine). record { start = j.start; run = q.run }) (sym m.same)) all)

  follows_issue : (workers : ℕ) (c : Core) (can : CanIssue facts workers c) → Follows c → Follows (issues code can.start c)
  unfolding alone
  follows_issue workers c can f =
      let s = f.state in
      let js = f.jobs in
      let new = starts_in (λ older. MayFollow facts older can.start) code s.store js
      (subst (AllByRecursion (λ (older : WindowJob). MayFollow facts older.start can.start)) f.window can.follows)
      in
      let long : length c.window ≡ length (starts_of js) = ap length f.window ∙ length-map js (stands_at code s.store)
      ∙ sym (length-map js (λ (j : Progress). j.start)) in
      let line = line_after c.state.lines (c.state.ended + length c.window) (c.state.ended + length (starts_of js))
      (ap (λ n. c.state.ended + n) long) can.line in
      record {
        state = s;
        jobs = js ++ beginning can.start ∷ [];
        turn_is = f.turn_is;
        window = ap (λ l. l ++ record { start = can.start; run = started code can.start } ∷ []) f.window
            ∙ sym (map-append (stands_at code s.store) js (beginning can.start ∷ []));
        shares = issue x kept code faithful (MayFollow facts) pairs s js c.state can.start f.shares can.picked new line;
      }

  follows_step : (c : Core) (place : ℕ) (job : WindowJob) → slice_get c.window place ≡ Some job → job.run.over ≡ None
      → Follows c → Follows (steps code place job c)
  follows_step c place job at runs f =
      let s = f.state in
      let js = f.jobs in
      let r = job_at code s.store js place job (ap (λ l. slice_get l place) (sym f.window) ∙ at) in
      let j = r.progress in
      let here : (run_of code s.store j).run.over ≡ None = ap (λ (k : WindowJob). k.run.over) (sym r.is) ∙ runs in
      let made = step x kept code faithful (MayFollow facts) pairs s js c.state f.shares place j r.there here in
      subst (λ (k : WindowJob). Follows (steps code place k c)) (sym r.is)
      (record {
        state = s;
        jobs = slice_set js place (one_more j);
        turn_is = f.turn_is;
        window =
            ap (λ l. slice_set l place (record { start = j.start; run = (stepped code.ops (run_of code s.store j).run c.state.store).run })) f.window
            ∙ ap (λ run. slice_set (window_of code s.store js) place (record { start = j.start; run = run })) made.run
            ∙ sym (map-set (stands_at code s.store) js place (one_more j));
        shares = made.shares;
      })

  follows_retire : (c : Core) (oldest : WindowJob) (younger : List WindowJob) → c.window ≡ oldest ∷ younger
      → IsSome oldest.run.over → Follows c → Follows (lets_go x oldest younger c)
  follows_retire c oldest younger is over f =
      let s = f.state in
      let r = first_at code s.store f.jobs oldest younger (sym f.window ∙ is) in
      let j = r.progress in
      let js = r.others in
      let h : Shares x code (MayFollow facts) s (j ∷ js) c.state = subst (λ l. Shares x code (MayFollow facts) s l c.state) r.here f.shares in
      let over_now : IsSome (run_of code s.store j).run.over = subst (λ (k : WindowJob). IsSome k.run.over) r.is over in
      let t = retire x kept code faithful (MayFollow facts) pairs s j js c.state h over_now in
      let own = run_of code s.store j in
      let same : settles x (window_of code s.store js) (retires x j.start (done_of own.run.own own.run.over) c.state)
      ≡ books.settles x j.start (done_by (job x j.start s.store)) (starts_of js) c.state =
      settles_same x code s.store js j.start (done_of own.run.own own.run.over) c.state ∙ ap (λ d. books.settles x j.start d (starts_of js) c.state) t.done in
      subst (λ (k : WindowJob). Follows (lets_go x k younger c)) (sym r.is)
      (subst (λ l. Follows (lets_go x (stands_at code s.store j) l c)) (sym r.rest)
      (record {
        state = turn x s;
        jobs = js;
        turn_is = ap (turn x) f.turn_is ∙ sym (after_later x first c.retired);
        window = window_move s.store (turn x s).store js t.moves;
        shares = subst (λ b. Shares x code (MayFollow facts) (turn x s) js b) (sym same) t.shares;
      }))

  pub follows_event : (workers : ℕ) (c : Core) (e : CoreEvent) (can : IsAllowed facts workers c e) → Follows c
      → Follows (after_event x code facts workers c e can)
  follows_event workers c Issue can f = follows_issue workers c can f
  follows_event workers c (Step number) can f = follows_step c can.place can.job can.there can.runs f
  follows_event workers c Retire can f = follows_retire c can.oldest can.younger can.first can.over f

  pub follows_runs : (workers : ℕ) (events : List CoreEvent) (c d : Core) → Follows c → Runs (runs.setting x code facts workers) events c d → Follows d
  unfolding Runs
  follows_runs workers [] c d f is = subst Follows (sym is) f
  follows_runs workers (e ∷ es) c d f r = follows_runs workers es (after_event x code facts workers c e r.0) d (follows_event workers c e r.0 f) r.1

  -- before the first event no job stands in the window
  pub first_shares : (s : State) → IsValid x first → s ≡ first → Shares x code (MayFollow facts) first [] s
  first_shares s v is = record {
    valid = v;
    ahead = subst (AreAhead x first []) (sym is) (ahead_none x first first.store);
    passes = tt;
    words = ap (λ (t : State). t.store) is;
  }

  -- before the first event
  pub follows_first : (c : Core) → IsValid x first → arrivals x first ≡ first → c.state ≡ first → c.window ≡ [] → c.retired ≡ 0 → Follows c
  unfolding after
  follows_first c v quiet is none zero_now = record {
    state = first;
    jobs = [];
    turn_is = sym quiet ∙ ap (after x first) (sym zero_now);
    window = none;
    shares = first_shares c.state v is;
  }

  -- ## What follows from it

  -- the words have what the job's own run from this state has left
  abbrev Left : List ℕ → State → Progress → Type 0
  Left words s j = (w : ℕ) → IsTouched (run_of code s.store j).world.trace w → slice_index words w ≡ slice_index (run_of code s.store j).world.store w

  left_later : (words : List ℕ) (s t : State) (j : Progress) → MovesOn code s.store t.store j → Left words s j → Left words t j
  left_later words s t j m left =
      let own = run_of code s.store j in
      let told = run_told j.made code.ops (started code j.start) s.store in
      subst (λ (q : Machine). (w : ℕ) → IsTouched q.world.trace w → slice_index words w ≡ slice_index q.world.store w) (sym m.same)
      (λ w at. left w at
      ∙ ap (λ l. slice_index l w) told.words
      ∙ stored_alike own.world.trace s.store t.store w m.agree.long (m.agree.same w at))

  all_left_later : (words : List ℕ) (s t : State) (js : List Progress)
      → AllByRecursion (MovesOn code s.store t.store) js → AllByRecursion (Left words s) js
      → AllByRecursion (Left words t) js
  all_left_later words s t js moves left =
      all_weaker (λ j. MovesOn code s.store t.store j × Left words s j) (Left words t) js (λ j both. left_later words s t j both.0 both.1)
      (all_both (MovesOn code s.store t.store) (Left words s) js moves left)

  -- a window that has lost its oldest
  window_then : (s : State) → IsValid x s → (a : JobStart) (rest : List JobStart) → IsWindow x s (a ∷ rest) → IsWindow x (turn x s) rest
  window_then s v a rest w = (ahead_retire x s v a rest (all_begun (jobs_of (a ∷ rest)) s) (record { window = w; same = refl })).window

  picks_from : (words : List ℕ) (js : List Progress) (n : ℕ) (s : State) → s ≡ after x first n → IsValid x s
      → IsWindow x s (starts_of js) → AllPass (MayFollow facts) (starts_of js) → AllByRecursion (Left words s) js
      → AllPicks x code first words n (window_of code s.store js) (touches_of code s.store js)
  picks_from words [] n s is v w pass left = tt
  picks_from words (j ∷ js) n s is v w pass left =
      let fits = window_fits x s (j.start ∷ starts_of js) v w in
      let moves = all_move_on x kept code faithful (MayFollow facts) pairs s v j.start fits.0 js (starts_of js) fits.1 pass.0 w in
      let own = run_of code s.store j in
      let here : IsPick code s words (stands_at code s.store j) own.world.trace = record {
        next = window_next x s v j.start (starts_of js) w;
        made = j.made;
        run = refl;
        trace = refl;
        left = left.0;
      } in
      let later : AllPicks x code first words (n + 1) (window_of code (turn x s).store js) (touches_of code (turn x s).store js) =
      picks_from words js (n + 1) (turn x s) (ap (turn x) is ∙ sym (after_later x first n)) (turn_valid x kept s v)
      (window_then s v j.start (starts_of js) w) pass.1 (all_left_later words s (turn x s) js moves left.1) in (
        subst (λ t. IsPick code t words (stands_at code s.store j) own.world.trace) is here,
        subst (λ tss. AllPicks x code first words (n + 1) (window_of code s.store js) tss)
            (touches_move x kept code faithful (MayFollow facts) pairs s.store (turn x s).store js moves)
            (subst (λ ws. AllPicks x code first words (n + 1) ws (touches_of code (turn x s).store js))
            (sym (window_move s.store (turn x s).store js moves)) later),
      )

  -- the values of the common words
  own_left : (s : State) (js : List Progress) (words : List ℕ) (all : List Progress)
      → words ≡ stored s.store (one_after_other (touches_of code s.store all))
      → AllByRecursion (HasOwn (stored s.store (one_after_other (touches_of code s.store all))) s.store)
      (touches_of code s.store js) → AllByRecursion (Left words s) js
  own_left s [] words all is own = tt
  own_left s (j ∷ js) words all is own =
      let told = run_told j.made code.ops (started code j.start) s.store in
      (λ w at. ap (λ l. slice_index l w) is ∙ own.0 w at ∙ ap (λ l. slice_index l w) (sym told.words), own_left s js words all is own.1)

  empty_then : (s : State) (books : State) (js : List Progress) (window : List WindowJob)
      → window ≡ window_of code s.store js → Shares x code (MayFollow facts) s js books → window ≡ [] → books ≡ s
  empty_then s books [] window is h none = h.ahead.same ∙ ap (λ l. over l s) h.words
  empty_then s books (j ∷ js) window is h none =
      let no : window_of code s.store (j ∷ js) ≡ [] = sym is ∙ none in
      cc

  pub follows_single_run : (c : Core) → Follows c → FollowsSingleRun x code first c
  follows_single_run c f =
      let s = f.state in
      let js = f.jobs in
      let h = f.shares in
      let tss = touches_of code s.store js in
      let fits = all_fit x kept code faithful (MayFollow facts) pairs s js c.state h in
      let apart = all_apart x kept code faithful (MayFollow facts) pairs s h.valid js fits h.passes in
      let left = own_left s js c.state.store js h.words (each_has_own tss s.store apart) in
      let words : c.state.store ≡ stored (after x first c.retired).store (one_after_other tss) =
      h.words ∙ ap (λ (t : State). stored t.store (one_after_other tss)) f.turn_is in
      record {
        touches = tss;
        picks = subst (λ ws. AllPicks x code first c.state.store c.retired ws tss) (sym f.window)
            (picks_from c.state.store js c.retired s f.turn_is h.valid h.ahead.window h.passes left);
        apart = apart;
        words = words;
        others = λ w none. ap (λ l. slice_index l w) words ∙ stored-kept (one_after_other tss) (after x first c.retired).store w none;
        events = ap (λ (t : State). t.events) h.ahead.same ∙ ap (λ (t : State). t.events) f.turn_is;
        empty = λ none. empty_then s c.state js c.window f.window h none ∙ f.turn_is;
      }
