-- What each event adds: how many events have happened is told by the jobs that have retired, those
-- of the window, and the instructions that these have made. None of them has made more than it
-- makes to its end.
use Rattle.std.proofs.Common.{◌≡◌, ℕ, zero, suc, ◌+◌, ◌*◌, ◌<◌, ◌≤◌, List, [], ◌∷◌, ◌++◌, length}
use Rattle.std.proofs.Common.{Some, None, slice_get, refl, sym, ap, ◌∙◌, subst, arith}
use Rattle.std.proofs.Common.{length-append, length-set}
use Rattle.std.proofs.lemmas.List.{length-map, map-append, map-set}
use Rattle.std.proofs.lemmas.Option.{none-some, same_Some}
use Rattle.std.specs.Prelude.{IsSome, slice_set}
use Rattle.std.specs.List.{AllByRecursion}
use Rattle.plex_num.proofs.Lists.{all_append, all_at, all_last, all_weaker}
use Rattle.job_types.specs.declared.job.JobStart.{JobStart}
use Rattle.job_types.specs.declared.outcome.JobDone.{JobDone}
use Rattle.job_types.specs.Own.{done_of}
use Rattle.machine_code.specs.Coded.{Code}
use Rattle.exchange_model.specs.declared.exchange.Exchange.{Exchange}
use Rattle.exchange_model.specs.Kept.{IsExchange}
use Rattle.source_meaning.specs.Arrivals.{arrivals}
use Rattle.source_meaning.specs.Job.{job}
use Rattle.source_meaning.specs.Retirement.{retires}
use Rattle.source_meaning.specs.SingleRun.{after, begun, next_start, turn}
use Rattle.source_meaning.specs.State.{Coming, State}
use Rattle.source_meaning.specs.Valid.{IsFitting, IsValid}
use Rattle.source_meaning.proofs.Retiring.{turn_valid}
use Rattle.run_books.specs.Accounts.{next_count}
use Rattle.machine_meaning.specs.Faithful.{Faithful, started}
use Rattle.machine_meaning.specs.Machine.{Machine, stepped}
use Rattle.machine_meaning.specs.Private.{Private}
use Rattle.checked.specs.Kept.{KeptSummaries}
use Rattle.order_laws.specs.Books as books
use Rattle.order_laws.specs.Keeps.{NoLineBefore}
use Rattle.order_laws.specs.Picks.{all_begun}
use Rattle.order_laws.specs.Windows.{IsWindow, done_by, jobs_of}
use Rattle.order_laws.proofs.Arriving.{arrivals_keep}
use Rattle.order_laws.proofs.Following.{ahead_retire}
use Rattle.order_laws.proofs.Keeping.{retire_keeps}
use Rattle.order_laws.proofs.Moving.{window_fits, window_next}
use Rattle.order_laws.proofs.Starting.{goes_on}
use Rattle.order_laws.proofs.Turning.{after_later}
use Rattle.run_laws.specs.Alone.{alone}
use Rattle.exchange_run.proofs.Turning.{turn_ended}
use Rattle.interleave_core.specs.declared.event.CoreEvent.{CoreEvent}
use Rattle.interleave_core.specs.declared.event.CoreEvent.TheVariants.{Issue, Step, Retire}
use Rattle.interleave_core.specs.declared.window.WindowJob.{WindowJob}
use Rattle.interleave_core.specs.Allowed.{CanIssue, IsAllowed, IsBefore, MayFollow, after_event}
use Rattle.interleave_core.specs.Cores.{Core, begun_jobs, issues, lets_go, settles, steps}
use Rattle.interleave_core.specs.Follows.{own_run}
use Rattle.interleave_core.specs.Runs.{Runs}
use Rattle.interleave_core.specs.Runs as runs
use Rattle.interleave_core.proofs.Following.{Beside, first_at, first_shares, job_at, stands_at}
use Rattle.interleave_core.proofs.Following.{starts_in, window_of}
use Rattle.interleave_core.proofs.Joining.{AllPass, MovesOn, PairsGive, Progress, Shares, all_fit}
use Rattle.interleave_core.proofs.Joining.{all_map_same, all_move_on, beginning, issue, one_more}
use Rattle.interleave_core.proofs.Joining.{retire, run_of, starts_of, step}
use Rattle.progress_laws.specs.Counts.{EndsAfter, JobsMake, NextMakes}
use Rattle.progress_laws.proofs.Counting.{all_of_them, not_all, some_count}

-- ## Jobs on their way

-- the job has made some of the instructions that it makes to its end
pub record OnItsWay (code : Code) (base : List ℕ) (j : Progress) : Type 0 where
  pub count : ℕ
  pub ends : EndsAfter code j.start base count
  pub within : j.made ≤ count

-- how many instructions these have made
abbrev pub made_by : List Progress → ℕ
made_by [] = 0
made_by (j ∷ js) = j.made + made_by js

made_issue : (js : List Progress) (start : JobStart) → made_by (js ++ beginning start ∷ []) ≡ made_by js
made_issue [] start = refl
made_issue (j ∷ js) start = ap (λ n. j.made + n) (made_issue js start)

made_step : (js : List Progress) (place : ℕ) (j : Progress) → slice_get js place ≡ Some j → made_by (slice_set js place (one_more j)) ≡ made_by js + 1
made_step [] place j at = absurd (none-some j at)
made_step (k ∷ js) zero j at = let same : k.made ≡ j.made = ap (λ (i : Progress). i.made) (same_Some k j at) in omega (arith, same)
made_step (k ∷ js) (suc n) j at = let more = made_step js n j at in omega (arith, more)

pub made_none : (js : List Progress) → length js ≡ 0 → made_by js ≡ 0
made_none [] none = refl
made_none (j ∷ js) none = absurd (omega (arith, none))

all_step : (P : Progress → Type 0) (js : List Progress) (place : ℕ) (j : Progress) → slice_get js place ≡ Some j
    → AllByRecursion P js → P (one_more j) → AllByRecursion P (slice_set js place (one_more j))
all_step P [] place j at all new = absurd (none-some j at)
all_step P (k ∷ js) zero j at all new = (new, all.1)
all_step P (k ∷ js) (suc n) j at all new = (all.0, all_step P js n j at all.1 new)

-- a way is the same over other words over which all runs of the job are
way_moves : (code : Code) (base now : List ℕ) (k : Progress)
    → ((n : ℕ) → (own_run code k.start n now).run ≡ (own_run code k.start n base).run) → OnItsWay code base k
    → OnItsWay code now k
way_moves code base now k same way = record {
  count = way.count;
  ends = record {
    over = subst (λ (r : Private). IsSome r.over) (sym (same way.count)) way.ends.over;
    runs = λ n lt. ap (λ (r : Private). r.over) (same n) ∙ way.ends.runs n lt;
  };
  within = way.within;
}

-- ## Lines and counts

line_after : (lines : List Coming) (n m : ℕ) → n ≡ m → IsBefore (next_count lines) n → NoLineBefore (m + 1) lines
line_after [] n m is before = tt
line_after (l ∷ rest) n m is before = let lt : n < l.after = before in omega (arith, lt, is)

settles_same : (x : Exchange) (code : Code) (base : List ℕ) (js : List Progress) (oldest : JobStart) (done : JobDone)
    (s : State) → settles x (window_of code base js) (retires x oldest done s)
    ≡ books.settles x oldest done (starts_of js) s
settles_same x code base [] oldest done s = refl
settles_same x code base (j ∷ js) oldest done s = refl

settled_ended : (x : Exchange) (jobs : List WindowJob) (s : State) → (settles x jobs s).ended ≡ s.ended
settled_ended x [] s = (arrivals_keep x s).ended
settled_ended x (job ∷ rest) s = refl

-- ## In an exchange

module _ (x : Exchange) (kept : IsExchange x) (code : Code) (faithful : Faithful x code) (facts : KeptSummaries)
    (pairs : PairsGive x (MayFollow facts)) (first : State) (limit : ℕ) where
  abbrev Make : ℕ → ℕ → Type 0
  Make n total = JobsMake x code limit first n total

  abbrev Ways : List ℕ → List Progress → Type 0
  Ways base js = AllByRecursion (OnItsWay code base) js

  -- so many events have led to the core
  pub record Paced (n : ℕ) (c : Core) : Type 0 where
    pub beside : Beside x code (MayFollow facts) first c
    pub limited : c.limit ≡ limit
    pub few : 0 < length c.window → begun_jobs c ≤ limit
    pub ways : Ways beside.state.store beside.jobs
    pub before : ℕ
    pub retired : Make c.retired before
    pub counted : n ≡ 2 * c.retired + length c.window + before + made_by beside.jobs

  -- ## The next state

  -- the runs of jobs that pass with the one that retires are the same over the words of the next
  -- state
  ways_move : (s : State) (v : IsValid x s) (a : JobStart) (fits_a : IsFitting x s a) (rest : List JobStart)
      → IsWindow x s (a ∷ rest) → (js : List Progress) → AllByRecursion (IsFitting x s) (starts_of js)
      → AllByRecursion (MayFollow facts a) (starts_of js)
      → Ways s.store js → Ways (turn x s).store js
  ways_move s v a fits_a rest w [] fits pass ways = tt
  ways_move s v a fits_a rest w (k ∷ js) fits pass ways =
      let same : (n : ℕ) → (own_run code k.start n (turn x s).store).run ≡ (own_run code k.start n s.store).run =
      λ n. ap (λ (m : Machine). m.run) (all_move_on x kept code faithful (MayFollow facts) pairs s v a fits_a
      (record { start = k.start; made = n } ∷ []) rest (fits.0, tt) (pass.0, tt) w).0.same in
      (way_moves code s.store (turn x s).store k same ways.0, ways_move s v a fits_a rest w js fits.1 pass.1 ways.1)

  window_move : (base now : List ℕ) (js : List Progress) → AllByRecursion (MovesOn code base now) js → window_of code base js ≡ window_of code now js
  window_move base now js all =
      all_map_same (stands_at code base) (stands_at code now) js
      (all_weaker (MovesOn code base now) (λ j. stands_at code base j ≡ stands_at code now j) js
      (λ j m. ap (λ (q : Machine). record { start = j.start; run = q.run }) (sym m.same)) all)

  -- one more job of the single run
  next_makes : (s : State) (n before count : ℕ) (start : JobStart) → s ≡ after x first n → next_start s ≡ Some start
      → s.ended < limit → EndsAfter code start s.store count → Make n before → Make (suc n) (before + count)
  next_makes s n before count start is next lt ends made = record {
    before = before;
    made = made;
    count = count;
    next = subst (λ t. NextMakes code limit t count) is (record { goes_on = goes_on limit s start next lt; start = start; next = next; ends = ends });
    sum = refl;
  }

  -- ## Each event

  paced_issue : (workers : ℕ) (n : ℕ) (c : Core) (can : CanIssue facts workers c) → Paced n c → Paced (suc n) (issues code can.start c)
  unfolding alone
  paced_issue workers n c can p =
      let f = p.beside in
      let s = f.state in
      let js = f.jobs in
      let start = can.start in
      let new = starts_in (λ older. MayFollow facts older start) code s.store js
      (subst (AllByRecursion (λ (older : WindowJob). MayFollow facts older.start start)) f.window can.follows) in
      let long : length c.window ≡ length (starts_of js) = ap length f.window ∙ length-map js (stands_at code s.store)
      ∙ sym (length-map js (λ (j : Progress). j.start)) in
      let line = line_after c.state.lines (c.state.ended + length c.window) (c.state.ended + length (starts_of js))
      (ap (λ n. c.state.ended + n) long) can.line in
      let shares = issue x kept code faithful (MayFollow facts) pairs s js c.state start f.shares can.picked new line in
      let fit_all = all_fit x kept code faithful (MayFollow facts) pairs s (js ++ beginning start ∷ []) (begun c.state) shares in
      let fits : IsFitting x s start = all_last (IsFitting x s) (starts_of js) start
      (subst (AllByRecursion (IsFitting x s)) (map-append (λ (j : Progress). j.start) js (beginning start ∷ []))
      fit_all) in
      let means = faithful.runs s start shares.valid fits in
      let found = some_count code start s.store means.end means.ends in
      let more = length-append c.window (record { start = start; run = started code start } ∷ []) in
      let lt = can.limited in
      let limited = p.limited in
      let made = made_issue js start in
      let counted = p.counted in
      record {
        beside = record {
          state = s;
          jobs = js ++ beginning start ∷ [];
          turn_is = f.turn_is;
          window = ap (λ l. l ++ record { start = start; run = started code start } ∷ []) f.window
              ∙ sym (map-append (stands_at code s.store) js (beginning start ∷ []));
          shares = shares;
        };
        limited = p.limited;
        few = λ some. omega (arith, more, lt, limited);
        ways = all_append (OnItsWay code s.store) js (beginning start ∷ []) p.ways
            (record { count = found.count; ends = found.ends; within = omega arith }, tt);
        before = p.before;
        retired = p.retired;
        counted = omega (arith, more, made, counted);
      }

  paced_step : (n : ℕ) (c : Core) (place : ℕ) (job : WindowJob) → slice_get c.window place ≡ Some job
      → job.run.over ≡ None → Paced n c → Paced (suc n) (steps code place job c)
  paced_step n c place job at runs p =
      let f = p.beside in
      let s = f.state in
      let js = f.jobs in
      let r = job_at code s.store js place job (ap (λ l. slice_get l place) (sym f.window) ∙ at) in
      let j = r.progress in
      let here : (run_of code s.store j).run.over ≡ None = ap (λ (k : WindowJob). k.run.over) (sym r.is) ∙ runs in
      let made = step x kept code faithful (MayFollow facts) pairs s js c.state f.shares place j r.there here in
      let way = all_at (OnItsWay code s.store) js place j p.ways r.there in
      let lt = not_all code j.start s.store j.made way.count way.ends way.within here in
      let long : length (steps code place (stands_at code s.store j) c).window
      ≡ length c.window = length-set c.window place
      (record { start = j.start; run = (stepped code.ops (run_of code s.store j).run c.state.store).run }) in
      let more = made_step js place j r.there in
      let few = p.few in
      let counted = p.counted in
      subst (λ (k : WindowJob). Paced (suc n) (steps code place k c)) (sym r.is)
      (record {
        beside = record {
          state = s;
          jobs = slice_set js place (one_more j);
          turn_is = f.turn_is;
          window =
              ap (λ l. slice_set l place (record { start = j.start; run = (stepped code.ops (run_of code s.store j).run c.state.store).run })) f.window
              ∙ ap (λ run. slice_set (window_of code s.store js) place (record { start = j.start; run = run })) made.run
              ∙ sym (map-set (stands_at code s.store) js place (one_more j));
          shares = made.shares;
        };
        limited = p.limited;
        few = λ some. (let le = few (omega (arith, some, long)) in omega (arith, le, long));
        ways = all_step (OnItsWay code s.store) js place j r.there p.ways (record { count = way.count; ends = way.ends; within = omega (arith, lt) });
        before = p.before;
        retired = p.retired;
        counted = omega (arith, long, more, counted);
      })

  paced_retire : (n : ℕ) (c : Core) (oldest : WindowJob) (younger : List WindowJob) → c.window ≡ oldest ∷ younger
      → IsSome oldest.run.over → Paced n c → Paced (suc n) (lets_go x oldest younger c)
  paced_retire n c oldest younger is over p =
      let f = p.beside in
      let s = f.state in
      let r = first_at code s.store f.jobs oldest younger (sym f.window ∙ is) in
      let j = r.progress in
      let js = r.others in
      let h : Shares x code (MayFollow facts) s (j ∷ js) c.state = subst (λ l. Shares x code (MayFollow facts) s l c.state) r.here f.shares in
      let over_now : IsSome (run_of code s.store j).run.over = subst (λ (k : WindowJob). IsSome k.run.over) r.is over in
      let t = retire x kept code faithful (MayFollow facts) pairs s j js c.state h over_now in
      let own = run_of code s.store j in
      let done = done_of own.run.own own.run.over in
      let same : settles x (window_of code s.store js) (retires x j.start done c.state)
      ≡ books.settles x j.start (done_by (job x j.start s.store)) (starts_of js) c.state =
      settles_same x code s.store js j.start done c.state ∙ ap (λ d. books.settles x j.start d (starts_of js) c.state) t.done in
      let fits = all_fit x kept code faithful (MayFollow facts) pairs s (j ∷ js) c.state h in
      let ways : Ways s.store (j ∷ js) = subst (Ways s.store) r.here p.ways in
      let way = ways.0 in
      let all = all_of_them code j.start s.store j.made way.count way.ends way.within over_now in
      let next = window_next x s h.valid j.start (starts_of js) h.ahead.window in
      let left = window_of code s.store js in
      let long : length c.window ≡ length (stands_at code s.store j ∷ left) = ap length f.window ∙ ap (λ l. length (window_of code s.store l)) r.here in
      let le : c.state.ended + length c.window ≤ limit = p.few (omega (arith, long)) in
      let ended : c.state.ended ≡ s.ended = ap (λ (u : State). u.ended) h.ahead.same in
      let lt : s.ended < limit = omega (arith, le, ended, long) in
      let one : (lets_go x (stands_at code s.store j) left c).state.ended ≡ c.state.ended
      + 1 = settled_ended x left (retires x j.start done c.state) ∙ (retire_keeps x j.start done c.state).ended in
      let number : suc c.retired ≡ c.retired + 1 = omega arith in
      let made : made_by f.jobs ≡ made_by (j ∷ js) = ap made_by r.here in
      let counted = p.counted in
      subst (λ (k : WindowJob). Paced (suc n) (lets_go x k younger c)) (sym r.is)
      (subst (λ l. Paced (suc n) (lets_go x (stands_at code s.store j) l c)) (sym r.rest)
      (record {
        beside = record {
          state = turn x s;
          jobs = js;
          turn_is = ap (turn x) f.turn_is ∙ sym (after_later x first c.retired);
          window = window_move s.store (turn x s).store js t.moves;
          shares = subst (λ b. Shares x code (MayFollow facts) (turn x s) js b) (sym same) t.shares;
        };
        limited = p.limited;
        few = λ some. omega (arith, one, le, long);
        ways = ways_move s h.valid j.start fits.0 (starts_of js) h.ahead.window js fits.1 h.passes.0 ways.1;
        before = p.before + way.count;
        retired = subst (λ k. Make k (p.before + way.count)) number (next_makes s c.retired p.before way.count j.start f.turn_is next lt way.ends p.retired);
        counted = omega (arith, long, made, all, counted);
      }))

  -- ## Events

  pub paced_event : (workers : ℕ) (n : ℕ) (c : Core) (e : CoreEvent) (can : IsAllowed facts workers c e) → Paced n c
      → Paced (suc n) (after_event x code facts workers c e can)
  paced_event workers n c Issue can p = paced_issue workers n c can p
  paced_event workers n c (Step number) can p = paced_step n c can.place can.job can.there can.runs p
  paced_event workers n c Retire can p = paced_retire n c can.oldest can.younger can.first can.over p

  pub paced_runs : (workers : ℕ) (events : List CoreEvent) (n : ℕ) (c d : Core) → Paced n c
      → Runs (runs.setting x code facts workers) events c d → Paced (n + length events) d
  unfolding Runs
  paced_runs workers [] n c d p is =
      let same : n ≡ n + 0 = omega arith in
      subst (λ m. Paced m d) same (subst (Paced n) (sym is) p)
  paced_runs workers (e ∷ es) n c d p r =
      let same : suc n + length es ≡ n + length (e ∷ es) = omega arith in
      subst (λ m. Paced m d) same (paced_runs workers es (suc n) (after_event x code facts workers c e r.0) d (paced_event workers n c e r.0 p) r.1)

  -- before the first event
  pub paced_first : (c : Core) → IsValid x first → arrivals x first ≡ first → c.state ≡ first → c.window ≡ [] → c.retired ≡ 0 → c.limit ≡ limit → Paced 0 c
  unfolding after
  paced_first c v quiet is none zero_now limited =
      let long : length c.window ≡ 0 = ap length none in
      record {
        beside = record {
          state = first;
          jobs = [];
          turn_is = sym quiet ∙ ap (after x first) (sym zero_now);
          window = none;
          shares = first_shares x kept code faithful facts pairs first c.state v is;
        };
        limited = limited;
        few = λ some. absurd (omega (arith, some, long));
        ways = tt;
        before = 0;
        retired = subst (λ k. Make k 0) (sym zero_now) refl;
        counted = omega (arith, long, zero_now);
      }

  -- ## The jobs of the window are the next ones of the single run

  -- so many jobs make at least so many instructions
  pub record MakeAsMany (n : ℕ) (some : ℕ) : Type 0 where
    pub total : ℕ
    pub made : Make n total
    pub most : some ≤ total

  -- a window that has lost its oldest
  window_then : (s : State) → IsValid x s → (a : JobStart) (rest : List JobStart) → IsWindow x s (a ∷ rest) → IsWindow x (turn x s) rest
  window_then s v a rest w = (ahead_retire x s v a rest (all_begun (jobs_of (a ∷ rest)) s) (record { window = w; same = refl })).window

  pub window_makes : (js : List Progress) (n : ℕ) (s : State) → s ≡ after x first n → IsValid x s
      → IsWindow x s (starts_of js) → AllPass (MayFollow facts) (starts_of js)
      → (0 < length js → s.ended + length js ≤ limit) → Ways s.store js → (before : ℕ) → Make n before
      → MakeAsMany (n + length js) (before + made_by js)
  window_makes [] n s is v w pass few ways before made =
      let same : n ≡ n + 0 = omega arith in
      record { total = before; made = subst (λ k. Make k before) same made; most = omega arith }
  window_makes (j ∷ js) n s is v w pass few ways before made =
      let fits = window_fits x s (j.start ∷ starts_of js) v w in
      let next = window_next x s v j.start (starts_of js) w in
      let le : s.ended + length (j ∷ js) ≤ limit = few (omega arith) in
      let lt : s.ended < limit = omega (arith, le) in
      let way = ways.0 in
      let one = next_makes s n before way.count j.start is next lt way.ends made in
      let ended = turn_ended x s limit (goes_on limit s j.start next lt) in
      let number : n + 1 ≡ suc n = omega arith in
      let turned : turn x s ≡ after x first (suc n) = ap (turn x) is ∙ sym (after_later x first n) ∙ ap (after x first) number in
      let later = window_makes js (suc n) (turn x s) turned (turn_valid x kept s v)
      (window_then s v j.start (starts_of js) w) pass.1 (λ some. omega (arith, ended, le))
      (ways_move s v j.start fits.0 (starts_of js) w js fits.1 pass.0 ways.1) (before + way.count) one in
      let same : suc n + length js ≡ n + length (j ∷ js) = omega arith in
      let most = later.most in
      let within = way.within in
      record {
        total = later.total;
        made = subst (λ k. Make k later.total) same later.made;
        most = omega (arith, most, within);
      }
