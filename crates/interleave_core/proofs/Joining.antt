-- Jobs that have begun one after the other, each of which has made some instructions on the common
-- words, beside the single run.
use Rattle.std.proofs.Common.{◌≡◌, ℕ, zero, suc, ◌+◌, ◌<◌, true, List, [], ◌∷◌, ◌++◌, length, map}
use Rattle.std.proofs.Common.{Some, None, slice_get, refl, sym, ap, ◌∙◌, subst, arith}
use Rattle.std.proofs.lemmas.List.{append-nil, map-append, map-set}
use Rattle.std.proofs.lemmas.Option.{none-some, same_Some}
use Rattle.std.specs.Prelude.{IsSome, slice_index, slice_set}
use Rattle.std.specs.List.{AllByRecursion}
use Rattle.plex_num.proofs.Lists.{all_append, all_left, all_right, all_weaker}
use Rattle.job_types.specs.declared.chain.Held.{Held}
use Rattle.job_types.specs.declared.job.Job.{Job}
use Rattle.job_types.specs.declared.job.JobStart.{JobStart}
use Rattle.job_types.specs.declared.outcome.JobDone.{JobDone}
use Rattle.job_types.specs.declared.outcome.Outcome.{Outcome}
use Rattle.job_types.specs.declared.outcome.Outcome.TheVariants.{Ended, Faulted}
use Rattle.job_types.specs.declared.touch.Touch.{Touch}
use Rattle.job_types.specs.Forlopps.{ChainMap}
use Rattle.job_types.specs.Own.{World, done_of, outcome_of}
use Rattle.job_types.specs.Touches.{stored}
use Rattle.job_types.proofs.Touched.{length-stored, stored-append}
use Rattle.machine_code.specs.Coded.{Code}
use Rattle.machine_code.specs.Listed.{is_word_of}
use Rattle.exchange_model.specs.declared.exchange.Exchange.{Exchange}
use Rattle.exchange_model.specs.Kept.{IsExchange}
use Rattle.machine_code.proofs.Listed.{word_of}
use Rattle.source_meaning.specs.Config.{Config}
use Rattle.source_meaning.specs.Job.{job}
use Rattle.source_meaning.specs.SingleRun.{begun, next_start, turn}
use Rattle.source_meaning.specs.State.{State}
use Rattle.source_meaning.specs.Traces.{AgreeOn, IsTouched, LeavesAlone, touched_word, trace_of}
use Rattle.source_meaning.specs.Valid.{IsFitting, IsJob, IsValid}
use Rattle.source_meaning.proofs.Agreeing.{agree_answers, left_alone}
use Rattle.source_meaning.proofs.Growing.{job_store}
use Rattle.source_meaning.proofs.Retiring.{begun_valid, start_fits, turn_valid}
use Rattle.source_meaning.proofs.Touching.{touches_inside}
use Rattle.machine_meaning.specs.Faithful.{Faithful, Means, RunsAsMeant, started}
use Rattle.machine_meaning.specs.Machine.{Machine, op_at, reach, stepped}
use Rattle.machine_meaning.specs.Steps.{MayStep}
use Rattle.order_laws.specs.Books.{AreAhead, settles}
use Rattle.order_laws.specs.Ends.{Spares, words_left}
use Rattle.order_laws.specs.Keeps.{NoLineBefore}
use Rattle.order_laws.specs.Picks.{all_begun}
use Rattle.order_laws.specs.Windows.{IsWindow, MakesWay, done_by, jobs_of}
use Rattle.order_laws.proofs.Following.{ahead_issue, ahead_retire, ahead_store, ahead_words}
use Rattle.order_laws.proofs.Following.{turn_store}
use Rattle.order_laws.proofs.Moving.{window_fits}
use Rattle.order_laws.proofs.Starting.{next_over}
use Rattle.order_laws.proofs.Wording.{over}
use Rattle.pair_laws.specs.Orders.{ended_touches, retirement_touches}
use Rattle.pair_laws.proofs.Storing.{release_stored}
use Rattle.pair_laws.proofs.Touching.{lists_past, no_store_append}
use Rattle.run_laws.specs.Alone.{IsTold, alone, makes, on_words}
use Rattle.run_laws.proofs.Framed.{run_framed}
use Rattle.run_laws.proofs.Going.{run_front, run_next, run_over}
use Rattle.run_laws.proofs.Told.{run_told}
use Rattle.interleave_core.specs.Follows.{AllApart, AreApart, one_after_other, own_run}
use Rattle.interleave_core.proofs.Instructing.{alone_more, makes_more, may_touch, next_touch}
use Rattle.interleave_core.proofs.Instructing.{step_run, step_words, trace_more}
use Rattle.interleave_core.proofs.Sharing.{Grown, grown, apart_fronts, leaves_all, touched_left}

-- ## Two jobs that pass

-- what they give in a state that both fit: neither touches what the other one stores to, and the
-- retirement of the first leaves alone what the later one touches
pub record PairGives (x : Exchange) (s : State) (a b : JobStart) : Type 0 where
  pub apart : AreApart (trace_of x a s.store) (trace_of x b s.store)
  pub released : LeavesAlone (retirement_touches x (done_by (job x a s.store))) (trace_of x b s.store)

-- so it is of each two that pass, in every valid state, and the first makes way to the later one
-- wherever it begins
pub record PairsGive (x : Exchange) (Pass : JobStart → JobStart → Type 0) : Type 0 where
  pub way : (a b : JobStart) → IsJob x b.job → Pass a b → MakesWay x a b
  pub gives : (a b : JobStart) → Pass a b → (s : State) → IsValid x s → IsFitting x s a → IsFitting x s b → PairGives x s a b

-- ## Jobs on their way

-- a job that has begun: its start, and how many instructions it has made
pub record Progress : Type 0 where
  pub start : JobStart
  pub made : ℕ

-- its own run alone on these words
abbrev pub run_of : Code → List ℕ → Progress → Machine
run_of code base j = own_run code j.start j.made base

abbrev pub starts_of : List Progress → List JobStart
starts_of js = map (λ (j : Progress). j.start) js

abbrev pub touches_of : Code → List ℕ → List Progress → List (List Touch)
touches_of code base js = map (λ (j : Progress). (run_of code base j).world.trace) js

-- each older one passes with each younger one
abbrev pub AllPass : (JobStart → JobStart → Type 0) → List JobStart → Type 0
AllPass Pass [] = Unit {0}
AllPass Pass (a ∷ rest) = AllByRecursion (Pass a) rest × AllPass Pass rest

-- before the first instruction, and after one more
abbrev pub beginning : JobStart → Progress
beginning start = record { start = start; made = 0 }

abbrev pub one_more : Progress → Progress
one_more j = record { start = j.start; made = suc j.made }

-- the books are ahead of the single run by these jobs, each two of which pass, and the words are
-- those of the single run with all that their own runs alone have stored so far
pub record Shares (x : Exchange) (code : Code) (Pass : JobStart → JobStart → Type 0) (s : State) (js : List Progress) (books : State) : Type 0 where
  pub valid : IsValid x s
  pub ahead : AreAhead x s (starts_of js) books
  pub passes : AllPass Pass (starts_of js)
  pub words : books.store ≡ stored s.store (one_after_other (touches_of code s.store js))

-- ## Lists of jobs

pass_more : (Pass : JobStart → JobStart → Type 0) (starts : List JobStart) (start : JobStart) → AllPass Pass starts
    → AllByRecursion (λ (older : JobStart). Pass older start) starts → AllPass Pass (starts ++ start ∷ [])
pass_more Pass [] start all new = (tt, tt)
pass_more Pass (a ∷ rest) start all new = (all_append (Pass a) rest (start ∷ []) all.0 (new.0, tt), pass_more Pass rest start all.1 new.1)

touches_issue : (code : Code) (base : List ℕ) (js : List Progress) (start : JobStart)
    → one_after_other (touches_of code base (js ++ beginning start ∷ [])) ≡ one_after_other (touches_of code base js)
unfolding alone
touches_issue code base [] start = refl
touches_issue code base (j ∷ js) start = ap (λ ts. (run_of code base j).world.trace ++ ts) (touches_issue code base js start)

starts_step : (js : List Progress) (place : ℕ) (j : Progress) → slice_get js place ≡ Some j → starts_of (slice_set js place (one_more j)) ≡ starts_of js
starts_step [] place j at = absurd (none-some j at)
starts_step (k ∷ js) zero j at = ap (λ (i : Progress). i.start ∷ starts_of js) (sym (same_Some k j at))
starts_step (k ∷ js) (suc n) j at = ap (λ starts. k.start ∷ starts) (starts_step js n j at)

touches_at : (code : Code) (base : List ℕ) (js : List Progress) (place : ℕ) (j : Progress) → slice_get js place ≡ Some j
    → slice_get (touches_of code base js) place ≡ Some (run_of code base j).world.trace
touches_at code base [] place j at = absurd (none-some j at)
touches_at code base (k ∷ js) zero j at = ap (λ (i : Progress). Some (run_of code base i).world.trace) (same_Some k j at)
touches_at code base (k ∷ js) (suc n) j at = touches_at code base js n j at

start_at : (P : JobStart → Type 0) (js : List Progress) (place : ℕ) (j : Progress) → AllByRecursion P (starts_of js) → slice_get js place ≡ Some j → P j.start
start_at P [] place j all at = absurd (none-some j at)
start_at P (k ∷ js) zero j all at = subst (λ (i : Progress). P i.start) (same_Some k j at) all.0
start_at P (k ∷ js) (suc n) j all at = start_at P js n j all.1 at

pub all_map_same : {B : Type 0} (f g : Progress → B) (js : List Progress) → AllByRecursion (λ (j : Progress). f j ≡ g j) js → map f js ≡ map g js
all_map_same f g [] all = refl
all_map_same f g (j ∷ js) all = ap (λ y. y ∷ map f js) all.0 ∙ ap (λ ys. g j ∷ ys) (all_map_same f g js all.1)

-- ## Ends

-- what the retirement of a job that spares a later one does to any words
left_is : (x : Exchange) (own : ℕ) (o : Outcome) (chain : List Held) (chains : ChainMap) (words : List ℕ) (later : ℕ)
    → Spares later own o → words_left x own o chain chains words ≡ stored words (ended_touches x o chain)
left_is x own Ended chain chains words later spares = refl
left_is x zero (Faulted f point) chain chains words later spares = absurd (spares.0 refl)
left_is x (suc n) (Faulted f point) chain chains words later spares = release_stored x chain words

-- the end of the machine is what the job leaves
done_same : (m end : Machine) (c : Config) → m ≡ end → Means c end → done_of m.run.own m.run.over ≡ done_by c
done_same m end c is means =
    let sends = ap (λ (q : Machine). q.run.own.sends) is ∙ means.sends in
    let chain = ap (λ (q : Machine). q.run.own.chain) is ∙ means.chain in
    let over = ap (λ (q : Machine). q.run.over) is ∙ means.over in
    λ i. record { sends = sends i; chain = chain i; outcome = outcome_of (over i) }

-- ## The next job

-- states in which jobs have begun are valid
pub begun_all_valid : (x : Exchange) (js : List Job) (s : State) → IsValid x s → IsValid x (all_begun js s)
begun_all_valid x [] s v = v
begun_all_valid x (j ∷ js) s v = begun_all_valid x js (begun s) (begun_valid x s v)

-- the next job of the books is one of the exchange
pub next_is_job : (x : Exchange) (s : State) (starts : List JobStart) (books : State) (start : JobStart) → IsValid x s
    → AreAhead x s starts books → next_start books ≡ Some start → IsJob x start.job
next_is_job x s starts books start v ahead is =
    let t = all_begun (jobs_of starts) s in
    let next : next_start t ≡ Some start = sym (next_over t books.store) ∙ ap next_start (sym ahead.same) ∙ is in
    let fits = start_fits x t start (begun_all_valid x (jobs_of starts) s v) next in
    fits.job

-- ## In an exchange

-- a list begins with another one
pub record IsFront (a b : List Touch) : Type 0 where
  pub more : List Touch
  pub is : b ≡ a ++ more

-- the instruction on the common words is the next one of the own run, and the jobs still share the
-- words
pub record Steps (x : Exchange) (code : Code) (Pass : JobStart → JobStart → Type 0) (s : State) (js : List Progress)
    (place : ℕ) (j : Progress) (books : State) : Type 0 where
  pub run : (stepped code.ops (run_of code s.store j).run books.store).run ≡ (run_of code s.store (one_more j)).run
  pub shares : Shares x code Pass s (slice_set js place (one_more j)) (over (stepped code.ops (run_of code s.store j).run books.store).world.store books)

-- from one list of words to another the run of a job moves on as it is
pub record MovesOn (code : Code) (base now : List ℕ) (j : Progress) : Type 0 where
  pub agree : AgreeOn (run_of code base j).world.trace base now
  pub same : run_of code now j ≡ on_words now (run_of code base j)

-- the oldest job is at the end that it has in the single run, and the others share the words of the
-- next state
pub record Retires (x : Exchange) (code : Code) (Pass : JobStart → JobStart → Type 0) (s : State) (j : Progress)
    (js : List Progress) (books : State) : Type 0 where
  pub done : done_of (run_of code s.store j).run.own (run_of code s.store j).run.over ≡ done_by (job x j.start s.store)
  pub shares : Shares x code Pass (turn x s) js (settles x j.start (done_by (job x j.start s.store)) (starts_of js) books)
  pub moves : AllByRecursion (MovesOn code s.store (turn x s).store) js

module _ (x : Exchange) (kept : IsExchange x) (code : Code) (faithful : Faithful x code) (Pass : JobStart → JobStart → Type 0) (pairs : PairsGive x Pass) where
  abbrev Here : State → List Progress → State → Type 0
  Here s js books = Shares x code Pass s js books

  module _ (s : State) (v : IsValid x s) where
    abbrev Fits : JobStart → Type 0
    Fits start = IsFitting x s start

    abbrev trace : Progress → List Touch
    trace j = (run_of code s.store j).world.trace

    -- the trace so far is the front of the job's trace
    front : (j : Progress) → Fits j.start → IsFront (trace j) (trace_of x j.start s.store)
    front j fits =
        let r = faithful.runs s j.start v fits in
        let g = run_front j.made code.ops (started code j.start) s.store r.end r.ends in
        record { more = g.touches; is = sym (ap (λ (w : World). w.trace) r.means.world) ∙ g.is }

    two_apart : (j k : Progress) → Fits j.start → Fits k.start → Pass j.start k.start → AreApart (trace j) (trace k)
    two_apart j k fits_j fits_k pass =
        let g = pairs.gives j.start k.start pass s v fits_j fits_k in
        let fj = front j fits_j in
        let fk = front k fits_k in
        apart_fronts (trace j) (trace k) fj.more fk.more
        (subst (λ ts. AreApart ts (trace k ++ fk.more)) fj.is (subst (λ ts. AreApart (trace_of x j.start s.store) ts) fk.is g.apart))

    one_apart : (j : Progress) (js : List Progress) → Fits j.start → AllByRecursion Fits (starts_of js)
        → AllByRecursion (Pass j.start) (starts_of js)
        → AllByRecursion (AreApart (trace j)) (touches_of code s.store js)
    one_apart j [] one fits pass = tt
    one_apart j (k ∷ js) one fits pass = (two_apart j k one fits.0 pass.0, one_apart j js one fits.1 pass.1)

    pub all_apart : (js : List Progress) → AllByRecursion Fits (starts_of js) → AllPass Pass (starts_of js) → AllApart (touches_of code s.store js)
    all_apart [] fits pass = tt
    all_apart (j ∷ js) fits pass = (one_apart j js fits.0 fits.1 pass.0, all_apart js fits.1 pass.1)

    -- ### The next state

    module _ (a : JobStart) (fits_a : Fits a) where
      abbrev releases : List Touch
      releases = retirement_touches x (done_by (job x a s.store))

      abbrev all_by_a : List Touch
      all_by_a = trace_of x a s.store ++ releases

      spares_later : (b : JobStart) → Fits b → Pass a b → Spares b.job.forlopp a.job.forlopp (done_by (job x a s.store)).outcome
      spares_later b fits pass = ((pairs.way a b fits.job pass).stays s v fits_a).outcome

      turn_words : (b : JobStart) (rest : List JobStart) → Fits b → Pass a b → IsWindow x s (a ∷ rest) → (turn x s).store ≡ stored s.store all_by_a
      turn_words b rest fits pass w =
          let end = job x a s.store in
          let done = done_by end in
          turn_store x s a rest w
          ∙ left_is x a.job.forlopp done.outcome done.chain s.chains end.world.store b.job.forlopp (spares_later b fits pass)
          ∙ ap (λ l. stored l releases) (job_store x a s.store)
          ∙ sym (stored-append (trace_of x a s.store) releases s.store)

      -- what the first one stores leaves alone what a later one has touched
      leaves_front : (k : Progress) → Fits k.start → Pass a k.start → LeavesAlone all_by_a (trace k)
      leaves_front k fits pass =
          let g = pairs.gives a k.start pass s v fits_a fits in
          let f = front k fits in
          let full : (w : ℕ) → IsTouched (trace k) w → IsTouched (trace_of x k.start s.store) w =
          λ w at. subst (λ ts. IsTouched ts w) (sym f.is) (touched_left (trace k) f.more w at) in
          λ w at. no_store_append w (trace_of x a s.store) releases (g.apart.first_alone w (full w at)) (g.released w (full w at))

      moves_on : (k : Progress) (rest : List JobStart) → Fits k.start → Pass a k.start → IsWindow x s (a ∷ rest) → MovesOn code s.store (turn x s).store k
      moves_on k rest fits pass w =
          let now = (turn x s).store in
          let agree : AgreeOn (trace k) s.store now =
          subst (AgreeOn (trace k) s.store) (sym (turn_words k.start rest fits pass w)) (left_alone all_by_a (trace k) s.store (leaves_front k fits pass)) in
          let told = run_told k.made code.ops (started code k.start) s.store in
          record {
            agree = agree;
            same = run_framed k.made code.ops (started code k.start) s.store now (agree_answers (trace k) s.store now agree.long agree.same told.loads);
          }

      pub all_move_on : (js : List Progress) (rest : List JobStart) → AllByRecursion Fits (starts_of js)
          → AllByRecursion (Pass a) (starts_of js) → IsWindow x s (a ∷ rest)
          → AllByRecursion (MovesOn code s.store (turn x s).store) js
      all_move_on [] rest fits pass w = tt
      all_move_on (k ∷ js) rest fits pass w = (moves_on k rest fits.0 pass.0 w, all_move_on js rest fits.1 pass.1 w)

      released_from : (js : List Progress) → AllByRecursion Fits (starts_of js) → AllByRecursion (Pass a) (starts_of js)
          → AllByRecursion (LeavesAlone releases) (touches_of code s.store js)
      released_from [] fits pass = tt
      released_from (k ∷ js) fits pass =
          let g = pairs.gives a k.start pass.0 s v fits_a fits.0 in
          let f = front k fits.0 in
          (λ w at. g.released w (subst (λ ts. IsTouched ts w) (sym f.is) (touched_left (trace k) f.more w at)), released_from js fits.1 pass.1)

  -- the touches of a later state's words
  pub touches_move : (base now : List ℕ) (js : List Progress) → AllByRecursion (MovesOn code base now) js → touches_of code now js ≡ touches_of code base js
  touches_move base now js all =
      all_map_same (λ j. (run_of code now j).world.trace) (λ j. (run_of code base j).world.trace) js
      (all_weaker (MovesOn code base now) (λ j. (run_of code now j).world.trace ≡ (run_of code base j).world.trace) js
      (λ j m. ap (λ (q : Machine). q.world.trace) m.same) all)

  -- ## Issue

  pub issue : (s : State) (js : List Progress) (books : State) (start : JobStart) → Here s js books
      → next_start books ≡ Some start → AllByRecursion (λ (older : JobStart). Pass older start) (starts_of js)
      → NoLineBefore (books.ended + length (starts_of js) + 1) books.lines
      → Here s (js ++ beginning start ∷ []) (begun books)
  issue s js books start h next new line =
      let starts = starts_of js in
      let more : starts_of (js ++ beginning start ∷ []) ≡ starts ++ start ∷ [] = map-append (λ (j : Progress). j.start) js (beginning start ∷ []) in
      let is_job = next_is_job x s starts books start h.valid h.ahead next in
      let ways = all_weaker (λ (older : JobStart). Pass older start) (λ (older : JobStart). MakesWay x older start)
      starts (λ older p. pairs.way older start is_job p) new in
      record {
        valid = h.valid;
        ahead = subst (λ all. AreAhead x s all (begun books)) (sym more) (ahead_issue x s starts books start h.ahead next ways line);
        passes = subst (AllPass Pass) (sym more) (pass_more Pass starts start h.passes new);
        words = h.words ∙ ap (stored s.store) (sym (touches_issue code s.store js start));
      }

  -- ## Step

  module _ (s : State) (js : List Progress) (books : State) (h : Shares x code Pass s js books) where
    pub all_fit : AllByRecursion (IsFitting x s) (starts_of js)
    all_fit = window_fits x s (starts_of js) h.valid h.ahead.window

    module _ (place : ℕ) (j : Progress) (at : slice_get js place ≡ Some j) (runs : (run_of code s.store j).run.over ≡ None) where
      abbrev m : Machine
      m = run_of code s.store j

      abbrev more : List Touch
      more = next_touch code.ops m

      abbrev js' : List Progress
      js' = slice_set js place (one_more j)

      run_more : run_of code s.store (one_more j) ≡ makes code.ops m
      run_more = alone_more j.made code.ops (started code j.start) s.store ∙ makes_more code.ops m runs

      touches_step : touches_of code s.store js' ≡ slice_set (touches_of code s.store js) place (m.world.trace ++ more)
      touches_step =
          map-set (λ (k : Progress). (run_of code s.store k).world.trace) js place (one_more j)
          ∙ ap (λ ts. slice_set (touches_of code s.store js) place ts) (ap (λ (q : Machine). q.world.trace) run_more ∙ trace_more code.ops m)

      apart_step : AllApart (touches_of code s.store js')
      apart_step =
          let starts = starts_step js place j at in
          all_apart s h.valid js' (subst (AllByRecursion (IsFitting x s)) (sym starts) all_fit) (subst (AllPass Pass) (sym starts) h.passes)

      grows : Grown s.store (touches_of code s.store js) place m.world.trace more
      grows = grown (touches_of code s.store js) s.store place m.world.trace more
          (touches_at code s.store js place j at) (subst AllApart touches_step apart_step)

      told : IsTold s.store m
      told = run_told j.made code.ops (started code j.start) s.store

      pub step : Steps x code Pass s js place j books
      step =
          let now = (stepped code.ops m.run books.store).world.store in
          let found : (w : ℕ) → IsTouched more w → slice_index books.store w ≡ slice_index m.world.store w =
          λ w own. ap (λ l. slice_index l w) h.words ∙ grows.own w own ∙ ap (λ l. slice_index l w) (sym told.words) in
          record {
            run = step_run code.ops m books.store found ∙ sym (ap (λ (q : Machine). q.run) run_more);
            shares = record {
              valid = h.valid;
              ahead = subst (λ starts. AreAhead x s starts (over now books)) (sym (starts_step js place j at))
                  (ahead_words x s (starts_of js) books now h.ahead);
              passes = subst (AllPass Pass) (sym (starts_step js place j at)) h.passes;
              words = step_words code.ops m books.store
                  ∙ ap (λ l. stored l more) h.words
                  ∙ grows.words
                  ∙ ap (λ tss. stored s.store (one_after_other tss)) (sym touches_step);
            };
          }

      -- it may be made
      pub may_step : MayStep code.ops (is_word_of books.store) (is_word_of books.store) m.run
      may_step =
          let fits = start_at (IsFitting x s) js place j all_fit at in
          let r = faithful.runs s j.start h.valid fits in
          let can = run_next j.made code.ops (started code j.start) s.store r.end r.ends runs in
          let whole : length books.store ≡ x.cells =
          ap length h.words ∙ length-stored (one_after_other (touches_of code s.store js)) s.store ∙ h.valid.store.whole in
          let few = kept.limited.cells in
          let all : trace_of x j.start s.store ≡ (m.world.trace ++ more) ++ can.grows.touches =
          sym (ap (λ (w : World). w.trace) r.means.world) ∙ can.grows.is ∙ ap (λ ts. ts ++ can.grows.touches) (trace_more code.ops m) in
          let inside : AllByRecursion (λ (t : Touch). touched_word t < x.cells) ((m.world.trace ++ more) ++ can.grows.touches) =
          subst (AllByRecursion (λ (t : Touch). touched_word t < x.cells)) all (touches_inside x kept j.start s.store) in
          let near = all_right (λ (t : Touch). touched_word t < x.cells) m.world.trace more
          (all_left (λ (t : Touch). touched_word t < x.cells) (m.world.trace ++ more) can.grows.touches inside) in
          record {
            within = can.within;
            allowed = can.allowed;
            word = may_touch (is_word_of books.store) (reach (op_at code.ops m.run.pc) m.run) m.world.store
                (all_weaker (λ (t : Touch). touched_word t < x.cells) (λ (t : Touch). is_word_of books.store (touched_word t) ≡ true) more
                (λ t lt. word_of books.store x.cells (touched_word t) whole (omega (arith, few)) lt) near);
          }

  -- ## Retire

  words_retired : (s : State) (j : Progress) (js : List Progress) (books : State)
      (h : Shares x code Pass s (j ∷ js) books) → IsSome (run_of code s.store j).run.over
      → AllByRecursion (MovesOn code s.store (turn x s).store) js
      → (run_of code s.store j).world.trace ≡ trace_of x j.start s.store
      → AllByRecursion (IsFitting x s) (j.start ∷ starts_of js)
      → (settles x j.start (done_by (job x j.start s.store)) (starts_of js) books).store
      ≡ stored (turn x s).store (one_after_other (touches_of code (turn x s).store js))
  words_retired s j [] books h over_now all trace_is fits =
      let done = done_by (job x j.start s.store) in
      let m = run_of code s.store j in
      let left : List ℕ → List ℕ = words_left x j.start.job.forlopp done.outcome done.chain s.chains in
      ahead_store x s h.valid j.start [] books h.ahead
      ∙ ap left (h.words ∙ ap (stored s.store) (append-nil m.world.trace ∙ trace_is) ∙ sym (job_store x j.start s.store))
      ∙ sym (turn_store x s j.start [] h.ahead.window)
  words_retired s j (k ∷ rest) books h over_now all trace_is fits =
      let done = done_by (job x j.start s.store) in
      let m = run_of code s.store j in
      let js = k ∷ rest in
      let full = trace_of x j.start s.store in
      let back = retirement_touches x done in
      let others = one_after_other (touches_of code s.store js) in
      let alone_by : LeavesAlone back others =
      leaves_all back (touches_of code s.store js) (released_from s h.valid j.start fits.0 js fits.1 h.passes.0) in
      ahead_store x s h.valid j.start (starts_of js) books h.ahead
      ∙ left_is x j.start.job.forlopp done.outcome done.chain s.chains books.store k.start.job.forlopp
      (spares_later s h.valid j.start fits.0 k.start fits.1.0 h.passes.0.0)
      ∙ ap (λ l. stored l back) (h.words ∙ stored-append m.world.trace others s.store ∙ ap (λ ts. stored (stored s.store ts) others) trace_is)
      ∙ lists_past others back (stored s.store full) alone_by
      ∙ ap (λ l. stored l others) (sym (stored-append full back s.store)
      ∙ sym (turn_words s h.valid j.start fits.0 k.start (starts_of js) fits.1.0 h.passes.0.0 h.ahead.window))
      ∙ ap (λ tss. stored (turn x s).store (one_after_other tss)) (sym (touches_move s.store (turn x s).store js all))

  module _ (s : State) (j : Progress) (js : List Progress) (books : State) (h : Shares x code Pass s (j ∷ js) books) where
    abbrev last : Machine
    last = run_of code s.store j

    abbrev end : Config
    end = job x j.start s.store

    abbrev done : JobDone
    done = done_by end

    abbrev window : IsWindow x s (j.start ∷ starts_of js)
    window = h.ahead.window

    fits : AllByRecursion (IsFitting x s) (j.start ∷ starts_of js)
    fits = window_fits x s (j.start ∷ starts_of js) h.valid window

    pub moves : AllByRecursion (MovesOn code s.store (turn x s).store) js
    moves = all_move_on s h.valid j.start fits.0 js (starts_of js) fits.1 h.passes.0 window

    module _ (over_now : IsSome (run_of code s.store j).run.over) where
      means : RunsAsMeant x code j.start s.store
      means = faithful.runs s j.start h.valid fits.0

      at_end : last ≡ means.end
      at_end = run_over j.made code.ops (started code j.start) s.store means.end means.ends over_now

      trace_is : last.world.trace ≡ trace_of x j.start s.store
      trace_is = ap (λ (q : Machine). q.world.trace) at_end ∙ ap (λ (w : World). w.trace) means.means.world

    pub retire : IsSome (run_of code s.store j).run.over → Retires x code Pass s j js books
    retire over_now = record {
      done = done_same last (means over_now).end end (at_end over_now) (means over_now).means;
      shares = record {
        valid = turn_valid x kept s h.valid;
        ahead = ahead_retire x s h.valid j.start (starts_of js) books h.ahead;
        passes = h.passes.1;
        words = words_retired s j js books h over_now moves (trace_is over_now) fits;
      };
      moves = moves;
    }
