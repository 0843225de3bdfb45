-- A retirement changes places with taking later jobs, and jobs are picked one after the other.
use Rattle.std.proofs.Common.{◌≡◌, ◌+◌, List, [], ◌∷◌, ◌++◌, Some, refl, sym, ap, ◌∙◌, subst}
use Rattle.std.specs.List.{AllByRecursion}
use Rattle.job_types.specs.declared.job.Job.{Job}
use Rattle.job_types.specs.declared.job.JobStart.{JobStart}
use Rattle.job_types.specs.declared.outcome.JobDone.{JobDone}
use Rattle.job_types.specs.Waiting.{Waiting, after_pick, pick}
use Rattle.exchange_model.specs.declared.exchange.Exchange.{Exchange}
use Rattle.source_meaning.specs.Config.{Config}
use Rattle.source_meaning.specs.Retirement.{all_delivered, keeps_chain, retires, with_outcome}
use Rattle.source_meaning.specs.SingleRun.{begun, ended_as}
use Rattle.source_meaning.specs.State.{State}
use Rattle.order_laws.specs.Ends.{LetsStay}
use Rattle.order_laws.specs.Picks.{AllInPlace, PickStays, Picks, PicksStay, after_picks, all_begun}
use Rattle.order_laws.specs.Windows.{done_by}
use Rattle.order_laws.proofs.Delivering.{sends_stay}
use Rattle.order_laws.proofs.Placing.{placed_rest}
use Rattle.order_laws.proofs.Releasing.{chain_stays, outcome_stays}

pub retire_stays : (x : Exchange) (start : JobStart) (done : JobDone) (s : State) (j : Job) → AllInPlace s.waiting
    → pick s.waiting ≡ Some j → LetsStay start done j → PickStays j (retires x start done) s
retire_stays x start done s j h e lets =
    let f = start.job.forlopp in
    let t : State = record s { ended = s.ended + 1 } in
    let u = all_delivered f done.sends t in
    let sent = sends_stay j f done.sends t h e lets.sends in
    let kept = chain_stays j f done.chain u sent.picked in
    let out = outcome_stays x j f done.outcome (keeps_chain f done.chain u) kept.picked lets.outcome in
    record { picked = out.picked; same = out.same ∙ ap (with_outcome x f done.outcome) (kept.same ∙ ap (keeps_chain f done.chain) sent.same) }

pub end_stays : (x : Exchange) (start : JobStart) (end : Config) (s : State) (j : Job) → AllInPlace s.waiting
    → pick s.waiting ≡ Some j → LetsStay start (done_by end) j → PickStays j (ended_as x start end) s
end_stays x start end s j h e lets =
    let one = retire_stays x start (done_by end) (record s { store = end.world.store }) j h e lets in
    record { picked = one.picked; same = one.same }

-- what each of several jobs stays through, they all stay through
all_stay : (change : State → State) (js : List Job) (s : State) → AllInPlace s.waiting → Picks s.waiting js
    → AllByRecursion (λ (j : Job). (t : State) → AllInPlace t.waiting → pick t.waiting ≡ Some j → PickStays j change t) js → PicksStay js change s
all_stay change [] s h picked stays = record { picked = tt; same = refl }
all_stay change (j ∷ js) s h picked stays =
    let one = stays.0 s h picked.0 in
    let more = all_stay change js (begun s) (placed_rest s.waiting h) picked.1 stays.1 in
    record {
      picked = (one.picked, subst (λ (t : State). Picks t.waiting js) (sym one.same) more.picked);
      same = ap (all_begun js) one.same ∙ more.same;
    }

all_retire_stay : (x : Exchange) (start : JobStart) (done : JobDone) (js : List Job) → AllByRecursion (LetsStay start done) js
    → AllByRecursion (λ (j : Job). (t : State) → AllInPlace t.waiting → pick t.waiting ≡ Some j → PickStays j (retires x start done) t) js
all_retire_stay x start done [] lets = tt
all_retire_stay x start done (j ∷ js) lets = ((λ t h e. retire_stays x start done t j h e lets.0), all_retire_stay x start done js lets.1)

pub retire_all_stay : (x : Exchange) (start : JobStart) (done : JobDone) (s : State) (js : List Job)
    → AllInPlace s.waiting → Picks s.waiting js → AllByRecursion (LetsStay start done) js
    → PicksStay js (retires x start done) s
retire_all_stay x start done s js h picked lets = all_stay (retires x start done) js s h picked (all_retire_stay x start done js lets)

pub end_all_stay : (x : Exchange) (start : JobStart) (end : Config) (s : State) (js : List Job) → AllInPlace s.waiting
    → Picks s.waiting js → AllByRecursion (LetsStay start (done_by end)) js → PicksStay js (ended_as x start end) s
end_all_stay x start end s js h picked lets =
    let all = retire_all_stay x start (done_by end) (record s { store = end.world.store }) js h picked lets in
    record { picked = all.picked; same = all.same }

-- one more pick

pub picks_more : (w : Waiting) (js : List Job) (j : Job) → Picks w js → pick (after_picks js w) ≡ Some j → Picks w (js ++ j ∷ [])
picks_more w [] j picked next = (next, tt)
picks_more w (k ∷ js) j picked next = (picked.0, picks_more (after_pick w) js j picked.1 next)

pub picks_left : (w : Waiting) (js : List Job) (j : Job) → after_picks (js ++ j ∷ []) w ≡ after_pick (after_picks js w)
picks_left w [] j = refl
picks_left w (k ∷ js) j = picks_left (after_pick w) js j
