-- A job that begins in a valid state leaves one when it retires.
use Rattle.std.proofs.Common.{◌≡◌, ⊎_elim, ℕ, zero, suc, ◌+◌, Bool, true, false, List, [], ◌∷◌}
use Rattle.std.proofs.Common.{length, Option, Some, None, refl, sym, ap, ◌∙◌, subst, arith}
use Rattle.std.proofs.lemmas.Bool.{cases_eq}
use Rattle.std.proofs.lemmas.Option.{same_Some}
use Rattle.std.specs.Prelude.{◌≢◌, if◌then◌else◌}
use Rattle.std.specs.List.{AllByRecursion}
use Rattle.std.specs.Option.{option_map, option_map_or}
use Rattle.plex_num.specs.declared.level.Level.TheVariants.{A, B, C, D}
use Rattle.job_types.specs.declared.chain.Held.{Held}
use Rattle.job_types.specs.declared.job.Job.{Job}
use Rattle.job_types.specs.declared.job.JobStart.{JobStart}
use Rattle.job_types.specs.declared.outcome.Outcome.{Outcome}
use Rattle.job_types.specs.declared.outcome.Outcome.TheVariants.{Ended, Faulted}
use Rattle.job_types.specs.Forlopps.{chain_at, with_chain}
use Rattle.job_types.specs.Own.{budget, outcome_of}
use Rattle.job_types.specs.Waiting.{first_of, rest_of, pick}
use Rattle.exchange_model.specs.declared.exchange.Exchange.{Exchange}
use Rattle.exchange_model.specs.Kept.{IsExchange}
use Rattle.source_meaning.specs.Config.{Config}
use Rattle.source_meaning.specs.Job.{after_steps, begins, job}
use Rattle.source_meaning.specs.Ranges.{IsInRange, OverFits}
use Rattle.source_meaning.specs.Holdings.{RunningFits, running}
use Rattle.source_meaning.specs.Retirement.{all_delivered, keeps_chain, with_outcome}
use Rattle.source_meaning.specs.SingleRun.{start_of, next_start, begun, ended_as, turn, after}
use Rattle.source_meaning.specs.Arrivals.{arrivals}
use Rattle.source_meaning.specs.State.{State, chain_in, has_stopped}
use Rattle.source_meaning.specs.Valid.{HasRecords, IsLive, MayBe, StoreFits, WaitsAt, IsJob}
use Rattle.source_meaning.specs.Valid.{IsFitting, IsValid}
use Rattle.source_meaning.proofs.Books.{Books}
use Rattle.source_meaning.proofs.Freeing.{put_chain, put_same, put_other}
use Rattle.source_meaning.proofs.Holding.{HoldsOn, all_kept}
use Rattle.source_meaning.proofs.Keeping.{steps_keep}
use Rattle.source_meaning.proofs.Ranged.{start_ranges}
use Rattle.source_meaning.proofs.Releasing.{releases_valid, anew_valid}
use Rattle.source_meaning.proofs.Rests.{start_rests}
use Rattle.source_meaning.proofs.States.{chains_of, marks_of, books_of, books_as, IsLater}
use Rattle.source_meaning.proofs.States.{live_later, may_later, live_of, Orderly, orderly_of}
use Rattle.source_meaning.proofs.States.{valid_of, Lists, lists_of, lists_later, waiting_of}
use Rattle.source_meaning.proofs.Delivering.{IsDelivered, sends_orderly}
use Rattle.source_meaning.proofs.Arriving.{arrivals_valid}
use Rattle.job_types.proofs.ChainMaps.{chain_same, chain_other}

-- a number without records: 0, and each that is no forlopp
no_records : (chain : List Held) → (HasRecords chain → ⊥) → chain ≡ []
no_records [] none = refl
no_records (h ∷ chain) none = absurd (none tt)

module _ (x : Exchange) (kept : IsExchange x) (s : State) (v : IsValid x s) (start : JobStart) (fits : IsFitting x s start) where
  abbrev f : ℕ
  f = start.job.forlopp

  none_at_0 : chain_at s.chains 0 ≡ []
  none_at_0 = no_records (chain_at s.chains 0) (λ some. let live = v.chains.live 0 some in let drawn = live.drawn in absurd (omega arith))

  chain_is : (n : ℕ) → chain_in s n ≡ chain_at s.chains n
  chain_is zero = sym none_at_0
  chain_is (suc n) = refl

  own_chain : (n : ℕ) → put_chain (chain_at s.chains) f start.chain n ≡ chain_at s.chains n
  own_chain n = ⊎_elim
      (λ same. ap (put_chain (chain_at s.chains) f start.chain) same ∙ put_same (chain_at s.chains) f start.chain
      ∙ fits.chain ∙ chain_is f ∙ ap (chain_at s.chains) (sym same))
      (λ other. put_other (chain_at s.chains) f start.chain n other) (cases_eq n f)

  alive : f ≢ 0 → IsLive s f
  alive some = live_of s f some fits.forlopp

  start_holds : HoldsOn x (IsLive s) (chain_at s.chains) f (begins x start s.store)
  start_holds = record {
    forlopp = refl;
    bare = λ none. fits.chain ∙ ap (chain_in s) none;
    books = books_as {Still = IsLive s} own_chain (λ n h. h) (books_of x s v);
  }

  -- what is so at the end of the job
  pub record IsEnd (end : Config) : Type 0 where
    pub range : IsInRange x end
    pub holds : HoldsOn x (IsLive s) (chain_at s.chains) f end

  steps_so : (n : ℕ) → IsEnd (after_steps n x (begins x start s.store))
  steps_so n =
      let all = steps_keep (all_kept x kept (IsLive s) (chain_at s.chains) f alive) n (begins x start s.store)
      ((start_rests x start s.store, start_ranges x kept start s.store fits.job v.store), start_holds) in
      record { range = all.0.1; holds = all.1 }

  pub job_ends_so : IsEnd (job x start s.store)
  unfolding job
  job_ends_so = steps_so (budget + 1)

  -- while it runs: its own chain is its forlopp's
  running_books : (c : Config) → HoldsOn x (IsLive s) (chain_at s.chains) f c → (n : ℕ) → n ≡ f
      → Books x (IsLive (running n s c)) (chain_at (running n s c).chains) (running n s c).store
  running_books c h zero is =
      let none : f ≡ 0 = sym is in
      books_as {Still = IsLive (running zero s c)} (λ n. ⊎_elim
      (λ same. ap (chain_at s.chains) (same ∙ none) ∙ none_at_0 ∙ sym (h.bare none)
      ∙ sym (put_same (chain_at s.chains) f c.own.chain)
      ∙ ap (put_chain (chain_at s.chains) f c.own.chain) (sym same))
      (λ other. sym (put_other (chain_at s.chains) f c.own.chain n other)) (cases_eq n f))
      (λ n live. live_later (record { next = omega arith; dead = λ k alive. alive }) n live) h.books
  running_books c h (suc n) is =
      let u = running (suc n) s c in
      books_as {Still = IsLive u} (λ k. ⊎_elim
      (λ same. ap (λ j. chain_at u.chains j) (same ∙ sym is) ∙ chain_same s.chains (suc n) c.own.chain
      ∙ sym (put_same (chain_at s.chains) f c.own.chain)
      ∙ ap (put_chain (chain_at s.chains) f c.own.chain) (sym same))
      (λ other. chain_other s.chains (suc n) k c.own.chain (λ same. other (same ∙ is))
      ∙ sym (put_other (chain_at s.chains) f c.own.chain k other)) (cases_eq k f))
      (λ k live. live_later (record { next = omega arith; dead = λ j alive. alive }) k live) h.books

  pub running_fits : (n : ℕ) → RunningFits x (running f s (after_steps n x (begins x start s.store)))
  running_fits n =
      let c = after_steps n x (begins x start s.store) in
      let b = running_books c (steps_so n).holds f refl in
      record { chains = chains_of x (running f s c) b; marks = marks_of x (running f s c) b }

  module _ (end : Config) (e : IsEnd end) where
    -- the job counts as ended
    abbrev counted_ended : State
    counted_ended = record s { store = end.world.store; ended = s.ended + 1 }

    ended_later : IsLater s counted_ended
    ended_later = record { next = omega arith; dead = λ n alive. alive }

    ended_orderly : Orderly x counted_ended (length end.own.sends)
    ended_orderly = let o = orderly_of x s v in record {
      waiting = waiting_of x counted_ended (lists_later x s counted_ended s.waiting ended_later (lists_of x s v.waiting));
      some = o.some;
      dead = o.dead;
      few = (let few = o.few in let sent = e.range.few in omega arith);
      arrived = o.arrived;
      lines = o.lines;
      events = o.events;
    }

    delivered_so : Orderly x (all_delivered f end.own.sends counted_ended) 0 × IsDelivered counted_ended (all_delivered f end.own.sends counted_ended)
    delivered_so = sends_orderly x f end.own.sends counted_ended ended_orderly e.range.sends (may_later ended_later f fits.forlopp)

    -- its chain is its forlopp's
    record IsKept (u : State) : Type 0 where
      later : IsLater s u
      store : StoreFits x u.store
      books : Books x (IsLive u) (chain_at u.chains) u.store
      orderly : Orderly x u 0

    kept_so : (n : ℕ) → n ≡ f → IsKept (keeps_chain n end.own.chain (all_delivered f end.own.sends counted_ended))
    kept_so zero is =
        let t = all_delivered f end.own.sends counted_ended in
        let d = delivered_so.1 in
        let none : f ≡ 0 = sym is in
        let chains : (n : ℕ) → chain_at t.chains n ≡ put_chain (chain_at s.chains) f end.own.chain n = λ n.
        ap (λ m. chain_at m n) d.chains
        ∙ ⊎_elim (λ same. ap (chain_at s.chains) (same ∙ none) ∙ none_at_0 ∙ sym (e.holds.bare none)
        ∙ sym (put_same (chain_at s.chains) f end.own.chain)
        ∙ ap (put_chain (chain_at s.chains) f end.own.chain) (sym same))
        (λ other. sym (put_other (chain_at s.chains) f end.own.chain n other)) (cases_eq n f) in
        record {
          later = record { next = d.later.next; dead = d.later.dead };
          store = subst (StoreFits x) (sym d.store) e.range.store;
          books = subst (Books x (IsLive t) (chain_at t.chains)) (sym d.store)
              (books_as {Still = IsLive t} chains
              (λ n h. live_later (record { next = d.later.next; dead = d.later.dead }) n h) e.holds.books);
          orderly = delivered_so.0;
        }
    kept_so (suc n) is =
        let t = all_delivered f end.own.sends counted_ended in
        let d = delivered_so.1 in
        let u : State = record t { chains = with_chain t.chains (suc n) end.own.chain } in
        let o = delivered_so.0 in
        let later : IsLater s u = record { next = d.later.next; dead = d.later.dead } in
        let chains : (k : ℕ) → chain_at u.chains k ≡ put_chain (chain_at s.chains) f end.own.chain k = λ k. ⊎_elim
        (λ same. ap (λ j. chain_at u.chains j) (same ∙ sym is) ∙ chain_same t.chains (suc n) end.own.chain
        ∙ sym (put_same (chain_at s.chains) f end.own.chain)
        ∙ ap (put_chain (chain_at s.chains) f end.own.chain) (sym same))
        (λ other. chain_other t.chains (suc n) k end.own.chain (λ same. other (same ∙ is))
        ∙ ap (λ m. chain_at m k) d.chains ∙ sym (put_other (chain_at s.chains) f end.own.chain k other))
        (cases_eq k f) in
        record {
          later = later;
          store = subst (StoreFits x) (sym d.store) e.range.store;
          books = subst (Books x (IsLive u) (chain_at u.chains)) (sym d.store) (books_as {Still = IsLive u} chains (λ k h. live_later later k h) e.holds.books);
          orderly = record {
            waiting = waiting_of x u (lists_later x t u t.waiting (record { next = omega arith; dead = λ k alive. alive }) (lists_of x t o.waiting));
            some = o.some;
            dead = o.dead;
            few = o.few;
            arrived = o.arrived;
            lines = o.lines;
            events = o.events;
          };
        }

    outcome_valid : (o : Outcome) (n : ℕ) (u : State) → n ≡ f → OverFits x (Some o) → IsKept u → IsValid x (with_outcome x n o u)
    outcome_valid Ended n u is over k = valid_of x u 0 k.store k.books k.orderly
    outcome_valid (Faulted g point) zero u is over k = anew_valid x kept u k.orderly k.store k.books g point over
    outcome_valid (Faulted g point) (suc n) u is over k =
        let live : IsLive s (suc n) = live_of s (suc n) (λ none. absurd (omega arith)) (subst (MayBe s) (sym is) fits.forlopp) in
        releases_valid x kept u k.orderly k.store k.books g point over (suc n) (live_later k.later (suc n) live)

    over_fits : (over : Option Outcome) → OverFits x over → OverFits x (Some (outcome_of over))
    over_fits None h = tt
    over_fits (Some Ended) h = tt
    over_fits (Some (Faulted g point)) h = h

    end_valid : IsValid x (ended_as x start end s)
    end_valid = outcome_valid (outcome_of end.over) f
        (keeps_chain f end.own.chain (all_delivered f end.own.sends counted_ended)) refl
        (over_fits end.over e.range.over) (kept_so f refl)

  -- the state after the job
  pub retires_valid : IsValid x (ended_as x start (job x start s.store) s)
  retires_valid = end_valid (job x start s.store) job_ends_so

-- the next job

rest_waits : (x : Exchange) (s t : State) (a b c d : List Job) → IsLater s t → AllByRecursion (WaitsAt x s A) a
    → AllByRecursion (WaitsAt x s B) b → AllByRecursion (WaitsAt x s C) c → AllByRecursion (WaitsAt x s D) d
    → Lists x t (rest_of a b c d)
rest_waits x s t (j ∷ a) b c d later fa fb fc fd = lists_later x s t (record { a = a; b = b; c = c; d = d }) later (record { a = fa.1; b = fb; c = fc; d = fd })
rest_waits x s t [] (j ∷ b) c d later fa fb fc fd = lists_later x s t (record { a = []; b = b; c = c; d = d }) later
    (record { a = tt; b = fb.1; c = fc; d = fd })
rest_waits x s t [] [] (j ∷ c) d later fa fb fc fd = lists_later x s t (record { a = []; b = []; c = c; d = d }) later
    (record { a = tt; b = tt; c = fc.1; d = fd })
rest_waits x s t [] [] [] (j ∷ d) later fa fb fc fd = lists_later x s t (record { a = []; b = []; c = []; d = d }) later
    (record { a = tt; b = tt; c = tt; d = fd.1 })
rest_waits x s t [] [] [] [] later fa fb fc fd = record { a = tt; b = tt; c = tt; d = tt }

-- a job that may begin
record MayBegin (x : Exchange) (s : State) (j : Job) : Type 0 where
  job : IsJob x j
  forlopp : MayBe s j.forlopp

picked_waits : (x : Exchange) (s : State) (a b c d : List Job) (j : Job) → first_of a b c d ≡ Some j
    → AllByRecursion (WaitsAt x s A) a → AllByRecursion (WaitsAt x s B) b → AllByRecursion (WaitsAt x s C) c
    → AllByRecursion (WaitsAt x s D) d → MayBegin x s j
picked_waits x s (k ∷ a) b c d j is fa fb fc fd = subst (MayBegin x s) (same_Some k j is) (record { job = fa.0.job; forlopp = fa.0.forlopp })
picked_waits x s [] (k ∷ b) c d j is fa fb fc fd = subst (MayBegin x s) (same_Some k j is) (record { job = fb.0.job; forlopp = fb.0.forlopp })
picked_waits x s [] [] (k ∷ c) d j is fa fb fc fd = subst (MayBegin x s) (same_Some k j is) (record { job = fc.0.job; forlopp = fc.0.forlopp })
picked_waits x s [] [] [] (k ∷ d) j is fa fb fc fd = subst (MayBegin x s) (same_Some k j is) (record { job = fd.0.job; forlopp = fd.0.forlopp })
picked_waits x s [] [] [] [] j is fa fb fc fd = cc

pub begun_later : (s : State) → IsLater s (begun s)
begun_later s = record { next = omega arith; dead = λ n alive. alive }

pub begun_valid : (x : Exchange) (s : State) → IsValid x s → IsValid x (begun s)
begun_valid x s v =
    let o = orderly_of x s v in
    valid_of x (begun s) 0 v.store (books_as {Still = IsLive (begun s)} (λ n. refl) (λ n h. live_later (begun_later s) n h) (books_of x s v)) (record {
      waiting = waiting_of x (begun s) (rest_waits x s (begun s) s.waiting.a s.waiting.b s.waiting.c s.waiting.d
          (begun_later s) v.waiting.a v.waiting.b v.waiting.c v.waiting.d);
      some = o.some;
      dead = o.dead;
      few = o.few;
      arrived = o.arrived;
      lines = o.lines;
      events = o.events;
    })

-- the start of the next job fits
pub start_fits : (x : Exchange) (s : State) (start : JobStart) → IsValid x s → next_start s ≡ Some start → IsFitting x s start
start_fits x s start v is = by (has_stopped s) is
  where
    of_pick : (found : Option Job) → pick s.waiting ≡ found → option_map (λ j. start_of j s) found ≡ Some start → IsFitting x s start
    of_pick None at same = cc
    of_pick (Some j) at same =
        let may = picked_waits x s s.waiting.a s.waiting.b s.waiting.c s.waiting.d j at v.waiting.a v.waiting.b v.waiting.c v.waiting.d in
        subst (IsFitting x s) (same_Some (start_of j s) start same) (record { job = may.job; forlopp = may.forlopp; chain = refl })

    by : (stopped : Bool) → (if stopped then None else option_map (λ j. start_of j s) (pick s.waiting)) ≡ Some start → IsFitting x s start
    by true same = cc
    by false same = of_pick (pick s.waiting) refl same

pub fits_begun : (x : Exchange) (s : State) (start : JobStart) → IsFitting x s start → IsFitting x (begun s) start
fits_begun x s start h = record { job = h.job; forlopp = may_later (begun_later s) start.job.forlopp h.forlopp; chain = h.chain ∙ same start.job.forlopp }
  where
    same : (n : ℕ) → chain_in s n ≡ chain_in (begun s) n
    same zero = refl
    same (suc n) = refl

pub turn_valid : (x : Exchange) → IsExchange x → (s : State) → IsValid x s → IsValid x (turn x s)
turn_valid x kept s v = by (next_start s) refl
  where
    by : (found : Option JobStart) → next_start s ≡ found
        → IsValid x (option_map_or (λ start. arrivals x (ended_as x start (job x start s.store) (begun s))) found s)
    by None is = v
    by (Some start) is = arrivals_valid x (ended_as x start (job x start s.store) (begun s))
        (retires_valid x kept (begun s) (begun_valid x s v) start (fits_begun x s start (start_fits x s start v is)))

pub after_valid : (x : Exchange) → IsExchange x → (s : State) (n : ℕ) → IsValid x s → IsValid x (after x s n)
unfolding after
after_valid x kept s zero v = arrivals_valid x s v
after_valid x kept s (suc n) v = turn_valid x kept (after x s n) (after_valid x kept s n v)
