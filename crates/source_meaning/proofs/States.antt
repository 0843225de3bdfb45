-- A valid state in two parts: its chains, marks and store, and all else, which they do not touch.
use Rattle.std.proofs.Common.{◌≡◌, ℕ, zero, suc, ◌+◌, ◌*◌, ◌<◌, ◌≤◌, true, false, List, [], ◌∷◌}
use Rattle.std.proofs.Common.{◌++◌, map, length, refl, sym, ap, subst, arith}
use mathlib.Core.Path.{fun_ext}
use Rattle.std.specs.Prelude.{◌≢◌}
use Rattle.std.specs.List.{AllByRecursion}
use Rattle.plex_limits.specs.declared.limits.TheConstants.{MOST_SENT}
use Rattle.plex_num.specs.declared.level.Level.{Level}
use Rattle.plex_num.specs.declared.level.Level.TheVariants.{A, B, C, D}
use Rattle.job_types.specs.declared.chain.Held.{Held}
use Rattle.job_types.specs.declared.job.Job.{Job}
use Rattle.job_types.specs.Forlopps.{chain_at, is_dead}
use Rattle.job_types.specs.Waiting.{Waiting, joins, last_at}
use Rattle.exchange_model.specs.declared.exchange.Exchange.{Exchange}
use Rattle.source_meaning.specs.State.{State, Arrived}
use Rattle.source_meaning.specs.Valid.{HasRecords, IsLive, MayBe, ChainsFit, MarksFit, StoreFits}
use Rattle.source_meaning.specs.Valid.{IsJob, WaitsAt, WaitingFits, IsPastNumber, LinesFit}
use Rattle.source_meaning.specs.Valid.{EventFits, IsValid}
use Rattle.source_meaning.proofs.Books.{Books}
use Rattle.plex_num.proofs.Lists.{all_append, all_weaker}

-- chains and marks

pub books_of : (x : Exchange) (s : State) → IsValid x s → Books x (IsLive s) (chain_at s.chains) s.store
books_of x s v = record {
  few = v.chains.few;
  records = v.chains.records;
  once = v.chains.once;
  apart = λ n m file number a b. v.chains.apart n m (record { file = file; number = number }) a b;
  living = v.chains.live;
  held = λ n file number p there h. v.marks.held n (record { file = file; number = number }) p there h;
  free = v.marks.free;
}

pub chains_of : (x : Exchange) (s : State) → Books x (IsLive s) (chain_at s.chains) s.store → ChainsFit x s
chains_of x s b = record { few = b.few; records = b.records; once = b.once; apart = λ n m h one other. b.apart n m h.file h.number one other; live = b.living }

pub marks_of : (x : Exchange) (s : State) → Books x (IsLive s) (chain_at s.chains) s.store → MarksFit x s
marks_of x s b = record { held = λ n h p there one. b.held n h.file h.number p there one; free = b.free }

-- the same books of the same chains, for numbers that live still where they hold records
pub books_still : {x : Exchange} {Live Still : ℕ → Type 0} {ch now : ℕ → List Held} {store : List ℕ}
    → ((n : ℕ) → now n ≡ ch n) → ((n : ℕ) → HasRecords (ch n) → Live n → Still n) → Books x Live ch store
    → Books x Still now store
books_still {x} {Live} {Still} {ch} {now} {store} same still b = subst (λ c. Books x Still c store) (fun_ext (λ n. sym (same n))) (record {
  few = b.few;
  records = b.records;
  once = b.once;
  apart = b.apart;
  living = λ n some. still n some (b.living n some);
  held = b.held;
  free = b.free;
})

pub books_as : {x : Exchange} {Live Still : ℕ → Type 0} {ch now : ℕ → List Held} {store : List ℕ}
    → ((n : ℕ) → now n ≡ ch n) → ((n : ℕ) → Live n → Still n) → Books x Live ch store → Books x Still now store
books_as same still b = books_still same (λ n some live. still n live) b

-- a later state: as many numbers are drawn, and no more are dead

pub record IsLater (s t : State) : Type 0 where
  pub next : s.next ≤ t.next
  pub dead : (n : ℕ) → is_dead s.dead n ≡ false → is_dead t.dead n ≡ false

pub live_later : {s t : State} → IsLater s t → (n : ℕ) → IsLive s n → IsLive t n
live_later later n h = record { drawn = h.drawn; before = (let a = h.before in let b = later.next in omega arith); alive = later.dead n h.alive }

pub may_later : {s t : State} → IsLater s t → (n : ℕ) → MayBe s n → MayBe t n
may_later later zero h = tt
may_later later (suc n) h = live_later later (suc n) h

-- all else of a state, where so many numbers may be drawn yet

pub record Orderly (x : Exchange) (s : State) (room : ℕ) : Type 0 where
  pub waiting : WaitingFits x s
  pub some : 1 ≤ s.next
  pub dead : (n : ℕ) → is_dead s.dead n ≡ true → IsPastNumber s n
  pub few : s.next + room ≤ 1 + length s.arrived + MOST_SENT * s.ended
  pub arrived : AllByRecursion (λ (a : Arrived). a.forlopp < s.next) s.arrived
  pub lines : LinesFit x [] (map (λ (a : Arrived). a.line) s.arrived ++ s.lines)
  pub events : AllByRecursion (EventFits x) s.events

pub orderly_of : (x : Exchange) (s : State) → IsValid x s → Orderly x s 0
orderly_of x s v = record {
  waiting = v.waiting;
  some = v.numbers.some;
  dead = v.numbers.dead;
  few = (let few = v.numbers.few in omega arith);
  arrived = v.numbers.arrived;
  lines = v.lines;
  events = v.events;
}

pub valid_of : (x : Exchange) (s : State) (room : ℕ) → StoreFits x s.store → Books x (IsLive s) (chain_at s.chains) s.store → Orderly x s room → IsValid x s
valid_of x s room store books o = record {
  store = store;
  chains = chains_of x s books;
  marks = marks_of x s books;
  waiting = o.waiting;
  numbers = record { some = o.some; dead = o.dead; few = (let few = o.few in omega arith); arrived = o.arrived };
  lines = o.lines;
  events = o.events;
}

-- jobs that wait

waits_later : (x : Exchange) (s t : State) (level : Level) (j : Job) → IsLater s t → WaitsAt x s level j → WaitsAt x t level j
waits_later x s t level j later h = record { job = h.job; here = h.here; forlopp = may_later later j.forlopp h.forlopp }

-- the same jobs wait in a later state
pub waiting_later : (x : Exchange) (s t : State) → IsLater s t → t.waiting ≡ s.waiting → WaitingFits x s → WaitingFits x t
waiting_later x s t later same h = record {
  a = subst (AllByRecursion (WaitsAt x t A)) (sym (ap (λ (w : Waiting). w.a) same))
      (all_weaker (WaitsAt x s A) (WaitsAt x t A) s.waiting.a (λ j. waits_later x s t A j later) h.a);
  b = subst (AllByRecursion (WaitsAt x t B)) (sym (ap (λ (w : Waiting). w.b) same))
      (all_weaker (WaitsAt x s B) (WaitsAt x t B) s.waiting.b (λ j. waits_later x s t B j later) h.b);
  c = subst (AllByRecursion (WaitsAt x t C)) (sym (ap (λ (w : Waiting). w.c) same))
      (all_weaker (WaitsAt x s C) (WaitsAt x t C) s.waiting.c (λ j. waits_later x s t C j later) h.c);
  d = subst (AllByRecursion (WaitsAt x t D)) (sym (ap (λ (w : Waiting). w.d) same))
      (all_weaker (WaitsAt x s D) (WaitsAt x t D) s.waiting.d (λ j. waits_later x s t D j later) h.d);
}

-- four lists of jobs, as a state has them
pub record Lists (x : Exchange) (s : State) (w : Waiting) : Type 0 where
  pub a : AllByRecursion (WaitsAt x s A) w.a
  pub b : AllByRecursion (WaitsAt x s B) w.b
  pub c : AllByRecursion (WaitsAt x s C) w.c
  pub d : AllByRecursion (WaitsAt x s D) w.d

pub lists_of : (x : Exchange) (s : State) → WaitingFits x s → Lists x s s.waiting
lists_of x s h = record { a = h.a; b = h.b; c = h.c; d = h.d }

pub waiting_of : (x : Exchange) (s : State) → Lists x s s.waiting → WaitingFits x s
waiting_of x s h = record { a = h.a; b = h.b; c = h.c; d = h.d }

pub lists_later : (x : Exchange) (s t : State) (w : Waiting) → IsLater s t → Lists x s w → Lists x t w
lists_later x s t w later h = record {
  a = all_weaker (WaitsAt x s A) (WaitsAt x t A) w.a (λ j. waits_later x s t A j later) h.a;
  b = all_weaker (WaitsAt x s B) (WaitsAt x t B) w.b (λ j. waits_later x s t B j later) h.b;
  c = all_weaker (WaitsAt x s C) (WaitsAt x t C) w.c (λ j. waits_later x s t C j later) h.c;
  d = all_weaker (WaitsAt x s D) (WaitsAt x t D) w.d (λ j. waits_later x s t D j later) h.d;
}

-- a job joins the list of its level
pub lists_join : (x : Exchange) (s : State) (j : Job) (w : Waiting) → IsJob x j → MayBe s j.forlopp → Lists x s w → Lists x s (joins j w)
lists_join x s j w is may h = by j.level refl
  where
    one : (level : Level) → j.level ≡ level → AllByRecursion (WaitsAt x s level) (j ∷ [])
    one level at = (record { job = is; here = at; forlopp = may }, tt)

    by : (level : Level) → j.level ≡ level → Lists x s (last_at level j w)
    by A at = record { a = all_append (WaitsAt x s A) w.a (j ∷ []) h.a (one A at); b = h.b; c = h.c; d = h.d }
    by B at = record { a = h.a; b = all_append (WaitsAt x s B) w.b (j ∷ []) h.b (one B at); c = h.c; d = h.d }
    by C at = record { a = h.a; b = h.b; c = all_append (WaitsAt x s C) w.c (j ∷ []) h.c (one C at); d = h.d }
    by D at = record { a = h.a; b = h.b; c = h.c; d = all_append (WaitsAt x s D) w.d (j ∷ []) h.d (one D at) }

-- a number that lives is one that a job may have, and none but 0 is not
pub may_of : (s : State) (n : ℕ) → IsLive s n → MayBe s n
may_of s zero h = tt
may_of s (suc n) h = h

pub live_of : (s : State) (n : ℕ) → n ≢ 0 → MayBe s n → IsLive s n
live_of s zero some h = absurd (some refl)
live_of s (suc n) some h = h
