-- What holds of the buffers between two calls, after each of them.
use Rattle.std.proofs.Common.{◌≡◌, ℕ, ◌+◌, ◌-◌, ◌<◌, ◌≤◌, ◌^◌, Bool, true, false, cond, eqb, List}
use Rattle.std.proofs.Common.{[], ◌∷◌, Option, None, Some, refl, sym, ap, subst, ◌∙◌, arith}
use Rattle.std.specs.Option.{option_map}
use Rattle.std.specs.Prelude.{MatchResult, Result, Ok, Err}
use Rattle.std.proofs.lemmas.Bool.{eqb-true, eq-eqb}
use Rattle.std.proofs.lemmas.List.{length-append}
use Rattle.std.proofs.lemmas.Option.{none-some, same_Some}
use Rattle.plex_num.specs.declared.level.Level.{Level}
use Rattle.plex_num.specs.declared.level.Level.TheVariants.{A, B, C, D}
use Rattle.job_types.specs.declared.job.Job.{Job}
use Rattle.job_types.specs.Waiting.{Waiting, after_pick, count_of, first_of, is_of, last_at, others}
use Rattle.job_types.specs.Waiting.{pick, rest_of, waiting_count}
use Rattle.job_buffers.specs.declared.stays.Stay.{Stay}
use Rattle.job_buffers.specs.declared.queue.Placed.{Placed}
use Rattle.job_buffers.specs.Room.{Room, room_at, rooms, with_room, without_one}
use Rattle.job_buffers.specs.Standing.{AllFit, AreBefore, AreTidied, FrontCounts, IsBefore, IsSound}
use Rattle.job_buffers.specs.Standing.{Lists, behind, counting, first_placed, front_of, jobs_of}
use Rattle.job_buffers.specs.Standing.{left, none_placed, placed_at, updated, waiting_of}
use Rattle.job_buffers.specs.Standing.{without_first}
use Rattle.job_buffers.proofs.Counting.{after_join, begun_ended, begun_joined, begun_left}
use Rattle.job_buffers.proofs.Counting.{count_cons, count_gone, count_last_one, count_other}
use Rattle.job_buffers.proofs.Counting.{counting_beside, counting_ended, counting_first}
use Rattle.job_buffers.proofs.Counting.{counting_joined, counting_left, fits_beside, fits_joined}
use Rattle.job_buffers.proofs.Counting.{jobs_joined, jobs_left, length_others, newcomer}

-- ---- room

pub rooms_without : (l : Level) (r : Room) → 0 < room_at l r → rooms (without_one l r) + 1 ≡ rooms r
rooms_without A r some = omega arith
rooms_without B r some = omega arith
rooms_without C r some = omega arith
rooms_without D r some = omega arith

pub rooms_with : (l : Level) (n : ℕ) (r : Room) → rooms (with_room l n r) + room_at l r ≡ rooms r + n
rooms_with A n r = omega arith
rooms_with B n r = omega arith
rooms_with C n r = omega arith
rooms_with D n r = omega arith

pub some_in_all : (l : Level) (r : Room) → room_at l r ≤ rooms r
some_in_all A r = omega arith
some_in_all B r = omega arith
some_in_all C r = omega arith
some_in_all D r = omega arith

-- ---- a job joins

count_last : (l : Level) (g : ℕ) (j : Job) (w : Waiting) → count_of g (last_at l j w) ≡ count_of g w + cond (is_of g j) 1 0
count_last A g j w = let one = count_last_one g w.a j in omega arith
count_last B g j w = let one = count_last_one g w.b j in omega arith
count_last C g j w = let one = count_last_one g w.c j in omega arith
count_last D g j w = let one = count_last_one g w.d j in omega arith

all_last : (l : Level) (j : Job) (w : Waiting) → waiting_count (last_at l j w) ≡ waiting_count w + 1
all_last A j w = let one = length-append w.a (j ∷ []) in omega arith
all_last B j w = let one = length-append w.b (j ∷ []) in omega arith
all_last C j w = let one = length-append w.c (j ∷ []) in omega arith
all_last D j w = let one = length-append w.d (j ∷ []) in omega arith

pub waiting_joined : (l : Level) (stays : ℕ → Option Stay) (n : ℕ) (j : Job) (q : Lists) → AllFit stays n q
    → waiting_of (after_join stays j.forlopp n) (placed_at l (newcomer stays n j) q) ≡ last_at l j (waiting_of stays q)
waiting_joined A stays n j q fit = λ i. record {
  a = counting_joined stays n j q.a fit.a.before i;
  b = counting_beside stays j.forlopp n q.b fit.b.before i;
  c = counting_beside stays j.forlopp n q.c fit.c.before i;
  d = counting_beside stays j.forlopp n q.d fit.d.before i;
}
waiting_joined B stays n j q fit = λ i. record {
  a = counting_beside stays j.forlopp n q.a fit.a.before i;
  b = counting_joined stays n j q.b fit.b.before i;
  c = counting_beside stays j.forlopp n q.c fit.c.before i;
  d = counting_beside stays j.forlopp n q.d fit.d.before i;
}
waiting_joined C stays n j q fit = λ i. record {
  a = counting_beside stays j.forlopp n q.a fit.a.before i;
  b = counting_beside stays j.forlopp n q.b fit.b.before i;
  c = counting_joined stays n j q.c fit.c.before i;
  d = counting_beside stays j.forlopp n q.d fit.d.before i;
}
waiting_joined D stays n j q fit = λ i. record {
  a = counting_beside stays j.forlopp n q.a fit.a.before i;
  b = counting_beside stays j.forlopp n q.b fit.b.before i;
  c = counting_beside stays j.forlopp n q.c fit.c.before i;
  d = counting_joined stays n j q.d fit.d.before i;
}

fit_joined : (l : Level) (stays : ℕ → Option Stay) (n : ℕ) (j : Job) (q : Lists) → IsBefore n (stays j.forlopp) → AllFit stays n q
    → AllFit (after_join stays j.forlopp n) (n + 1) (placed_at l (newcomer stays n j) q)
fit_joined A stays n j q begun fit = record {
  a = fits_joined stays n j q.a begun fit.a;
  b = fits_beside stays j.forlopp n q.b fit.b;
  c = fits_beside stays j.forlopp n q.c fit.c;
  d = fits_beside stays j.forlopp n q.d fit.d;
}
fit_joined B stays n j q begun fit = record {
  a = fits_beside stays j.forlopp n q.a fit.a;
  b = fits_joined stays n j q.b begun fit.b;
  c = fits_beside stays j.forlopp n q.c fit.c;
  d = fits_beside stays j.forlopp n q.d fit.d;
}
fit_joined C stays n j q begun fit = record {
  a = fits_beside stays j.forlopp n q.a fit.a;
  b = fits_beside stays j.forlopp n q.b fit.b;
  c = fits_joined stays n j q.c begun fit.c;
  d = fits_beside stays j.forlopp n q.d fit.d;
}
fit_joined D stays n j q begun fit = record {
  a = fits_beside stays j.forlopp n q.a fit.a;
  b = fits_beside stays j.forlopp n q.b fit.b;
  c = fits_beside stays j.forlopp n q.c fit.c;
  d = fits_joined stays n j q.d begun fit.d;
}

pub sound_joined : (stays : ℕ → Option Stay) (places places_after n pushed : ℕ) (q : Lists) (room : Room) (j : Job) → IsSound stays places pushed n q room
    → 0 < room_at j.level room → places ≤ places_after + 1
    → IsSound (after_join stays j.forlopp pushed) places_after (pushed + 1) (n + 1) (placed_at j.level (newcomer stays pushed j) q) (without_one j.level room)
sound_joined stays places places_after n pushed q room j sound some kept =
    let waits = waiting_joined j.level stays pushed j q sound.fit in
    let less = rooms_without j.level room some in
    let placing = sound.placing in
    let numbered = sound.numbered in
    let fewer = sound.fewer in
    let all = sound.all in
    let all_more = all_last j.level j (waiting_of stays q) in
    let more : n + 1 ≡ waiting_count (last_at j.level j (waiting_of stays q)) = omega arith in
    record {
      jobs = λ g. jobs_joined stays pushed j g ∙ ap (λ k. k + cond (is_of g j) 1 0) (sound.jobs g)
          ∙ sym (ap (count_of g) waits ∙ count_last j.level g j (waiting_of stays q));
      begun = begun_joined stays j.forlopp pushed sound.begun;
      all = more ∙ sym (ap waiting_count waits);
      fewer = omega arith;
      fit = fit_joined j.level stays pushed j q (sound.begun j.forlopp) sound.fit;
      placing = omega arith;
      numbered = omega arith;
    }

-- fewer jobs wait than were ever pushed
pub few_jobs : (stays : ℕ → Option Stay) (places n pushed : ℕ) (q : Lists) (room : Room) (f : ℕ) → IsSound stays places pushed n q room → jobs_of (stays f) ≤ n
few_jobs stays places n pushed q room f sound =
    let jobs = sound.jobs f in
    let all = sound.all in
    let a = length_others f (counting stays q.a) in
    let b = length_others f (counting stays q.b) in
    let c = length_others f (counting stays q.c) in
    let d = length_others f (counting stays q.d) in
    omega arith

-- ---- lists are tidied

waiting_tidied : (stays : ℕ → Option Stay) (old new : Lists) → AreTidied stays old new → waiting_of stays new ≡ waiting_of stays old
waiting_tidied stays old new tidied = λ i. record {
  a = tidied.a.jobs i;
  b = tidied.b.jobs i;
  c = tidied.c.jobs i;
  d = tidied.d.jobs i;
}

record AllBefore (n : ℕ) (q : Lists) : Type 0 where
  a : AreBefore n q.a
  b : AreBefore n q.b
  c : AreBefore n q.c
  d : AreBefore n q.d

fit_tidied : (stays : ℕ → Option Stay) (n : ℕ) (old new : Lists) → AllBefore n old → AreTidied stays old new → AllFit stays n new
fit_tidied stays n old new before tidied = record {
  a = record { before = tidied.a.before n before.a; front = tidied.a.front };
  b = record { before = tidied.b.before n before.b; front = tidied.b.front };
  c = record { before = tidied.c.before n before.c; front = tidied.c.front };
  d = record { before = tidied.d.before n before.d; front = tidied.d.front };
}

all_before : (stays : ℕ → Option Stay) (n : ℕ) (q : Lists) → AllFit stays n q → AllBefore n q
all_before stays n q fit = record { a = fit.a.before; b = fit.b.before; c = fit.c.before; d = fit.d.before }

-- ---- the jobs of a forlopp go

waiting_ended : (stays : ℕ → Option Stay) (f : ℕ) (q : Lists) → waiting_of (updated f None stays) q ≡ others f (waiting_of stays q)
waiting_ended stays f q = λ i. record {
  a = counting_ended stays f q.a i;
  b = counting_ended stays f q.b i;
  c = counting_ended stays f q.c i;
  d = counting_ended stays f q.d i;
}

count_others : (f g : ℕ) (w : Waiting) → count_of g (others f w) ≡ cond (eqb f g) 0 (count_of g w)
count_others f g w = at (eqb f g) refl
  where
    at : (b : Bool) → eqb f g ≡ b → count_of g (others f w) ≡ cond b 0 (count_of g w)
    at true e = subst (λ k. count_of k (others f w) ≡ 0) (eqb-true f g e) (none f w)
      where
        none : (f : ℕ) (w : Waiting) → count_of f (others f w) ≡ 0
        none f w =
            let a = count_gone f w.a in
            let b = count_gone f w.b in
            let c = count_gone f w.c in
            let d = count_gone f w.d in
            omega arith
    at false e =
        let a = count_other f g w.a e in
        let b = count_other f g w.b e in
        let c = count_other f g w.c e in
        let d = count_other f g w.d e in
        omega arith

all_others : (f : ℕ) (w : Waiting) → count_of f w + waiting_count (others f w) ≡ waiting_count w
all_others f w =
    let a = length_others f w.a in
    let b = length_others f w.b in
    let c = length_others f w.c in
    let d = length_others f w.d in
    omega arith

jobs_ended : (stays : ℕ → Option Stay) (f g : ℕ) → jobs_of (updated f None stays g) ≡ cond (eqb f g) 0 (jobs_of (stays g))
jobs_ended stays f g = at (eqb f g)
  where
    at : (b : Bool) → jobs_of (cond b None (stays g)) ≡ cond b 0 (jobs_of (stays g))
    at true = refl
    at false = refl

pub waiting_removed : (stays : ℕ → Option Stay) (f : ℕ) (q new : Lists) → AreTidied (updated f None stays) q new
    → waiting_of (updated f None stays) new ≡ others f (waiting_of stays q)
waiting_removed stays f q new tidied = waiting_tidied _ q new tidied ∙ waiting_ended stays f q

pub sound_removed : (stays : ℕ → Option Stay) (places places_after n pushed : ℕ) (q new : Lists) (room : Room) (f : ℕ) → IsSound stays places pushed n q room
    → places ≤ places_after → AreTidied (updated f None stays) q new
    → IsSound (updated f None stays) places_after pushed (n - jobs_of (stays f)) new room
sound_removed stays places places_after n pushed q new room f sound kept tidied =
    let waits = waiting_removed stays f q new tidied in
    let all = sound.all in
    let of_f = sound.jobs f in
    let parts = all_others f (waiting_of stays q) in
    let less : n - jobs_of (stays f) ≡ waiting_count (others f (waiting_of stays q)) = omega arith in
    let placing = sound.placing in
    let fewer = sound.fewer in
    record {
      jobs = λ g. jobs_ended stays f g ∙ ap (cond (eqb f g) 0) (sound.jobs g) ∙ sym (ap (count_of g) waits ∙ count_others f g (waiting_of stays q));
      begun = begun_ended stays f pushed sound.begun;
      all = less ∙ sym (ap waiting_count waits);
      fewer = omega arith;
      fit = fit_tidied _ pushed q new (all_before stays pushed q sound.fit) tidied;
      placing = omega arith;
      numbered = sound.numbered;
    }

-- ---- the pick is taken

pick_lists : (stays : ℕ → Option Stay) (a b c d : List Placed) → FrontCounts stays a → FrontCounts stays b → FrontCounts stays c → FrontCounts stays d
    → first_of (counting stays a) (counting stays b) (counting stays c) (counting stays d) ≡ option_map (λ (p : Placed). p.job) (front_of a b c d)
pick_lists stays (p ∷ a) b c d fa fb fc fd = λ i. first_of (counting_first stays p a fa i) (counting stays b) (counting stays c) (counting stays d)
pick_lists stays [] (p ∷ b) c d fa fb fc fd = λ i. first_of [] (counting_first stays p b fb i) (counting stays c) (counting stays d)
pick_lists stays [] [] (p ∷ c) d fa fb fc fd = λ i. first_of [] [] (counting_first stays p c fc i) (counting stays d)
pick_lists stays [] [] [] (p ∷ d) fa fb fc fd = λ i. first_of [] [] [] (counting_first stays p d fd i)
pick_lists stays [] [] [] [] fa fb fc fd = refl

-- the pick is the job that was placed first
pub pick_placed : (stays : ℕ → Option Stay) (n : ℕ) (q : Lists) → AllFit stays n q
    → pick (waiting_of stays q) ≡ option_map (λ (p : Placed). p.job) (first_placed q)
pick_placed stays n q fit = pick_lists stays q.a q.b q.c q.d fit.a.front fit.b.front fit.c.front fit.d.front

rest_lists : (stays : ℕ → Option Stay) (a b c d : List Placed) → FrontCounts stays a → FrontCounts stays b → FrontCounts stays c → FrontCounts stays d
    → waiting_of stays (behind a b c d) ≡ rest_of (counting stays a) (counting stays b) (counting stays c) (counting stays d)
rest_lists stays (p ∷ a) b c d fa fb fc fd = sym (λ i. rest_of (counting_first stays p a fa i) (counting stays b) (counting stays c) (counting stays d))
rest_lists stays [] (p ∷ b) c d fa fb fc fd = sym (λ i. rest_of [] (counting_first stays p b fb i) (counting stays c) (counting stays d))
rest_lists stays [] [] (p ∷ c) d fa fb fc fd = sym (λ i. rest_of [] [] (counting_first stays p c fc i) (counting stays d))
rest_lists stays [] [] [] (p ∷ d) fa fb fc fd = sym (λ i. rest_of [] [] [] (counting_first stays p d fd i))
rest_lists stays [] [] [] [] fa fb fc fd = refl

rest_before : (n : ℕ) (a b c d : List Placed) → AreBefore n a → AreBefore n b → AreBefore n c → AreBefore n d → AllBefore n (behind a b c d)
rest_before n (p ∷ a) b c d fa fb fc fd = record { a = fa.1; b = fb; c = fc; d = fd }
rest_before n [] (p ∷ b) c d fa fb fc fd = record { a = tt; b = fb.1; c = fc; d = fd }
rest_before n [] [] (p ∷ c) d fa fb fc fd = record { a = tt; b = tt; c = fc.1; d = fd }
rest_before n [] [] [] (p ∷ d) fa fb fc fd = record { a = tt; b = tt; c = tt; d = fd.1 }
rest_before n [] [] [] [] fa fb fc fd = record { a = tt; b = tt; c = tt; d = tt }

same_count : (g : ℕ) (x j : Job) → Some x ≡ Some j → ◌≡◌ {A = ℕ} (cond (is_of g x) 1 0) (cond (is_of g j) 1 0)
same_count g x j is = ap (λ (y : Job). cond {A = ℕ} (is_of g y) 1 0) (same_Some x j is)

count_lists : (a b c d : List Job) (j : Job) → first_of a b c d ≡ Some j → (g : ℕ)
    → count_of g (record { a = a; b = b; c = c; d = d }) ≡ cond (is_of g j) 1 0 + count_of g (rest_of a b c d)
count_lists (x ∷ a) b c d j is g = let one = count_cons g x a in let same = same_count g x j is in omega arith
count_lists [] (x ∷ b) c d j is g = let one = count_cons g x b in let same = same_count g x j is in omega arith
count_lists [] [] (x ∷ c) d j is g = let one = count_cons g x c in let same = same_count g x j is in omega arith
count_lists [] [] [] (x ∷ d) j is g = let one = count_cons g x d in let same = same_count g x j is in omega arith
count_lists [] [] [] [] j is g = absurd (none-some j is)

all_lists : (a b c d : List Job) (j : Job) → first_of a b c d ≡ Some j
    → waiting_count (record { a = a; b = b; c = c; d = d }) ≡ 1 + waiting_count (rest_of a b c d)
all_lists (x ∷ a) b c d j is = omega arith
all_lists [] (x ∷ b) c d j is = omega arith
all_lists [] [] (x ∷ c) d j is = omega arith
all_lists [] [] [] (x ∷ d) j is = omega arith
all_lists [] [] [] [] j is = absurd (none-some j is)

-- what the buffers are once the stay of the job that was taken was told
record Taken (stays after : ℕ → Option Stay) (n pushed : ℕ) (q : Lists) : Type 0 where
  waits : waiting_of after (without_first q) ≡ after_pick (waiting_of stays q)
  some : n ≡ 1 + waiting_count (after_pick (waiting_of stays q))
  jobs : (g : ℕ) → jobs_of (after g) ≡ count_of g (after_pick (waiting_of stays q))
  before : AllBefore pushed (without_first q)

taken : (stays : ℕ → Option Stay) (places n pushed : ℕ) (q : Lists) (room : Room) (p : Placed) → IsSound stays places pushed n q room → first_placed q ≡ Some p
    → Taken stays (updated p.job.forlopp (left (stays p.job.forlopp)) stays) n pushed q
taken stays places n pushed q room p sound is =
    let f : ℕ = p.job.forlopp in
    let w : Waiting = waiting_of stays q in
    let fit = sound.fit in
    let picked : pick w ≡ Some p.job = pick_placed stays pushed q fit ∙ ap (option_map (λ (p : Placed). p.job)) is in
    let rest : waiting_of stays (without_first q) ≡ after_pick w = rest_lists stays q.a q.b q.c q.d fit.a.front fit.b.front fit.c.front fit.d.front in
    let counted : (g : ℕ) → count_of g w ≡ cond (is_of g p.job) 1 0 + count_of g (after_pick w) = count_lists w.a w.b w.c w.d p.job picked in
    let k : ℕ = count_of f (waiting_of stays (without_first q)) in
    let own : is_of f p.job ≡ true = eq-eqb f f refl in
    let some : jobs_of (stays f) ≡ 1 + k =
    sound.jobs f ∙ counted f ∙ ap (λ (b : Bool). cond {A = ℕ} b 1 0 + count_of f (after_pick w)) own ∙ ap (λ (v : Waiting). 1 + count_of f v) (sym rest) in
    record {
      waits = (λ i. record {
        a = counting_left stays f k (without_first q).a some (λ none. omega arith) i;
        b = counting_left stays f k (without_first q).b some (λ none. omega arith) i;
        c = counting_left stays f k (without_first q).c some (λ none. omega arith) i;
        d = counting_left stays f k (without_first q).d some (λ none. omega arith) i;
      }) ∙ rest;
      some = sound.all ∙ all_lists w.a w.b w.c w.d p.job picked;
      jobs = λ g. jobs_left stays f g ∙ one_less (jobs_of (stays g)) (cond (eqb f g) 1 0) (count_of g (after_pick w)) (sound.jobs g ∙ counted g);
      before = rest_before pushed q.a q.b q.c q.d fit.a.before fit.b.before fit.c.before fit.d.before;
    }
  where
    one_less : (a b c : ℕ) → a ≡ b + c → a - b ≡ c
    one_less a b c is = omega arith

-- some job waits where one is taken
pub some_waits : (stays : ℕ → Option Stay) (places n pushed : ℕ) (q : Lists) (room : Room) (p : Placed)
    → IsSound stays places pushed n q room → first_placed q ≡ Some p → 1 ≤ n
some_waits stays places n pushed q room p sound is = let some = (taken stays places n pushed q room p sound is).some in omega arith

pub waiting_taken : (stays : ℕ → Option Stay) (places n pushed : ℕ) (q new : Lists) (room : Room) (p : Placed)
    → IsSound stays places pushed n q room → first_placed q ≡ Some p
    → AreTidied (updated p.job.forlopp (left (stays p.job.forlopp)) stays) (without_first q) new
    → waiting_of (updated p.job.forlopp (left (stays p.job.forlopp)) stays) new ≡ after_pick (waiting_of stays q)
waiting_taken stays places n pushed q new room p sound is tidied = waiting_tidied _ (without_first q) new tidied
    ∙ (taken stays places n pushed q room p sound is).waits

pub sound_taken : (stays : ℕ → Option Stay) (places places_after n pushed : ℕ) (q new : Lists) (room : Room)
    (p : Placed) → IsSound stays places pushed n q room → first_placed q ≡ Some p
    → places ≤ places_after → AreTidied (updated p.job.forlopp (left (stays p.job.forlopp)) stays) (without_first q) new
    → IsSound (updated p.job.forlopp (left (stays p.job.forlopp)) stays) places_after pushed (n - 1) new room
sound_taken stays places places_after n pushed q new room p sound is kept tidied =
    let t = taken stays places n pushed q room p sound is in
    let waits = waiting_taken stays places n pushed q new room p sound is tidied in
    let some = t.some in
    let less : n - 1 ≡ waiting_count (after_pick (waiting_of stays q)) = omega arith in
    let fewer = sound.fewer in
    let placing = sound.placing in
    record {
      jobs = λ g. t.jobs g ∙ sym (ap (count_of g) waits);
      begun = begun_left stays p.job.forlopp pushed sound.begun;
      all = less ∙ sym (ap waiting_count waits);
      fewer = omega arith;
      fit = fit_tidied _ pushed (without_first q) new t.before tidied;
      placing = omega arith;
      numbered = sound.numbered;
    }

-- no job is picked where none is placed
pub none_taken : (stays : ℕ → Option Stay) (places n pushed : ℕ) (q : Lists) (room : Room)
    → IsSound stays places pushed n q room → first_placed q ≡ None → pick (waiting_of stays q) ≡ None
none_taken stays places n pushed q room sound is = pick_placed stays pushed q sound.fit ∙ ap (option_map (λ (p : Placed). p.job)) is

-- ---- nothing waits

empty_fit : (n : ℕ) → AllFit (λ _. None) n none_placed
empty_fit n = record {
  a = record { before = tt; front = tt };
  b = record { before = tt; front = tt };
  c = record { before = tt; front = tt };
  d = record { before = tt; front = tt };
}

pub sound_empty : (places pushed : ℕ) (room : Room) → rooms room ≤ places → pushed + rooms room < 2 ^ 64 → IsSound (λ _. None) places pushed 0 none_placed room
sound_empty places pushed room placing numbered = record {
  jobs = λ g. refl;
  begun = λ g. tt;
  all = refl;
  fewer = omega arith;
  fit = empty_fit pushed;
  placing = placing;
  numbered = numbered;
}

-- ---- there is more room

pub sound_roomy : (stays : ℕ → Option Stay) (places places_after n pushed : ℕ) (q : Lists) (room room_after : Room) → IsSound stays places pushed n q room
    → rooms room_after ≤ places_after → pushed + rooms room_after < 2 ^ 64 → IsSound stays places_after pushed n q room_after
sound_roomy stays places places_after n pushed q room room_after sound placing numbered = record {
  jobs = sound.jobs;
  begun = sound.begun;
  all = sound.all;
  fewer = sound.fewer;
  fit = sound.fit;
  placing = placing;
  numbered = numbered;
}

-- room for that many jobs of a level was made, or none was
pub sound_made : {T E : Type 0} (r : Result T E) (l : Level) (more : ℕ) (stays : ℕ → Option Stay)
    (places places_after n pushed : ℕ) (q : Lists) (room room_after : Room) → IsSound stays places pushed n q room
    → MatchResult r (λ _. room_after ≡ with_room l more room) (λ _. room_after ≡ room) → places ≤ places_after
    → rooms room + (more - room_at l room) ≤ places_after → pushed + (rooms room + (more - room_at l room)) < 2 ^ 64
    → IsSound stays places_after pushed n q room_after
sound_made (Ok _) l more stays places places_after n pushed q room room_after sound is kept placing numbered =
    let all = rooms_with l more room in
    let part = some_in_all l room in
    let after : rooms room_after ≡ rooms (with_room l more room) = ap rooms is in
    sound_roomy stays places places_after n pushed q room room_after sound (omega arith) (omega arith)
sound_made (Err _) l more stays places places_after n pushed q room room_after sound is kept placing numbered =
    let after : rooms room_after ≡ rooms room = ap rooms is in
    sound_roomy stays places places_after n pushed q room room_after sound (omega arith) (omega arith)
