-- Which jobs of a list wait, after each change of the stays.
use Rattle.std.proofs.Common.{◌≡◌, ℕ, zero, suc, ◌+◌, ◌-◌, ◌<◌, Bool, true, false, cond, not, eqb}
use Rattle.std.proofs.Common.{ltb, List, [], ◌∷◌, ◌++◌, length, map, drop, count_by, Option, None}
use Rattle.std.proofs.Common.{Some, unwrap_or, refl, sym, ap, subst, ◌∙◌, arith}
use Rattle.std.specs.List.{filter, AllByRecursion, position_or_len}
use Rattle.std.specs.Prelude.{position}
use Rattle.std.proofs.lemmas.Bool.{eqb-true, eq-eqb, ne_eqb, ltb-false}
use Rattle.std.proofs.lemmas.Cmp.{nat_eq_equiv}
use Rattle.std.proofs.lemmas.List.{map-append}
use Rattle.std.proofs.lemmas.List.Elements.{filter-append}
use Rattle.std.proofs.lemmas.List.Filters.{length-filter_both}
use Rattle.std.proofs.lemmas.List.Sums.{length-filter, prefix_len-le-length, sum_by-cons}
use Rattle.std.proofs.lemmas.List.Sums.{sum_by-append}
use Rattle.plex_num.proofs.Lists.{all_append, all_drop}
use Rattle.job_types.specs.declared.job.Job.{Job}
use Rattle.job_types.specs.Waiting.{is_of, others_in}
use Rattle.job_buffers.specs.declared.stays.Stay.{Stay}
use Rattle.job_buffers.specs.declared.queue.Placed.{Placed}
use Rattle.job_buffers.specs.Standing.{AreBefore, Fits, FrontCounts, IsBefore, IsTidied, counting}
use Rattle.job_buffers.specs.Standing.{counts, is_stay, jobs_of, joined, left, updated}

-- ---- counts of jobs

abbrev one_if_of : ℕ → Job → ℕ
one_if_of g j = cond (is_of g j) 1 0

zero_plus : (n : ℕ) → 0 + n ≡ n
zero_plus n = omega arith

pub count_cons : (g : ℕ) (j : Job) (js : List Job) → count_by (is_of g) (j ∷ js) ≡ cond (is_of g j) 1 0 + count_by (is_of g) js
count_cons g j js = sum_by-cons (one_if_of g) j js

pub count_last_one : (g : ℕ) (js : List Job) (j : Job) → count_by (is_of g) (js ++ j ∷ []) ≡ count_by (is_of g) js + cond (is_of g j) 1 0
count_last_one g js j =
    let both = sum_by-append (one_if_of g) js (j ∷ []) in
    let one = count_cons g j [] in
    let none : count_by (is_of g) [] ≡ 0 = refl in
    omega arith

-- none of the forlopp is among the others
pub count_gone : (f : ℕ) (js : List Job) → count_by (is_of f) (others_in f js) ≡ 0
count_gone f [] = refl
count_gone f (j ∷ js) = at (is_of f j) refl (count_gone f js)
  where
    at : (b : Bool) → is_of f j ≡ b → count_by (is_of f) (others_in f js) ≡ 0 → count_by (is_of f) (cond (not b) (j ∷ others_in f js) (others_in f js)) ≡ 0
    at true e ih = ih
    at false e ih = count_cons f j (others_in f js) ∙ (λ i. cond (e i) 1 0 + ih i)

-- all of another forlopp are
pub count_other : (f g : ℕ) (js : List Job) → eqb f g ≡ false → count_by (is_of g) (others_in f js) ≡ count_by (is_of g) js
count_other f g [] differ = refl
count_other f g (j ∷ js) differ = at (is_of f j) refl (count_other f g js differ)
  where
    at : (b : Bool) → is_of f j ≡ b → count_by (is_of g) (others_in f js) ≡ count_by (is_of g) js
        → count_by (is_of g) (cond (not b) (j ∷ others_in f js) (others_in f js)) ≡ count_by (is_of g) (j ∷ js)
    at true e ih =
        let no : is_of g j ≡ false = ap (λ k. eqb k g) (eqb-true j.forlopp f e) ∙ differ in
        ih ∙ sym (count_cons g j js ∙ ap (λ b. cond b 1 0 + count_by (is_of g) js) no ∙ zero_plus (count_by (is_of g) js))
    at false e ih = count_cons g j (others_in f js) ∙ ap (λ k. cond (is_of g j) 1 0 + k) ih ∙ sym (count_cons g j js)

pub length_others : (f : ℕ) (js : List Job) → count_by (is_of f) js + length (others_in f js) ≡ length js
length_others f js = omega (arith, length-filter (is_of f) js, length-filter_both (is_of f) (λ (j : Job). not (is_of f j)) (λ _. refl) js)

-- where none is of the forlopp, all are others
pub none_goes : (f : ℕ) (js : List Job) → count_by (is_of f) js ≡ 0 → others_in f js ≡ js
none_goes f [] none = refl
none_goes f (j ∷ js) none = at (is_of f j) refl (none_goes f js)
  where
    at : (b : Bool) → is_of f j ≡ b → (count_by (is_of f) js ≡ 0 → others_in f js ≡ js) → cond (not b) (j ∷ others_in f js) (others_in f js) ≡ j ∷ js
    at true e ih =
        let parts = count_cons f j js in
        let one : ◌≡◌ {A = ℕ} (cond (is_of f j) 1 0) 1 = ap (λ (b : Bool). cond {A = ℕ} b 1 0) e in
        absurd (omega arith)
    at false e ih =
        let parts = count_cons f j js in
        ap (λ l. j ∷ l) (ih (omega arith))

-- ---- which placed jobs wait

-- a change of the stay of one forlopp that no placed job of it can tell
by_owner : (stays : ℕ → Option Stay) (f : ℕ) (o : Option Stay) (p : Placed)
    → is_stay p.stay o ≡ is_stay p.stay (stays f) → counts (updated f o stays) p ≡ counts stays p
by_owner stays f o p same = at (eqb f p.job.forlopp) refl
  where
    at : (b : Bool) → eqb f p.job.forlopp ≡ b → is_stay p.stay (cond b o (stays p.job.forlopp)) ≡ is_stay p.stay (stays p.job.forlopp)
    at true e = same ∙ ap (λ k. is_stay p.stay (stays k)) (eqb-true f p.job.forlopp e)
    at false e = refl

filter_alike : (t u : Placed → Bool) (ps : List Placed) → AllByRecursion (λ (p : Placed). t p ≡ u p) ps → filter t ps ≡ filter u ps
filter_alike t u [] all = refl
filter_alike t u (p ∷ ps) all = λ i. cond (all.0 i) (p ∷ filter_alike t u ps all.1 i) (filter_alike t u ps all.1 i)

counting_alike : (s t : ℕ → Option Stay) (ps : List Placed) → AllByRecursion (λ (p : Placed). counts s p ≡ counts t p) ps → counting s ps ≡ counting t ps
counting_alike s t ps all = ap (λ (l : List Placed). map (λ (p : Placed). p.job) l) (filter_alike (counts s) (counts t) ps all)

-- ---- a job joins

abbrev pub after_join : (ℕ → Option Stay) → ℕ → ℕ → ℕ → Option Stay
after_join stays f n = updated f (Some (joined n (stays f))) stays

abbrev pub newcomer : (ℕ → Option Stay) → ℕ → Job → Placed
newcomer stays n j = record { job = j; stay = (joined n (stays j.forlopp)).number }

joined_same : (o : Option Stay) (n s : ℕ) → s < n → is_stay s (Some (joined n o)) ≡ is_stay s o
joined_same None n s lt = ne_eqb n s (λ is. absurd (omega arith))
joined_same (Some t) n s lt = refl

all_joined : (stays : ℕ → Option Stay) (f n : ℕ) (ps : List Placed) → AreBefore n ps
    → AllByRecursion (λ (p : Placed). counts (after_join stays f n) p ≡ counts stays p) ps
all_joined stays f n [] before = tt
all_joined stays f n (p ∷ ps) before = (
  by_owner stays f (Some (joined n (stays f))) p
      (joined_same (stays f) n p.stay before.0),
  all_joined stays f n ps before.1,
)

newcomer_counts : (stays : ℕ → Option Stay) (n : ℕ) (j : Job) → counts (after_join stays j.forlopp n) (newcomer stays n j) ≡ true
newcomer_counts stays n j =
    (λ i. is_stay (joined n (stays j.forlopp)).number (cond (eq-eqb j.forlopp j.forlopp refl i) (Some (joined n (stays j.forlopp))) (stays j.forlopp)))
    ∙ eq-eqb (joined n (stays j.forlopp)).number (joined n (stays j.forlopp)).number refl

pub counting_beside : (stays : ℕ → Option Stay) (f n : ℕ) (ps : List Placed) → AreBefore n ps → counting (after_join stays f n) ps ≡ counting stays ps
counting_beside stays f n ps before = counting_alike (after_join stays f n) stays ps (all_joined stays f n ps before)

pub counting_joined : (stays : ℕ → Option Stay) (n : ℕ) (j : Job) (ps : List Placed) → AreBefore n ps
    → counting (after_join stays j.forlopp n) (ps ++ newcomer stays n j ∷ []) ≡ counting stays ps ++ j ∷ []
counting_joined stays n j ps before =
    let t : Placed → Bool = counts (after_join stays j.forlopp n) in
    ap (λ (l : List Placed). map (λ (p : Placed). p.job) l) (filter-append t ps (newcomer stays n j ∷ []))
    ∙ map-append (λ (p : Placed). p.job) (filter t ps) (filter t (newcomer stays n j ∷ []))
    ∙ (λ i. counting_beside stays j.forlopp n ps before i ++ map (λ (p : Placed). p.job) (cond (newcomer_counts stays n j i) (newcomer stays n j ∷ []) []))

before_more : (n : ℕ) (ps : List Placed) → AreBefore n ps → AreBefore (n + 1) ps
before_more n [] before = tt
before_more n (p ∷ ps) before = let lt : p.stay < n = before.0 in (omega arith, before_more n ps before.1)

joined_number : (n : ℕ) (o : Option Stay) → IsBefore n o → (joined n o).number < n + 1
joined_number n None begun = omega arith
joined_number n (Some s) begun = let lt : s.number < n = begun in omega arith

later : (n : ℕ) (o : Option Stay) → IsBefore n o → IsBefore (n + 1) o
later n None begun = tt
later n (Some s) begun = let lt : s.number < n = begun in omega arith

front_more : (s t : ℕ → Option Stay) (ps : List Placed) (p : Placed)
    → AllByRecursion (λ (p : Placed). counts s p ≡ counts t p) ps → FrontCounts t ps → counts s p ≡ true
    → FrontCounts s (ps ++ p ∷ [])
front_more s t [] p all front new = new
front_more s t (x ∷ ps) p all front new = all.0 ∙ front

front_same : (s t : ℕ → Option Stay) (ps : List Placed) → AllByRecursion (λ (p : Placed). counts s p ≡ counts t p) ps → FrontCounts t ps → FrontCounts s ps
front_same s t [] all front = tt
front_same s t (x ∷ ps) all front = all.0 ∙ front

pub fits_joined : (stays : ℕ → Option Stay) (n : ℕ) (j : Job) (ps : List Placed) → IsBefore n (stays j.forlopp) → Fits stays n ps
    → Fits (after_join stays j.forlopp n) (n + 1) (ps ++ newcomer stays n j ∷ [])
fits_joined stays n j ps begun fits = record {
  before = all_append _ ps (newcomer stays n j ∷ []) (before_more n ps fits.before) (joined_number n (stays j.forlopp) begun, tt);
  front = front_more (after_join stays j.forlopp n) stays ps (newcomer stays n j)
      (all_joined stays j.forlopp n ps fits.before) fits.front (newcomer_counts stays n j);
}

pub fits_beside : (stays : ℕ → Option Stay) (f n : ℕ) (ps : List Placed) → Fits stays n ps → Fits (after_join stays f n) (n + 1) ps
fits_beside stays f n ps fits = record {
  before = before_more n ps fits.before;
  front = front_same (after_join stays f n) stays ps (all_joined stays f n ps fits.before) fits.front;
}

pub begun_joined : (stays : ℕ → Option Stay) (f n : ℕ) → ((g : ℕ) → IsBefore n (stays g)) → (g : ℕ) → IsBefore (n + 1) (after_join stays f n g)
begun_joined stays f n begun g = at (eqb f g)
  where
    at : (b : Bool) → IsBefore (n + 1) (cond b (Some (joined n (stays f))) (stays g))
    at true = joined_number n (stays f) (begun f)
    at false = later n (stays g) (begun g)

joined_jobs : (n : ℕ) (o : Option Stay) → (joined n o).jobs ≡ jobs_of o + 1
joined_jobs n None = refl
joined_jobs n (Some s) = refl

pub jobs_joined : (stays : ℕ → Option Stay) (n : ℕ) (j : Job) (g : ℕ) → jobs_of (after_join stays j.forlopp n g) ≡ jobs_of (stays g) + cond (is_of g j) 1 0
jobs_joined stays n j g = at (eqb j.forlopp g) refl
  where
    at : (b : Bool) → eqb j.forlopp g ≡ b → jobs_of (cond b (Some (joined n (stays j.forlopp))) (stays g)) ≡ jobs_of (stays g) + cond b 1 0
    at true e = joined_jobs n (stays j.forlopp) ∙ ap (λ k. jobs_of (stays k) + 1) (eqb-true j.forlopp g e)
    at false e = omega arith

-- ---- the stay of a forlopp ends

counts_ended : (stays : ℕ → Option Stay) (f : ℕ) (p : Placed) → counts (updated f None stays) p ≡ cond (is_of f p.job) false (counts stays p)
counts_ended stays f p = at (eqb f p.job.forlopp) ∙ (λ i. cond (nat_eq_equiv.symm f p.job.forlopp i) false (counts stays p))
  where
    at : (b : Bool) → is_stay p.stay (cond b None (stays p.job.forlopp)) ≡ cond b false (is_stay p.stay (stays p.job.forlopp))
    at true = refl
    at false = refl

pub counting_ended : (stays : ℕ → Option Stay) (f : ℕ) (ps : List Placed) → counting (updated f None stays) ps ≡ others_in f (counting stays ps)
counting_ended stays f [] = refl
counting_ended stays f (p ∷ ps) =
    (λ i. map (λ (p : Placed). p.job) (cond (counts_ended stays f p i) (p ∷ filter (counts (updated f None stays)) ps)
    (filter (counts (updated f None stays)) ps)))
    ∙ one_more (is_of f p.job) (counts stays p) f p (filter (counts (updated f None stays)) ps) (filter (counts stays) ps) refl (counting_ended stays f ps)
  where
    one_more : (b c : Bool) (f : ℕ) (p : Placed) (us vs : List Placed) → is_of f p.job ≡ b
        → map (λ (p : Placed). p.job) us ≡ others_in f (map (λ (p : Placed). p.job) vs)
        → map (λ (p : Placed). p.job) (cond (cond b false c) (p ∷ us) us) ≡ others_in f (map (λ (p : Placed). p.job) (cond c (p ∷ vs) vs))
    one_more true true f p us vs e ih = ih ∙ sym
        (λ i. cond (not (e i)) (p.job ∷ others_in f (map (λ (p : Placed). p.job) vs))
        (others_in f (map (λ (p : Placed). p.job) vs)))
    one_more true false f p us vs e ih = ih
    one_more false true f p us vs e ih = ap (λ l. p.job ∷ l) ih
        ∙ sym (λ i. cond (not (e i)) (p.job ∷ others_in f (map (λ (p : Placed). p.job) vs))
        (others_in f (map (λ (p : Placed). p.job) vs)))
    one_more false false f p us vs e ih = ih

pub begun_ended : (stays : ℕ → Option Stay) (f n : ℕ) → ((g : ℕ) → IsBefore n (stays g)) → (g : ℕ) → IsBefore n (updated f None stays g)
begun_ended stays f n begun g = at (eqb f g)
  where
    at : (b : Bool) → IsBefore n (cond b None (stays g))
    at true = tt
    at false = begun g

-- ---- a job leaves

all_renewed : (stays : ℕ → Option Stay) (f : ℕ) (s t : Stay) (ps : List Placed) → stays f ≡ Some s → t.number ≡ s.number
    → AllByRecursion (λ (p : Placed). counts (updated f (Some t) stays) p ≡ counts stays p) ps
all_renewed stays f s t [] is same = tt
all_renewed stays f s t (p ∷ ps) is same =
    (by_owner stays f (Some t) p (ap (λ k. eqb k p.stay) same ∙ sym (ap (is_stay p.stay) is)), all_renewed stays f s t ps is same)

-- k jobs of the forlopp still wait, and if none does, none is in this list
pub counting_left : (stays : ℕ → Option Stay) (f k : ℕ) (ps : List Placed) → jobs_of (stays f) ≡ 1 + k → (k ≡ 0 → count_by (is_of f) (counting stays ps) ≡ 0)
    → counting (updated f (left (stays f)) stays) ps ≡ counting stays ps
counting_left stays f k ps some last = by_stay (stays f) refl some
  where
    by_stay : (o : Option Stay) → stays f ≡ o → jobs_of o ≡ 1 + k → counting (updated f (left o) stays) ps ≡ counting stays ps
    by_stay None is some = absurd (omega arith)
    by_stay (Some s) is some = at (ltb 1 s.jobs) refl
      where
        at : (b : Bool) → ltb 1 s.jobs ≡ b → counting
            (updated f (cond b (Some (record { number = s.number; jobs = s.jobs - 1 })) None) stays) ps
            ≡ counting stays ps
        at true e = counting_alike _ stays ps (all_renewed stays f s (record { number = s.number; jobs = s.jobs - 1 }) ps is refl)
        at false e =
            let few = ltb-false 1 s.jobs e in
            let of_s : s.jobs ≡ 1 + k = some in
            let k_is : k ≡ 0 = omega arith in
            counting_ended stays f ps ∙ none_goes f (counting stays ps) (last k_is)

left_jobs : (o : Option Stay) → jobs_of (left o) ≡ jobs_of o - 1
left_jobs None = omega arith
left_jobs (Some s) = at (ltb 1 s.jobs) refl
  where
    at : (b : Bool) → ltb 1 s.jobs ≡ b → jobs_of (cond b (Some (record { number = s.number; jobs = s.jobs - 1 })) None) ≡ s.jobs - 1
    at true e = refl
    at false e = let few = ltb-false 1 s.jobs e in omega arith

pub jobs_left : (stays : ℕ → Option Stay) (f g : ℕ) → jobs_of (updated f (left (stays f)) stays g) ≡ jobs_of (stays g) - cond (eqb f g) 1 0
jobs_left stays f g = at (eqb f g) refl
  where
    at : (b : Bool) → eqb f g ≡ b → jobs_of (cond b (left (stays f)) (stays g)) ≡ jobs_of (stays g) - cond b 1 0
    at true e = left_jobs (stays f) ∙ ap (λ k. jobs_of (stays k) - 1) (eqb-true f g e)
    at false e = omega arith

left_begun : (n : ℕ) (o : Option Stay) → IsBefore n o → IsBefore n (left o)
left_begun n None begun = tt
left_begun n (Some s) begun = at (ltb 1 s.jobs)
  where
    at : (b : Bool) → IsBefore n (cond b (Some (record { number = s.number; jobs = s.jobs - 1 })) None)
    at true = begun
    at false = tt

pub begun_left : (stays : ℕ → Option Stay) (f n : ℕ) → ((g : ℕ) → IsBefore n (stays g)) → (g : ℕ) → IsBefore n (updated f (left (stays f)) stays g)
begun_left stays f n begun g = at (eqb f g)
  where
    at : (b : Bool) → IsBefore n (cond b (left (stays f)) (stays g))
    at true = left_begun n (stays f) (begun f)
    at false = begun g

-- the first job of a list waits
pub counting_first : (stays : ℕ → Option Stay) (p : Placed) (ps : List Placed) → counts stays p ≡ true → counting stays (p ∷ ps) ≡ p.job ∷ counting stays ps
counting_first stays p ps e = λ i. map (λ (p : Placed). p.job) (cond (e i) (p ∷ filter (counts stays) ps) (filter (counts stays) ps))

-- ---- lists are tidied

-- a list from the first job on that still waits
abbrev from_first : (ℕ → Option Stay) → List Placed → List Placed
from_first stays ps = drop (position_or_len (counts stays) ps) ps

from_cons : (stays : ℕ → Option Stay) (p : Placed) (ps : List Placed) → from_first stays (p ∷ ps) ≡ cond (counts stays p) (p ∷ ps) (from_first stays ps)
from_cons stays p ps = at (counts stays p) (position_or_len (counts stays) ps)
  where
    at : (b : Bool) (k : ℕ) → drop (cond (not b) (1 + k) 0) (p ∷ ps) ≡ cond b (p ∷ ps) (drop k ps)
    at true k = refl
    at false k = let e : 1 + k ≡ suc k = omega arith in ap (λ m. drop m (p ∷ ps)) e

from_counting : (stays : ℕ → Option Stay) (ps : List Placed) → counting stays (from_first stays ps) ≡ counting stays ps
from_counting stays [] = refl
from_counting stays (p ∷ ps) = ap (counting stays) (from_cons stays p ps) ∙ at (counts stays p) refl (from_counting stays ps)
  where
    at : (b : Bool) → counts stays p ≡ b → counting stays (from_first stays ps) ≡ counting stays ps
        → counting stays (cond b (p ∷ ps) (from_first stays ps))
        ≡ map (λ (p : Placed). p.job) (cond b (p ∷ filter (counts stays) ps) (filter (counts stays) ps))
    at true e ih = counting_first stays p ps e
    at false e ih = ih

from_front : (stays : ℕ → Option Stay) (ps : List Placed) → FrontCounts stays (from_first stays ps)
from_front stays [] = tt
from_front stays (p ∷ ps) = subst (FrontCounts stays) (sym (from_cons stays p ps)) (at (counts stays p) refl (from_front stays ps))
  where
    at : (b : Bool) → counts stays p ≡ b → FrontCounts stays (from_first stays ps) → FrontCounts stays (cond b (p ∷ ps) (from_first stays ps))
    at true e ih = e
    at false e ih = ih

pub tidied_front : (stays : ℕ → Option Stay) (ps qs : List Placed) (k : ℕ) → k ≡ position_or_len (counts stays) ps → qs ≡ drop k ps → IsTidied stays ps qs
tidied_front stays ps qs k at is = subst (IsTidied stays ps) (sym (is ∙ ap (λ n. drop n ps) at)) (record {
  jobs = from_counting stays ps;
  front = from_front stays ps;
  before = λ n before. all_drop _ (position_or_len (counts stays) ps) ps before;
})

filter_twice : (t : Placed → Bool) (ps : List Placed) → filter t (filter t ps) ≡ filter t ps
filter_twice t [] = refl
filter_twice t (p ∷ ps) = at (t p) refl (filter_twice t ps)
  where
    at : (b : Bool) → t p ≡ b → filter t (filter t ps) ≡ filter t ps
        → filter t (cond b (p ∷ filter t ps) (filter t ps)) ≡ cond b (p ∷ filter t ps) (filter t ps)
    at true e ih = (λ i. cond (e i) (p ∷ filter t (filter t ps)) (filter t (filter t ps))) ∙ ap (λ l. p ∷ l) ih
    at false e ih = ih

filter_front : (stays : ℕ → Option Stay) (ps : List Placed) → FrontCounts stays (filter (counts stays) ps)
filter_front stays [] = tt
filter_front stays (p ∷ ps) = at (counts stays p) refl (filter_front stays ps)
  where
    at : (b : Bool) → counts stays p ≡ b → FrontCounts stays (filter (counts stays) ps)
        → FrontCounts stays (cond b (p ∷ filter (counts stays) ps) (filter (counts stays) ps))
    at true e ih = e
    at false e ih = ih

filter_before : (t : Placed → Bool) (n : ℕ) (ps : List Placed) → AreBefore n ps → AreBefore n (filter t ps)
filter_before t n [] before = tt
filter_before t n (p ∷ ps) before = at (t p) (filter_before t n ps before.1)
  where
    at : (b : Bool) → AreBefore n (filter t ps) → AreBefore n (cond b (p ∷ filter t ps) (filter t ps))
    at true ih = (before.0, ih)
    at false ih = ih

pub tidied_all : (stays : ℕ → Option Stay) (ps qs : List Placed) → qs ≡ filter (counts stays) ps → IsTidied stays ps qs
tidied_all stays ps qs is = subst (IsTidied stays ps) (sym is) (record {
  jobs = ap (λ (l : List Placed). map (λ (p : Placed). p.job) l) (filter_twice (counts stays) ps);
  front = filter_front stays ps;
  before = λ n before. filter_before (counts stays) n ps before;
})

-- ---- the front of a list

drop_next : {A : Type 0} (n : ℕ) (xs : List A) → drop 1 (drop n xs) ≡ drop (suc n) xs
drop_next zero xs = refl
drop_next (suc n) [] = refl
drop_next (suc n) (x ∷ xs) = drop_next n xs

-- one more is let go of
pub drop_one_more : (xs ys zs : List Placed) (n : ℕ) → ys ≡ drop n xs → zs ≡ drop 1 ys → zs ≡ drop (n + 1) xs
drop_one_more xs ys zs n are is = let e : suc n ≡ n + 1 = omega arith in is ∙ ap (drop 1) are ∙ drop_next n xs ∙ ap (λ m. drop m xs) e

-- the first that passes, or the length where none does
pub first_or_length : (t : Placed → Bool) (ps : List Placed) (o : Option ℕ) (n : ℕ) → o ≡ position t ps → n ≡ length ps → unwrap_or o n ≡ position_or_len t ps
first_or_length t ps o n is whole =
    ap (λ o. unwrap_or o n) is ∙ at (ltb (position_or_len t ps) (length ps)) refl
  where
    at : (b : Bool) → ltb (position_or_len t ps) (length ps) ≡ b → unwrap_or (cond b (Some (position_or_len t ps)) None) n ≡ position_or_len t ps
    at true e = refl
    at false e =
        let far = ltb-false (position_or_len t ps) (length ps) e in
        let near = prefix_len-le-length (λ p. not (t p)) ps in
        omega arith
