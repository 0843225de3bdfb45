-- The four lists of those who wait: who joins behind the pick, and what a release takes from behind
-- it, change places with taking the pick.
use Rattle.std.proofs.Common.{◌≡◌, ℕ, ◌+◌, ◌≤◌, cond, List, [], ◌∷◌, Some, refl, sym, ap, ◌∙◌}
use Rattle.std.proofs.Common.{subst, arith}
use Rattle.std.proofs.Math.Nat.{zero-add}
use Rattle.std.proofs.lemmas.Bool.{ne_eqb}
use Rattle.std.proofs.lemmas.List.Sums.{sum_by-cons}
use Rattle.std.proofs.lemmas.Option.{none-some, same_Some}
use Rattle.std.specs.Prelude.{◌≢◌, not, count_by}
use Rattle.std.specs.List.{AllByRecursion}
use Rattle.plex_num.specs.declared.level.Level.{Level}
use Rattle.plex_num.specs.declared.level.Level.TheVariants.{A, B, C, D}
use Rattle.job_types.specs.declared.job.Job.{Job}
use Rattle.job_types.specs.Waiting.{Waiting, after_pick, count_of, first_of, is_of, joins, last_at}
use Rattle.job_types.specs.Waiting.{others, others_in, pick, rest_of}
use Rattle.order_laws.specs.Ends.{rank}
use Rattle.order_laws.specs.Picks.{AllInPlace, IsAt}

-- the job is the pick after this change of the lists too, and taking it out changes places with the
-- change
pub record ListsStay (j : Job) (change : Waiting → Waiting) (w : Waiting) : Type 0 where
  pub picked : pick (change w) ≡ Some j
  pub same : after_pick (change w) ≡ change (after_pick w)

-- a pick that stands in the list of this level has its rank
rank_of : (level : Level) (x j : Job) → Some x ≡ Some j → x.level ≡ level → rank j.level ≡ rank level
rank_of level x j picked at = ap (λ (y : Job). rank y.level) (sym (same_Some x j picked)) ∙ ap rank at

-- a job joins a list that is not above the pick's
joined : (j k : Job) (level : Level) (a b c d : List Job) → AllByRecursion (IsAt B) b → AllByRecursion (IsAt C) c → AllByRecursion (IsAt D) d
    → rank j.level ≤ rank level → first_of a b c d ≡ Some j → ListsStay j (last_at level k) (record { a = a; b = b; c = c; d = d })
joined j k A (x ∷ xs) b c d hb hc hd low e = record { picked = e; same = refl }
joined j k B (x ∷ xs) b c d hb hc hd low e = record { picked = e; same = refl }
joined j k C (x ∷ xs) b c d hb hc hd low e = record { picked = e; same = refl }
joined j k D (x ∷ xs) b c d hb hc hd low e = record { picked = e; same = refl }
joined j k A [] (x ∷ xs) c d hb hc hd low e = let r : rank j.level ≡ 1 = rank_of B x j e hb.0 in let l : rank j.level ≤ 0 = low in absurd (omega arith)
joined j k B [] (x ∷ xs) c d hb hc hd low e = record { picked = e; same = refl }
joined j k C [] (x ∷ xs) c d hb hc hd low e = record { picked = e; same = refl }
joined j k D [] (x ∷ xs) c d hb hc hd low e = record { picked = e; same = refl }
joined j k A [] [] (x ∷ xs) d hb hc hd low e = let r : rank j.level ≡ 2 = rank_of C x j e hc.0 in let l : rank j.level ≤ 0 = low in absurd (omega arith)
joined j k B [] [] (x ∷ xs) d hb hc hd low e = let r : rank j.level ≡ 2 = rank_of C x j e hc.0 in let l : rank j.level ≤ 1 = low in absurd (omega arith)
joined j k C [] [] (x ∷ xs) d hb hc hd low e = record { picked = e; same = refl }
joined j k D [] [] (x ∷ xs) d hb hc hd low e = record { picked = e; same = refl }
joined j k A [] [] [] (x ∷ xs) hb hc hd low e = let r : rank j.level ≡ 3 = rank_of D x j e hd.0 in let l : rank j.level ≤ 0 = low in absurd (omega arith)
joined j k B [] [] [] (x ∷ xs) hb hc hd low e = let r : rank j.level ≡ 3 = rank_of D x j e hd.0 in let l : rank j.level ≤ 1 = low in absurd (omega arith)
joined j k C [] [] [] (x ∷ xs) hb hc hd low e = let r : rank j.level ≡ 3 = rank_of D x j e hd.0 in let l : rank j.level ≤ 2 = low in absurd (omega arith)
joined j k D [] [] [] (x ∷ xs) hb hc hd low e = record { picked = e; same = refl }
joined j k level [] [] [] [] hb hc hd low e = absurd (none-some j e)

pub join_stays : (j k : Job) (w : Waiting) → AllInPlace w → pick w ≡ Some j → rank j.level ≤ rank k.level → ListsStay j (joins k) w
join_stays j k w h e low = joined j k k.level w.a w.b w.c w.d h.b h.c h.d low e

-- the first of a list is of another forlopp
first_is_other : (f : ℕ) (x : Job) (xs : List Job) → x.forlopp ≢ f → others_in f (x ∷ xs) ≡ x ∷ others_in f xs
first_is_other f x xs other = ap (λ b. cond (not b) (x ∷ others_in f xs) (others_in f xs)) (ne_eqb x.forlopp f other)

first_counts_not : (f : ℕ) (x : Job) (xs : List Job) → x.forlopp ≢ f → count_by (is_of f) (x ∷ xs) ≡ count_by (is_of f) xs
first_counts_not f x xs other =
    sum_by-cons (λ (y : Job). cond (is_of f y) 1 0) x xs
    ∙ ap (λ b. cond b 1 0 + count_by (is_of f) xs) (ne_eqb x.forlopp f other) ∙ zero-add (count_by (is_of f) xs)

-- the jobs of another forlopp go, and the pick stays
pub record OthersStay (j : Job) (f : ℕ) (w : Waiting) : Type 0 where
  pub lists : ListsStay j (others f) w
  pub count : count_of f (after_pick w) ≡ count_of f w

other_than : (j x : Job) (f : ℕ) → j.forlopp ≢ f → Some x ≡ Some j → x.forlopp ≢ f
other_than j x f other picked same = other (subst (λ (y : Job). y.forlopp ≡ f) (same_Some x j picked) same)

others_kept : (j : Job) (f : ℕ) (a b c d : List Job) → j.forlopp ≢ f → first_of a b c d ≡ Some j → OthersStay j f (record { a = a; b = b; c = c; d = d })
others_kept j f (x ∷ xs) b c d other e =
    let own = first_is_other f x xs (other_than j x f other e) in
    let count = first_counts_not f x xs (other_than j x f other e) in
    record {
      lists = record {
        picked = ap (λ z. first_of z (others_in f b) (others_in f c) (others_in f d)) own ∙ e;
        same = ap (λ z. rest_of z (others_in f b) (others_in f c) (others_in f d)) own;
      };
      count = ap (λ n. n + count_by (is_of f) b + count_by (is_of f) c + count_by (is_of f) d) (sym count);
    }
others_kept j f [] (x ∷ xs) c d other e =
    let own = first_is_other f x xs (other_than j x f other e) in
    let count = first_counts_not f x xs (other_than j x f other e) in
    record {
      lists = record {
        picked = ap (λ z. first_of [] z (others_in f c) (others_in f d)) own ∙ e;
        same = ap (λ z. rest_of [] z (others_in f c) (others_in f d)) own;
      };
      count = ap (λ n. count_by (is_of f) [] + n + count_by (is_of f) c + count_by (is_of f) d) (sym count);
    }
others_kept j f [] [] (x ∷ xs) d other e =
    let own = first_is_other f x xs (other_than j x f other e) in
    let count = first_counts_not f x xs (other_than j x f other e) in
    record {
      lists = record {
        picked = ap (λ z. first_of [] [] z (others_in f d)) own ∙ e;
        same = ap (λ z. rest_of [] [] z (others_in f d)) own;
      };
      count = ap (λ n. count_by (is_of f) [] + count_by (is_of f) [] + n + count_by (is_of f) d) (sym count);
    }
others_kept j f [] [] [] (x ∷ xs) other e =
    let own = first_is_other f x xs (other_than j x f other e) in
    let count = first_counts_not f x xs (other_than j x f other e) in
    record {
      lists = record {
        picked = ap (λ z. first_of [] [] [] z) own ∙ e;
        same = ap (λ z. rest_of [] [] [] z) own;
      };
      count = ap (λ n. count_by (is_of f) [] + count_by (is_of f) [] + count_by (is_of f) [] + n) (sym count);
    }
others_kept j f [] [] [] [] other e = absurd (none-some j e)

pub others_stay : (j : Job) (f : ℕ) (w : Waiting) → j.forlopp ≢ f → pick w ≡ Some j → OthersStay j f w
others_stay j f w other e = others_kept j f w.a w.b w.c w.d other e
