-- Which numbers are dead after one more died.
use Rattle.std.proofs.Common.{◌≡◌, ◌≢◌, ◌⊎◌, inl, inr, ⊎_elim, ℕ, Bool, true, false, refl, sym, ap}
use Rattle.std.proofs.Common.{◌∙◌}
use Rattle.std.specs.Prelude.{nat_lt, ◌&&◌, ◌||◌}
use Rattle.std.specs.Cmp.{unsigned_tied}
use Rattle.std.specs.Ordering.{nat_cmp, eq_by_cmp}
use Rattle.std.specs.FinSet as set
use Rattle.std.proofs.lemmas.Bool.{cases_Bool, eqb-true}
use Rattle.std.proofs.lemmas.Cmp.{nat_cmp_total}
use Rattle.job_types.specs.Forlopps.{Dead, is_dead, with_dead}

dead_is : (d : Dead) (n k : ℕ) → is_dead (with_dead d n) k ≡ ((nat_lt 0 k && nat_lt k d.below) || (eq_by_cmp nat_cmp k n || set.contains d.others k))
dead_is d n k = ap (λ b. (nat_lt 0 k && nat_lt k d.below) || b) (set.contains-insert nat_cmp_total d.others n k)

either : (a b c : Bool) → (a || (b || c)) ≡ true → (b ≡ true) ⊎ ((a || c) ≡ true)
either true b c h = inr refl
either false true c h = inl refl
either false false c h = inr h

neither : (a b c : Bool) → (a || c) ≡ false → b ≡ false → (a || (b || c)) ≡ false
neither true b c h k = h
neither false true c h k = k
neither false false c h k = h

pub dead_cases : (d : Dead) (n k : ℕ) → is_dead (with_dead d n) k ≡ true → (k ≡ n) ⊎ (is_dead d k ≡ true)
dead_cases d n k h = ⊎_elim
    (λ same. inl (eqb-true k n (sym (unsigned_tied k n) ∙ same))) (λ old. inr old)
    (either (nat_lt 0 k && nat_lt k d.below) (eq_by_cmp nat_cmp k n) (set.contains d.others k) (sym (dead_is d n k) ∙ h))

-- any other number is as it was
pub alive_still : (d : Dead) (n k : ℕ) → k ≢ n → is_dead d k ≡ false → is_dead (with_dead d n) k ≡ false
alive_still d n k other alive =
    dead_is d n k ∙ neither (nat_lt 0 k && nat_lt k d.below) (eq_by_cmp nat_cmp k n) (set.contains d.others k) alive
    (⊎_elim (λ t. absurd (other (eqb-true k n (sym (unsigned_tied k n) ∙ t)))) (λ f. f) (cases_Bool (eq_by_cmp nat_cmp k n)))
