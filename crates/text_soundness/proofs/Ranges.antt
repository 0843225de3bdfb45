-- Numbers that follow one another.
use Rattle.std.proofs.Common.{add-zero, zero-add, ◌≡◌, ℕ, zero, suc, ◌+◌, List, [], ◌∷◌, ◌++◌}
use Rattle.std.proofs.Common.{length, map, refl, sym, ◌∙◌, ap, arith, length-append}
use Rattle.std.proofs.lemmas.List.{map-append}
use Rattle.std.specs.List.{range_with_len}
use Rattle.exchange_model.specs.Inside.{PointLine}

pub range_join : (p m n : ℕ) → range_with_len p m ++ range_with_len (p + m) n ≡ range_with_len p (m + n)
range_join p zero n = rw (add-zero p, zero-add n) refl
range_join p (suc m) n =
    let step : p + suc m ≡ p + 1 + m = omega arith in
    let whole : suc m + n ≡ suc (m + n) = omega arith in
    rw (step, whole, ← range_join (p + 1) m n) refl

-- these points are the numbers from p on, and q is the next one
pub record Follows (list : List PointLine) (p q : ℕ) : Type 0 where
  pub points : map (λ (s : PointLine). s.point) list ≡ range_with_len p (length list)
  pub next : q ≡ p + length list

pub follows_none : (p : ℕ) → Follows [] p p
follows_none p = record { points = refl; next = omega arith }

pub follows_first : (s : PointLine) (list : List PointLine) (q : ℕ) → Follows list (s.point + 1) q → Follows (s ∷ list) s.point q
follows_first s list q f = record { points = ap (λ x. s.point ∷ x) f.points; next = omega (arith, f.next) }

pub follows_join : (xs ys : List PointLine) (p q r : ℕ) → Follows xs p q → Follows ys q r → Follows (xs ++ ys) p r
follows_join xs ys p q r f g = record {
  points = map-append (λ (s : PointLine). s.point) xs ys ∙ ap (λ x. x ++ map (λ (s : PointLine). s.point) ys) f.points
      ∙ ap (λ x. range_with_len p (length xs) ++ x) (g.points ∙ ap (λ n. range_with_len n (length ys)) f.next)
      ∙ range_join p (length xs) (length ys) ∙ ap (range_with_len p) (sym (length-append xs ys));
  next = omega (arith, f.next, g.next, length-append xs ys);
}
