-- Names as lists of bytes: the same ones, and those of a list that are apart.
use Rattle.std.proofs.Common.{◌≡◌, ℕ, zero, suc, ◌<◌, Bool, true, false, ◌||◌, List, [], ◌∷◌}
use Rattle.std.proofs.Common.{length, map, take, get_or, refl, sym, ap, ◌∙◌, arith}
use Rattle.std.specs.List.{AllByRecursion, IsDistinct, list_any}
use Rattle.std.specs.Str.{bytes_eq}
use Rattle.std.proofs.lemmas.Map.Keys.{IsDistinct-head, IsDistinct-tail}
use Rattle.std.proofs.lemmas.Slice.Eq.{bytes_eq-Decides}

pub same_bytes : (a b : List ℕ) → bytes_eq a b ≡ true → a ≡ b
same_bytes a b e = (bytes_eq-Decides a b).0 e

pub other_way : (a b : List ℕ) → bytes_eq a b ≡ false → bytes_eq b a ≡ false
other_way a b apart = by_test (bytes_eq b a) refl
  where
    by_test : (t : Bool) → bytes_eq b a ≡ t → t ≡ false
    by_test false e = refl
    by_test true e = let back : bytes_eq a b ≡ true = (bytes_eq-Decides a b).1 (sym (same_bytes b a e)) in cc

apart_at : {A : Type 0} (f : A → List ℕ) (name : List ℕ) (xs : List A) (i : ℕ) (d : A)
    → AllByRecursion (λ y. bytes_eq name y ≡ false) (map f xs) → i < length xs
    → bytes_eq name (f (get_or xs i d)) ≡ false
apart_at f name [] i d all inside = absurd (omega arith)
apart_at f name (x ∷ xs) zero d all inside = all.0
apart_at f name (x ∷ xs) (suc i) d all inside = apart_at f name xs i d all.1 (omega arith)

-- a name is none of those before it
pub new_at : {A : Type 0} (f : A → List ℕ) (xs : List A) (i : ℕ) (d : A) → IsDistinct bytes_eq (map f xs)
    → i < length xs → list_any (bytes_eq (f (get_or xs i d))) (map f (take i xs)) ≡ false
new_at f [] i d apart inside = absurd (omega arith)
new_at f (x ∷ xs) zero d apart inside = refl
new_at f (x ∷ xs) (suc i) d apart inside =
    let here : bytes_eq (f (get_or xs i d)) (f x)
    ≡ false = other_way (f x) (f (get_or xs i d))
    (apart_at f (f x) xs i d (IsDistinct-head bytes_eq (f x) (map f xs) apart) (omega arith)) in
    ap (λ b. b || list_any (bytes_eq (f (get_or xs i d))) (map f (take i xs))) here
    ∙ new_at f xs i d (IsDistinct-tail bytes_eq (f x) (map f xs) apart) (omega arith)

pub new_name : {A : Type 0} (f : A → List ℕ) (xs : List A) (i : ℕ) (x : A) (name : List ℕ) (before : List (List ℕ))
    → IsDistinct bytes_eq (map f xs) → i < length xs → x ≡ get_or xs i x → name ≡ f x → before ≡ map f (take i xs)
    → list_any (bytes_eq name) before ≡ false
new_name f xs i x name before apart inside is named all =
    ap (list_any (bytes_eq name)) all ∙ ap (λ n. list_any (bytes_eq n) (map f (take i xs))) (named ∙ ap f is) ∙ new_at f xs i x apart inside
