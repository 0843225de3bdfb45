-- Steps of the loops that pick out of a list.
use Rattle.std.proofs.Common.{◌≡◌, ℕ, ◌+◌, ◌<◌, ◌≤◌, List, [], ◌∷◌, ◌++◌, length, drop, get_or}
use Rattle.std.proofs.Common.{Option, Some, None, refl, sym, ◌∙◌, ap, append_assoc}
use Rattle.std.specs.Prelude.{filter_map}
use Rattle.std.specs.List.{cons_option}
use Rattle.std.proofs.lemmas.List.{drop_all, append-nil}
use Rattle.plex_num.proofs.Lists.{opens}

-- what was picked so far, and what is picked of those that are left, is all
pub record Picked {A B : Type 0} (f : A → Option B) (xs : List A) (i : ℕ) (list : List B) : Type 0 where
  pub all : list ++ filter_map f (drop i xs) ≡ filter_map f xs

pub picked_begin : {A B : Type 0} (f : A → Option B) (xs : List A) → Picked f xs 0 []
picked_begin f xs = record { all = refl }

next_picked : {A B : Type 0} (f : A → Option B) (xs : List A) (i : ℕ) (x : A) (o : Option B) → i < length xs
    → x ≡ get_or xs i x → o ≡ f x → filter_map f (drop i xs) ≡ cons_option o (filter_map f (drop (i + 1) xs))
next_picked f xs i x o inside is gives = ap (filter_map f) (opens xs i x inside is) ∙ ap (λ p. cons_option p (filter_map f (drop (i + 1) xs))) (sym gives)

pub picked_none : {A B : Type 0} (f : A → Option B) (xs : List A) (i : ℕ) (list : List B) (x : A) → i < length xs
    → x ≡ get_or xs i x → None ≡ f x → Picked f xs i list → Picked f xs (i + 1) list
picked_none f xs i list x inside is gives w = record { all = sym (ap (λ r. list ++ r) (next_picked f xs i x None inside is gives)) ∙ w.all }

pub picked_more : {A B : Type 0} (f : A → Option B) (xs : List A) (i : ℕ) (list new : List B) (x : A) (y : B)
    → i < length xs → x ≡ get_or xs i x → Some y ≡ f x → new ≡ list ++ y ∷ [] → Picked f xs i list
    → Picked f xs (i + 1) new
picked_more f xs i list new x y inside is gives more w =
    record { all = rw (more, append_assoc) (sym (ap (λ r. list ++ r) (next_picked f xs i x (Some y) inside is gives)) ∙ w.all) }

pub picked_end : {A B : Type 0} (f : A → Option B) (xs : List A) (i : ℕ) (list : List B) → length xs ≤ i → Picked f xs i list → list ≡ filter_map f xs
picked_end f xs i list past w = sym (append-nil list) ∙ ap (λ l. list ++ filter_map f l) (sym (drop_all i xs past)) ∙ w.all

pub ruleset list_picked = (picked_begin, picked_none, picked_more, picked_end)
