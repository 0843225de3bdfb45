-- Whether one of a list may divide by 0, from a place on.
use Rattle.std.proofs.Common.{◌≡◌, ℕ, ◌+◌, ◌<◌, ◌≤◌, Bool, true, false, ◌||◌, List, length, map}
use Rattle.std.proofs.Common.{drop, get_or, sym, ap, ◌∙◌}
use Rattle.std.specs.List.{list_any}
use Rattle.std.proofs.Math.ListN.{drop_of_length-le}
use Rattle.plex_num.proofs.Lists.{opens}

pub any_more : {A : Type 0} (f : A → Bool) (xs : List A) (i : ℕ) (x : A) (b all : Bool) → i < length xs
    → x ≡ get_or xs i x → b ≡ f x → b ≡ false → list_any (λ t. t) (map f (drop i xs)) ≡ all
    → list_any (λ t. t) (map f (drop (i + 1) xs)) ≡ all
any_more f xs i x b all lt is said none h =
    ap (λ t. t || list_any (λ t. t) (map f (drop (i + 1) xs))) (sym none ∙ said) ∙ ap (λ l. list_any (λ t. t) (map f l)) (sym (opens xs i x lt is)) ∙ h

pub any_found : {A : Type 0} (f : A → Bool) (xs : List A) (i : ℕ) (x : A) (b all : Bool) → i < length xs
    → x ≡ get_or xs i x → b ≡ f x → b ≡ true → list_any (λ t. t) (map f (drop i xs)) ≡ all → true ≡ all
any_found f xs i x b all lt is said found h =
    ap (λ t. t || list_any (λ t. t) (map f (drop (i + 1) xs))) (sym found ∙ said) ∙ ap (λ l. list_any (λ t. t) (map f l)) (sym (opens xs i x lt is)) ∙ h

pub any_none : {A : Type 0} (f : A → Bool) (xs : List A) (i : ℕ) (all : Bool) → length xs ≤ i → list_any (λ t. t) (map f (drop i xs)) ≡ all → false ≡ all
any_none f xs i all past h = ap (λ l. list_any (λ t. t) (map f l)) (sym (drop_of_length-le xs past)) ∙ h
