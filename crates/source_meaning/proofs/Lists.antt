-- What holds of each of a list.
use Rattle.std.proofs.Common.{zero, suc, List, [], ◌∷◌, ◌++◌, subst, arith}
use Rattle.std.specs.List.{AllByRecursion, Contains}
use Rattle.std.proofs.lemmas.List.Elements.{Contains-append_left, Contains-append_right}
use Rattle.plex_num.proofs.Members.{first_is, later_is}

pub all_contained : {A : Type 0} (P : A → Type 0) (xs : List A) (x : A) → AllByRecursion P xs → Contains xs x → P x
all_contained P [] x all h = absurd (let lt = h.1 in omega arith)
all_contained P (y ∷ xs) x all (zero, lt, is) = subst P is all.0
all_contained P (y ∷ xs) x all (suc k, lt, is) = all_contained P xs x all.1 (k, (let h = lt in omega arith), is)

-- each of these is one of those
abbrev pub Within : {A : Type 0} → List A → List A → Type 0
Within {A} xs ys = (x : A) → Contains xs x → Contains ys x

pub within_left : {A : Type 0} (xs ys all : List A) → Within (xs ++ ys) all → Within xs all
within_left xs ys all h x at = h x (Contains-append_left xs ys x at)

pub within_right : {A : Type 0} (xs ys all : List A) → Within (xs ++ ys) all → Within ys all
within_right xs ys all h x at = h x (Contains-append_right xs ys x at)

pub all_members : {A : Type 0} (P : A → Type 0) (xs : List A) → ((x : A) → Contains xs x → P x) → AllByRecursion P xs
all_members P [] f = tt
all_members P (x ∷ xs) f = (f x (first_is x xs), all_members P xs (λ y h. f y (later_is x y xs h)))
