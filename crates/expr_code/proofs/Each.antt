-- What holds of each of a list.
use Rattle.std.proofs.Common.{List, [], ◌∷◌}
use Rattle.std.specs.List.{AllByRecursion}

-- each has a further fact
pub all_fit : {A : Type 0} (P Q : A → Type 0) (xs : List A) → AllByRecursion (λ x. P x → Q x) xs → AllByRecursion P xs → AllByRecursion Q xs
all_fit P Q [] all fit = tt
all_fit P Q (x ∷ xs) all fit = (all.0 fit.0, all_fit P Q xs all.1 fit.1)
