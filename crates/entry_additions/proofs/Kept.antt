-- What a filter keeps.
use Rattle.std.proofs.Common.{◌≡◌, ⊎_elim, Bool, true, false, cond, List, [], ◌∷◌, filter, sym, ap}
use Rattle.std.proofs.Common.{◌∙◌, subst, refl}
use Rattle.std.specs.List.{Contains}
use Rattle.plex_num.proofs.Members.{first_is, first_or_later, later_is, none_in}

pub kept_only : {A : Type 0} (p : A → Bool) (xs : List A) (a : A) → Contains (filter p xs) a → Contains xs a × (p a ≡ true)
kept_only p [] a c = absurd (none_in a c)
kept_only p (x ∷ xs) a c = by (p x) refl c (kept_only p xs a)
  where
    by : (b : Bool) → p x ≡ b → Contains (cond b (x ∷ filter p xs) (filter p xs)) a
        → (Contains (filter p xs) a → Contains xs a × (p a ≡ true)) → Contains (x ∷ xs) a × (p a ≡ true)
    by true is here rest = ⊎_elim
        (λ same. (subst (Contains (x ∷ xs)) same (first_is x xs), ap p (sym same) ∙ is))
        (λ later. (let r = rest later in (later_is x a xs r.0, r.1)))
        (first_or_later x a (filter p xs) here)
    by false is here rest = (let r = rest here in (later_is x a xs r.0, r.1))
