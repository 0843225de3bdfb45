-- A name that is new among those before it.
use Rattle.std.proofs.Common.{◌≡◌, ℕ, false, List, [], ◌∷◌, ◌++◌, ap, ◌∙◌, if◌then◌else◌}
use Rattle.std.specs.List.{list_any}
use Rattle.std.specs.Str.{bytes_eq}

-- a new name goes last
pub added_last : (keys names new : List (List ℕ)) (name copy : List ℕ) → keys ≡ names
    → list_any (bytes_eq name) names ≡ false → copy ≡ name
    → new ≡ (if list_any (bytes_eq copy) keys then keys else keys ++ copy ∷ []) → new ≡ names ++ name ∷ []
added_last keys names new name copy same absent is all =
    all ∙ (λ i. if list_any (bytes_eq (is i)) (same i) then same i else same i ++ is i ∷ []) ∙ ap (λ b. if b then names else names ++ name ∷ []) absent
