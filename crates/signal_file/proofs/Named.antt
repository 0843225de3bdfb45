-- Lists of names, and of what has a name.
use Rattle.std.proofs.Common.{◌≡◌, ℕ, false, List, [], ◌∷◌, ◌++◌, map, sym, ap, ◌∙◌}
use Rattle.std.specs.Prelude.{if◌then◌else◌}
use Rattle.std.specs.List.{list_any}
use Rattle.std.specs.Str.{bytes_eq}
use Rattle.std.proofs.lemmas.List.{map-append}
use Rattle.plex_num.proofs.Lists.{any_map}

-- a new name goes last
pub added_last : {K : Type 0} (items : K → List ℕ) (keys new : List K) (value : K) (name : List ℕ)
    → list_any (bytes_eq name) (map items keys) ≡ false → items value ≡ name
    → new ≡ (if list_any (λ k. bytes_eq (items value) (items k)) keys then keys else keys ++ value ∷ [])
    → map items new ≡ map items keys ++ name ∷ []
added_last items keys new value name absent is all =
    let none : list_any (λ k. bytes_eq (items value) (items k)) keys
    ≡ false = sym (any_map items (bytes_eq (items value)) keys)
    ∙ ap (λ n. list_any (bytes_eq n) (map items keys)) is ∙ absent in
    ap (map items) (all ∙ ap (λ b. if b then keys else keys ++ value ∷ []) none) ∙ map-append items keys (value ∷ []) ∙ ap (λ n. map items keys ++ n ∷ []) is
