-- Parts, of which one more is kept, or shown.
use Rattle.std.proofs.Common.{◌≡◌, ℕ, suc, List, [], ◌∷◌, ◌++◌, length, None, Some, slice_get, refl}
use Rattle.std.proofs.Common.{sym, ap, ◌∙◌}
use Rattle.std.specs.Option.{option_map, unwrap_or}
use Rattle.std.proofs.lemmas.List.{map-append}
use Rattle.std.proofs.lemmas.Option.{same_Some, slice_get-map}
use Rattle.plex_num.proofs.Lists.{got_map, slice_get-append_left, slice_get-append_seam}
use Rattle.text_parts.specs.Parts.{ArePlaced, part_at, shown}

-- one more that is kept
shown_more : (kept more : List (List ℕ)) (order : List ℕ) → ArePlaced kept order → shown (kept ++ more) order ≡ shown kept order
shown_more kept more [] placed = refl
shown_more kept more (place ∷ order) placed =
    ap (λ o. unwrap_or o [] ∷ shown (kept ++ more) order) (slice_get-append_left kept more place (placed 0 place refl))
    ∙ ap (λ l. part_at kept place ∷ l) (shown_more kept more order (λ i p there. placed (suc i) p there))

-- one more in the order

shown_push : (kept : List (List ℕ)) (order new : List ℕ) (place : ℕ) (part : List ℕ) → new ≡ order ++ place ∷ []
    → slice_get kept place ≡ Some part → shown kept new ≡ shown kept order ++ part ∷ []
shown_push kept order new place part made there =
    ap (shown kept) made ∙ map-append (part_at kept) order (place ∷ []) ∙ ap (λ o. shown kept order ++ unwrap_or o [] ∷ []) there

pub added_shown : (kept grown : List (List ℕ)) (order new : List ℕ) (part : List ℕ) (place : ℕ) → ArePlaced kept order
    → place ≡ length kept → grown ≡ kept ++ part ∷ [] → new ≡ order ++ place ∷ []
    → (old : List (List ℕ)) → shown kept order ≡ old → shown grown new ≡ old ++ part ∷ []
added_shown kept grown order new part place placed is more made old shows =
    let its_own : slice_get grown place ≡ Some part = ap (λ (l : List (List ℕ)). slice_get l place) more
    ∙ ap (slice_get (kept ++ part ∷ [])) is ∙ slice_get-append_seam kept part [] in
    shown_push grown order new place part made its_own
    ∙ ap (λ l. l ++ part ∷ []) (ap (λ (k : List (List ℕ)). shown k order) more ∙ shown_more kept (part ∷ []) order placed ∙ shows)

-- one of those that are shown, once more
pub again_shown : (kept : List (List ℕ)) (order new : List ℕ) (i place : ℕ) → slice_get order i ≡ Some place → new ≡ order ++ place ∷ []
    → (old : List (List ℕ)) → shown kept order ≡ old → (part : List ℕ) → slice_get old i ≡ Some part → shown kept new ≡ old ++ part ∷ []
again_shown kept order new i place there made old shows part here =
    let is : part_at kept place ≡ part = same_Some (part_at kept place) part
    (sym (got_map (part_at kept) order i place there) ∙ ap (λ (l : List (List ℕ)). slice_get l i) shows ∙ here) in
    ap (shown kept) made ∙ map-append (part_at kept) order (place ∷ []) ∙ ap (λ l. l ++ part_at kept place ∷ []) shows ∙ ap (λ p. old ++ p ∷ []) is

-- what stands at a place among those that are shown

pub shown_at : (kept all : List (List ℕ)) (order : List ℕ) (i place : ℕ) → slice_get order i ≡ Some place
    → shown kept order ≡ all → part_at kept place ≡ part_at all i
shown_at kept all order i place there shows =
    sym (ap (λ o. unwrap_or o []) (got_map (part_at kept) order i place there)) ∙ ap (λ (l : List (List ℕ)). part_at l i) shows

pub shown_past : (kept all : List (List ℕ)) (order : List ℕ) (i : ℕ) → slice_get order i ≡ None → shown kept order ≡ all → [] ≡ part_at all i
shown_past kept all order i past shows =
    sym (ap (λ o. unwrap_or (option_map (part_at kept) o) []) past)
    ∙ sym (ap (λ o. unwrap_or o []) (slice_get-map (part_at kept) order i))
    ∙ ap (λ (l : List (List ℕ)). part_at l i) shows
