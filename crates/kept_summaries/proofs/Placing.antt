-- Summaries in an order, of which equal ones are kept once.
use Rattle.std.proofs.Common.{◌≡◌, ⊎_elim, ℕ, zero, suc, ◌<◌, List, [], ◌∷◌, ◌++◌, length, Some}
use Rattle.std.proofs.Common.{slice_get, refl, sym, ap, ◌∙◌, subst, arith, length-append}
use Rattle.std.specs.Option.{option_to_list}
use Rattle.std.proofs.lemmas.Grind.{flat_map-append}
use Rattle.std.proofs.lemmas.Option.{none-some, same_Some, slice_get_within}
use Rattle.plex_num.proofs.Lists.{get_push, slice_get-append_left, slice_get-append_seam, some_at}
use Rattle.entry_summary.specs.declared.summary.Summary.{Summary}
use Rattle.kept_summaries.specs.declared.summaries.Standing.{Standing}
use Rattle.kept_summaries.specs.Standing.{ArePlaced, IsLike, IsPlaced, in_order, kept_for}

-- something is kept for each that stands in the order
abbrev AreKept : List Summary → List Standing → Type 0
AreKept kept order = (i : ℕ) (s : Standing) → slice_get order i ≡ Some s → s.place < length kept

-- an order, and a list that looks as it

long : (kept : List Summary) (order : List Standing) → AreKept kept order → length (in_order kept order) ≡ length order
long kept [] are = refl
long kept (s ∷ order) are =
    let here = some_at kept s.place (are 0 s refl) in
    let rest = long kept order (λ i t there. are (suc i) t there) in
    ap (λ o. length (option_to_list o ++ in_order kept order)) here.1 ∙ ap suc rest

found : (kept : List Summary) (order : List Standing) (i : ℕ) (s : Standing) → AreKept kept order
    → slice_get order i ≡ Some s → slice_get (in_order kept order) i ≡ slice_get kept s.place
found kept [] i s are there = absurd (none-some s there)
found kept (t ∷ order) zero s are there =
    let here = some_at kept t.place (are 0 t refl) in
    ap (λ o. slice_get (option_to_list o ++ in_order kept order) 0) here.1 ∙ sym here.1 ∙ ap (λ (u : Standing). slice_get kept u.place) (same_Some t s there)
found kept (t ∷ order) (suc i) s are there =
    let here = some_at kept t.place (are 0 t refl) in
    ap (λ o. slice_get (option_to_list o ++ in_order kept order) (suc i)) here.1 ∙ found kept order i s (λ j u at. are (suc j) u at) there

module _ (kept : List Summary) (order : List Standing) (shown : List Summary) (placed : ArePlaced kept order) (shows : in_order kept order ≡ shown) where
  are_kept : AreKept kept order
  are_kept i s there = (placed i s there).within

  pub shown_long : length order ≡ length shown
  shown_long = sym (long kept order are_kept) ∙ ap length shows

  pub within_order : (i : ℕ) → i < length shown → i < length order
  within_order i lt = (let same = shown_long in omega (arith, lt, same))

  pub within_kept : (i : ℕ) (s : Standing) → slice_get order i ≡ Some s → s.place < length kept
  within_kept = are_kept

  pub shown_at : (i : ℕ) (s : Standing) (summary : Summary) → slice_get order i ≡ Some s
      → slice_get kept s.place ≡ Some summary → slice_get shown i ≡ Some summary
  shown_at i s summary there is = ap (λ l. slice_get l i) (sym shows) ∙ found kept order i s are_kept there ∙ is

  pub first_within : (i : ℕ) (s : Standing) → slice_get order i ≡ Some s → s.first < length shown
  first_within i s there = (let p = placed i s there in let lt = slice_get_within order s.first p.other p.there in let
      same = shown_long in omega (arith, lt, same))

  pub first_same : (i : ℕ) (s : Standing) → slice_get order i ≡ Some s → slice_get shown s.first ≡ slice_get shown i
  first_same i s there =
      let p = placed i s there in
      ap (λ l. slice_get l s.first) (sym shows) ∙ found kept order s.first p.other are_kept p.there ∙ ap (slice_get kept) p.same
      ∙ sym (found kept order i s are_kept there) ∙ ap (λ l. slice_get l i) shows

-- lists that stayed as they were

pub same_placed : (kept : List Summary) (order new : List Standing) → new ≡ order → ArePlaced kept order → ArePlaced kept new
same_placed kept order new same placed = subst (ArePlaced kept) (sym same) placed

pub same_kept : (kept new : List Summary) (order : List Standing) → new ≡ kept → ArePlaced kept order → ArePlaced new order
same_kept kept new order same placed = subst (λ (k : List Summary). ArePlaced k order) (sym same) placed

-- one more that is kept

pub kept_more : (kept grown : List Summary) (order : List Standing) (summary : Summary) → grown ≡ kept ++ summary ∷ []
    → ArePlaced kept order → ArePlaced grown order
kept_more kept grown order summary is placed i s there =
    let p = placed i s there in
    let l = ap length is ∙ length-append kept (summary ∷ []) in
    let lt = p.within in
    record { within = omega (arith, lt, l); other = p.other; there = p.there; same = p.same }

shown_more : (kept more : List Summary) (order : List Standing) → AreKept kept order → in_order (kept ++ more) order ≡ in_order kept order
shown_more kept more [] are = refl
shown_more kept more (s ∷ order) are =
    ap (λ o. option_to_list o ++ in_order (kept ++ more) order) (slice_get-append_left kept more s.place (are 0 s refl))
    ∙ ap (λ l. option_to_list (slice_get kept s.place) ++ l) (shown_more kept more order (λ i t there. are (suc i) t there))

-- one more in the order

shown_push : (kept : List Summary) (order new : List Standing) (s : Standing) (summary : Summary)
    → new ≡ order ++ s ∷ [] → slice_get kept s.place ≡ Some summary
    → in_order kept new ≡ in_order kept order ++ summary ∷ []
shown_push kept order new s summary made is =
    ap (in_order kept) made ∙ flat_map-append (kept_for kept) order (s ∷ []) ∙ ap (λ o. in_order kept order ++ (option_to_list o ++ [])) is

stays : (kept : List Summary) (order : List Standing) (s t : Standing) → IsPlaced kept order t → IsPlaced kept (order ++ s ∷ []) t
stays kept order s t p = record {
  within = p.within;
  other = p.other;
  there = slice_get-append_left order (s ∷ []) t.first (slice_get_within order t.first p.other p.there) ∙ p.there;
  same = p.same;
}

placed_push : (kept : List Summary) (order : List Standing) (s : Standing) → ArePlaced kept order
    → IsPlaced kept (order ++ s ∷ []) s → ArePlaced kept (order ++ s ∷ [])
placed_push kept order s placed own i t there =
    ⊎_elim (λ old. stays kept order s t (placed i t old)) (λ now. subst (IsPlaced kept (order ++ s ∷ [])) now.1 own) (get_push order s t i there)

pub like_placed : (kept : List Summary) (order new : List Standing) (summary : Summary) (s : Standing)
    → ArePlaced kept order → IsLike kept order summary s → new ≡ order ++ s ∷ [] → ArePlaced kept new
like_placed kept order new summary s placed like made =
    subst (ArePlaced kept) (sym made) (placed_push kept order s placed (stays kept order s s (placed like.at s like.stands)))

module _ (kept grown : List Summary) (order new : List Standing) (summary : Summary) (s : Standing)
    (placed : ArePlaced kept order) (more : grown ≡ kept ++ summary ∷ []) (place : s.place ≡ length kept)
    (first : s.first ≡ length order) (made : new ≡ order ++ s ∷ []) where
  its_own : slice_get grown s.place ≡ Some summary
  its_own = ap (λ (l : List Summary). slice_get l s.place) more ∙ ap (slice_get (kept ++ summary ∷ [])) place ∙ slice_get-append_seam kept summary []

  new_own : IsPlaced grown (order ++ s ∷ []) s
  new_own = record {
    within = slice_get_within grown s.place summary its_own;
    other = s;
    there = ap (slice_get (order ++ s ∷ [])) first ∙ slice_get-append_seam order s [];
    same = refl;
  }

  pub new_placed : ArePlaced grown new
  new_placed = subst (ArePlaced grown) (sym made) (placed_push grown order s (kept_more kept grown order summary more placed) new_own)

  pub new_shown : (shown : List Summary) → in_order kept order ≡ shown → in_order grown new ≡ shown ++ summary ∷ []
  new_shown shown shows =
      shown_push grown order new s summary made its_own
      ∙ ap (λ l. l ++ summary ∷ []) (ap (λ (k : List Summary). in_order k order) more
      ∙ shown_more kept (summary ∷ []) order (λ i t there. (placed i t there).within) ∙ shows)
