-- An exchange has one shape.
use Rattle.std.proofs.Common.{◌≡◌, ℕ, suc, List, [], ◌∷◌, length, Some, slice_get, refl, sym, ap}
use Rattle.std.proofs.Common.{◌∙◌, arith}
use Rattle.std.proofs.lemmas.Option.{same_Some, none-some}
use Rattle.exchange_model.specs.declared.exchange.Exchange.{Exchange}
use Rattle.flow_points.specs.Places.{Place}
use Rattle.flow_table.specs.Texts.{ArePlaces}
use Rattle.certificate_text.specs.declared.certificate.Shape.{Shape}
use Rattle.certificate_meaning.specs.Shapes.{HasReferences, IsShapeOf, referring}

same_items : {A : Type 0} (xs ys : List A) → length xs ≡ length ys → ((i : ℕ) (a : A) → slice_get xs i ≡ Some a → slice_get ys i ≡ Some a) → xs ≡ ys
same_items [] [] long each = refl
same_items [] (y ∷ ys) long each = absurd (omega (arith, long))
same_items (x ∷ xs) [] long each = absurd (none-some x (each 0 x refl))
same_items (x ∷ xs) (y ∷ ys) long each =
    ap (λ z. z ∷ xs) (sym (same_Some y x (each 0 x refl)))
    ∙ ap (λ zs. y ∷ zs) (same_items xs ys (omega (arith, long)) (λ i a there. each (suc i) a there))

same_places : (x : Exchange) (ps qs : List Place) → ArePlaces x ps → ArePlaces x qs → ps ≡ qs
same_places x ps qs one other = same_items ps qs (one.each_point ∙ sym other.each_point) (λ i at there. other.listed i at (one.stands i at there))

same_count : (x : Exchange) (n m : ℕ) → HasReferences x n → HasReferences x m → n ≡ m
same_count x n m one other = one.so ∙ ap referring (same_places x one.places other.places one.all other.all) ∙ sym other.so

pub same_shape : (x : Exchange) (s t : Shape) → IsShapeOf x s → IsShapeOf x t → s ≡ t
same_shape x s t one other =
    let signals : s.signals ≡ t.signals = one.signals ∙ sym other.signals in
    let blocks : s.blocks ≡ t.blocks = one.blocks ∙ sym other.blocks in
    let points : s.points ≡ t.points = one.points ∙ sym other.points in
    let cells : s.cells ≡ t.cells = one.cells ∙ sym other.cells in
    let entries : s.entries ≡ t.entries = one.entries ∙ sym other.entries in
    let references : s.references ≡ t.references = same_count x s.references t.references one.references other.references in
    λ i. record { signals = signals i; blocks = blocks i; points = points i; cells = cells i; entries = entries i; references = references i }
