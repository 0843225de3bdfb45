-- The points that facts reach, as far as a loop has come.
use Rattle.std.proofs.Common.{◌≡◌, ◌⊎◌, inl, inr, ⊎_elim, ℕ, ◌+◌, ◌<◌, ◌≤◌, List, [], ◌∷◌, ◌++◌}
use Rattle.std.proofs.Common.{Contains, length, take, get_or, Option, Some, None, refl, sym, subst}
use Rattle.std.proofs.lemmas.List.{take_all}
use Rattle.std.proofs.lemmas.List.Elements.{Contains-append_left, Contains-append_right}
use Rattle.plex_num.proofs.Members.{first_is, none_in}
use Rattle.flow_points.specs.declared.fact.Fact.{Fact}
use Rattle.flow_points.specs.declared.fact.Slot.TheVariants.{Depth}
use Rattle.flow_points.specs.Facts.{Facts, fact}
use Rattle.certificate_faults.specs.Reached.{AreReached, CoverReached, HasPoint, IsListed}
use Rattle.certificate_faults.specs.Reached.{IsOfPoint}
use Rattle.certificate_faults.proofs.Firsts.{item_is}
use Rattle.certificate_faults.proofs.Lowered.{which}

-- the fact that was listed last
abbrev pub WasListed : Option Fact → List Fact → Type 0
WasListed None reached = Unit {0}
WasListed (Some d) reached = Contains reached d

pub record Reaches (facts : List Fact) (i : ℕ) (last : Option Fact) (reached : List Fact) : Type 0 where
  pub each : (f : Fact) → Contains (take i facts) f → f.slot ≡ Depth → HasPoint reached f.entry f.point
  pub listed : WasListed last reached

pub reaches_begin : (facts reached : List Fact) → Reaches facts 0 None reached
reaches_begin facts reached = record { each = λ f c depth. absurd (none_in f c); listed = tt }

of_last : (last : Option Fact) (f : Fact) (reached : List Fact) → IsOfPoint last f → WasListed last reached → HasPoint reached f.entry f.point
of_last None f reached is listed = absurd is
of_last (Some d) f reached is listed = record { one = d; among = listed; entry = is.0; point = is.1 }

skipped : (facts : List Fact) (i : ℕ) (f : Fact) (last : Option Fact) (reached : List Fact) → i < length facts
    → f ≡ get_or facts i f → (f.slot ≡ Depth → IsOfPoint last f) → Reaches facts i last reached
    → Reaches facts (i + 1) last reached
skipped facts i f last reached inside is other reaches = record {
  each = λ g c depth. ⊎_elim (λ before. reaches.each g before depth)
      (λ own. subst (λ (h : Fact). HasPoint reached h.entry h.point) (sym own)
      (of_last last f reached (other (subst (λ (h : Fact). h.slot ≡ Depth) own depth)) reaches.listed))
      (which facts i f inside is g c);
  listed = reaches.listed;
}

listed_more : (facts : List Fact) (i : ℕ) (f : Fact) (last : Option Fact) (old : List Fact) → i < length facts
    → f ≡ get_or facts i f → Reaches facts i last old → Reaches facts (i + 1) (Some f) (old ++ f ∷ [])
listed_more facts i f last old inside is reaches = record {
  each = λ g c depth. ⊎_elim (λ before. still (reaches.each g before depth))
      (λ own. subst (λ (h : Fact). HasPoint (old ++ f ∷ []) h.entry h.point) (sym own)
      (record { one = f; among = newest; entry = refl; point = refl })) (which facts i f inside is g c);
  listed = newest;
}
  where
    newest : Contains (old ++ f ∷ []) f
    newest = Contains-append_right old (f ∷ []) f (first_is f [])

    still : {e p : ℕ} → HasPoint old e p → HasPoint (old ++ f ∷ []) e p
    still h = record { one = h.one; among = Contains-append_left old (f ∷ []) h.one h.among; entry = h.entry; point = h.point }

pub reaches_more : (facts : List Fact) (i : ℕ) (d : Fact) (last kept : Option Fact) (old new : List Fact)
    → i < length facts → IsListed last (get_or facts i d) old new kept → Reaches facts i last old
    → Reaches facts (i + 1) kept new
reaches_more facts i d last kept old new inside (inl (other, same, still)) reaches =
    subst (λ l. Reaches facts (i + 1) kept l) (sym same)
    (subst (λ k. Reaches facts (i + 1) k old) (sym still)
    (skipped facts i (get_or facts i d) last old inside (item_is facts i d inside) other reaches))
reaches_more facts i d last kept old new inside (inr (more, now)) reaches =
    subst (λ l. Reaches facts (i + 1) kept l) (sym more)
    (subst (λ k. Reaches facts (i + 1) k (old ++ get_or facts i d ∷ [])) (sym now)
    (listed_more facts i (get_or facts i d) last old inside (item_is facts i d inside) reaches))

pub reaches_end : (facts : List Fact) (i : ℕ) (last : Option Fact) (reached : List Fact) → length facts ≤ i
    → Reaches facts i last reached → AreReached facts reached
reaches_end facts i last reached past reaches = record { each = λ f c depth. reaches.each f (subst (λ l. Contains l f) (sym (take_all i facts past)) c) depth }

pub reached_cover : (P : Facts) (facts reached points : List Fact) → ((f : Fact) → P f → Contains facts f)
    → AreReached facts reached → points ≡ reached → CoverReached P points
reached_cover P facts reached points same are is e p r = subst (λ l. HasPoint l e p) (sym is)
    (are.each (fact e p Depth r.0) (same (fact e p Depth r.0) r.1) refl)
