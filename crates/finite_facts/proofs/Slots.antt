-- The slots before a statement, as a list.
use Rattle.std.proofs.Common.{◌≡◌, ◌⊎◌, inl, inr, ℕ, ◌<◌, refl, sym, subst}
use Rattle.exchange_model.specs.declared.exchange.Exchange.{Exchange}
use Rattle.exchange_model.specs.Fits.{retrieved}
use Rattle.flow_points.specs.declared.fact.Slot.{Slot}
use Rattle.flow_points.specs.declared.fact.Slot.TheVariants.{Answered, Awaits, Depth, Given, Temp}
use Rattle.flow_points.specs.Places.{IsPlace, Place}
use Rattle.flow_points.specs.Slots.{HasSlot, IsSlotOf, answer_count, given_count, temp_count}
use Rattle.finite_facts.proofs.Finite.{Listed, IsMadeBelow, listed_as, listed_one, listed_or}
use Rattle.finite_facts.proofs.Finite.{listed_then, listed_when, made, same_number}
use Rattle.finite_facts.proofs.Places.{places}

-- one of so many temporaries, entry values and values of an answer, or one of the other two
abbrev pub AreFirst : (temps given answered : ℕ) → Slot → Type 0
AreFirst temps given answered (Temp t) = t < temps
AreFirst temps given answered (Given k) = k < given
AreFirst temps given answered (Answered k) = k < answered
AreFirst temps given answered Depth = Unit {0}
AreFirst temps given answered Awaits = Unit {0}

module _ (temps given answered : ℕ) where
  abbrev First : Slot → Type 0
  First = AreFirst temps given answered

  abbrev Other : Slot → Type 0
  Other s = (s ≡ Depth) ⊎ (s ≡ Awaits)

  abbrev AnsweredOr : Slot → Type 0
  AnsweredOr s = IsMadeBelow (λ k. Answered k) answered s ⊎ Other s

  abbrev GivenOr : Slot → Type 0
  GivenOr s = IsMadeBelow (λ k. Given k) given s ⊎ AnsweredOr s

  abbrev One : Slot → Type 0
  One s = IsMadeBelow (λ t. Temp t) temps s ⊎ GivenOr s

  to : (s : Slot) → One s → First s
  to s (inl h) = subst First (sym h.2) h.1
  to s (inr (inl h)) = subst First (sym h.2) h.1
  to s (inr (inr (inl h))) = subst First (sym h.2) h.1
  to s (inr (inr (inr (inl is)))) = subst First (sym is) tt
  to s (inr (inr (inr (inr is)))) = subst First (sym is) tt

  from : (s : Slot) → First s → One s
  from (Temp t) h = inl (t, h, refl)
  from (Given k) h = inr (inl (k, h, refl))
  from (Answered k) h = inr (inr (inl (k, h, refl)))
  from Depth h = inr (inr (inr (inl refl)))
  from Awaits h = inr (inr (inr (inr refl)))

  pub first_slots : Listed First
  first_slots =
      listed_as One First to from
      (listed_or (IsMadeBelow (λ t. Temp t) temps) GivenOr (made (λ t. Temp t) temps)
      (listed_or (IsMadeBelow (λ k. Given k) given) AnsweredOr (made (λ k. Given k) given)
      (listed_or (IsMadeBelow (λ k. Answered k) answered) Other (made (λ k. Answered k) answered)
      (listed_or (λ s. s ≡ Depth) (λ s. s ≡ Awaits) (listed_one Depth) (listed_one Awaits)))))

-- by their counts

pub as_first : (temps given answered : ℕ) (P : Slot → Type 0)
    → ((t : ℕ) → t < temps → P (Temp t)) → ((k : ℕ) → k < given → P (Given k)) → ((k : ℕ) → k < answered → P (Answered k)) → P Depth → P Awaits
    → (s : Slot) → AreFirst temps given answered s → P s
as_first temps given answered P of_temp of_given of_answered of_depth of_awaits (Temp t) h = of_temp t h
as_first temps given answered P of_temp of_given of_answered of_depth of_awaits (Given k) h = of_given k h
as_first temps given answered P of_temp of_given of_answered of_depth of_awaits (Answered k) h = of_answered k h
as_first temps given answered P of_temp of_given of_answered of_depth of_awaits Depth h = of_depth
as_first temps given answered P of_temp of_given of_answered of_depth of_awaits Awaits h = of_awaits

module _ (x : Exchange) where
  abbrev OfPlace : Place → Slot → Type 0
  OfPlace p = AreFirst (temp_count x p.block) (given_count x p.block) (answer_count x (retrieved p.layer))

  of_place : (p : Place) (s : Slot) → IsSlotOf x p s → OfPlace p s
  of_place p (Temp t) h = h
  of_place p (Given k) h = h
  of_place p (Answered k) h = h
  of_place p Depth h = h
  of_place p Awaits h = h

  pub slots_of : (p : Place) → Listed (IsSlotOf x p)
  slots_of p =
      listed_as (OfPlace p) (IsSlotOf x p)
      (as_first (temp_count x p.block) (given_count x p.block) (answer_count x (retrieved p.layer)) (IsSlotOf x p) (λ t h. h) (λ k h. h) (λ k h. h) tt tt)
      (of_place p) (first_slots (temp_count x p.block) (given_count x p.block) (answer_count x (retrieved p.layer)))

  pub slots_at : (q : ℕ) → Listed (HasSlot x q)
  slots_at q =
      listed_as (λ s. (p : Place) × IsPlace x p × ((p.point ≡ q) × IsSlotOf x p s)) (HasSlot x q)
      (λ s h. record { place = h.0; stands = record { place = h.1; here = h.2.0 }; slot = h.2.1 })
      (λ s h. (h.place, h.stands.place, (h.stands.here, h.slot)))
      (listed_then (IsPlace x) (λ p s. (p.point ≡ q) × IsSlotOf x p s) (places x)
      (λ p is. listed_when (p.point ≡ q) (IsSlotOf x p) (same_number p.point q) (λ here. slots_of p)))
