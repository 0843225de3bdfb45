-- Rows that are found by one access, put together.
use Rattle.std.proofs.Common.{◌≡◌, ◌⊎◌, inl, inr, ⊎_elim, ℕ, Bool, true, false, List, refl, sym}
use Rattle.std.proofs.Common.{subst}
use Rattle.flow_points.specs.declared.fact.Value.{Value}
use Rattle.flow_points.specs.declared.fact.Value.TheVariants.{Any}
use Rattle.entry_summary.specs.declared.summary.Access.{Access}
use Rattle.entry_summary.specs.declared.summary.Access.TheVariants.{Field}
use Rattle.entry_accesses.specs.Adding.{Adds}
use Rattle.pair_tests.specs.Asked.{asks}
use Rattle.pair_tests.specs.Nearby.{near_access}
use Rattle.conflicts_meaning.specs.declared.rows.ClashRow.{ClashRow}
use Rattle.conflict_rows.specs.Near.{ClashesFirst, ClashesLater, IsOfFirst, NearFirst, NearLater}
use Rattle.conflict_rows.specs.Near.{selector_of}
use Rattle.conflict_rows.proofs.Loops.{adds_two}

-- what one that reads gives and one that writes, over any of them
both : (near : Bool → Access) (F : Access → ClashRow → Type 0) (reads writes : Access) (r : ClashRow) → reads ≡ near false → writes ≡ near true
    → (w : Bool) → F (near w) r → F reads r ⊎ F writes r
both near F reads writes r one other false h = inl (subst (λ b. F b r) (sym one) h)
both near F reads writes r one other true h = inr (subst (λ b. F b r) (sym other) h)

pub both_later : (others : List Access) (selector : Value) (place : ℕ) (one reads writes : Access) (old now new : List ClashRow)
    → reads ≡ near_access one false selector → writes ≡ near_access one true selector
    → Adds old now (ClashesLater others reads place one) → Adds now new (ClashesLater others writes place one)
    → Adds old new (NearLater others selector place one)
both_later others selector place one reads writes old now new is_read is_write =
    adds_two (ClashesLater others reads place one) (ClashesLater others writes place one) (NearLater others selector place one) old now new
    (λ r h. record { write = false; clashes = subst (λ b. ClashesLater others b place one r) is_read h })
    (λ r h. record { write = true; clashes = subst (λ b. ClashesLater others b place one r) is_write h })
    (λ r h. both (λ w. near_access one w selector) (λ b q. ClashesLater others b place one q) reads writes r is_read is_write h.write h.clashes)

pub both_first : (ones : List Access) (place : ℕ) (other reads writes : Access) (old now new : List ClashRow)
    → reads ≡ near_access other false Any → writes ≡ near_access other true Any
    → Adds old now (ClashesFirst ones reads place other) → Adds now new (ClashesFirst ones writes place other) → Adds old new (NearFirst ones place other)
both_first ones place other reads writes old now new is_read is_write =
    adds_two (ClashesFirst ones reads place other) (ClashesFirst ones writes place other) (NearFirst ones place other) old now new
    (λ r h. record { write = false; clashes = subst (λ b. ClashesFirst ones b place other r) is_read h })
    (λ r h. record { write = true; clashes = subst (λ b. ClashesFirst ones b place other r) is_write h })
    (λ r h. both (λ w. near_access other w Any) (λ b q. ClashesFirst ones b place other q) reads writes r is_read is_write h.write h.clashes)

-- an access that is of no field has no selector of its own

no_selector : (one : Access) → asks one ≡ false → selector_of one ≡ Any
no_selector (Field w n u) none = cc
no_selector _ none = refl

pub with_any : (others : List Access) (place : ℕ) (one : Access) (old new : List ClashRow) → asks one ≡ false
    → Adds old new (NearLater others Any place one) → Adds old new (IsOfFirst others place one)
with_any others place one old new none h = record {
  each = λ r c. ⊎_elim (λ o. inl o) (λ n. inr (inl n)) (h.each r c);
  kept = h.kept;
  added = λ r g. ⊎_elim (λ n. h.added r n) (λ n. h.added r (subst (λ v. NearLater others v place one r) (no_selector one none) n)) g;
}

pub with_own : (others : List Access) (place : ℕ) (one : Access) (own : Value) (old now new : List ClashRow) → own ≡ selector_of one
    → Adds old now (NearLater others Any place one) → Adds now new (NearLater others own place one) → Adds old new (IsOfFirst others place one)
with_own others place one own old now new is =
    adds_two (NearLater others Any place one) (NearLater others own place one) (IsOfFirst others place one) old now new
    (λ r h. inl h)
    (λ r h. inr (subst (λ v. NearLater others v place one r) is h))
    (λ r h. cases r h)
  where
    cases : (r : ClashRow) → IsOfFirst others place one r → NearLater others Any place one r ⊎ NearLater others own place one r
    cases r (inl h) = inl h
    cases r (inr h) = inr (subst (λ v. NearLater others v place one r) (sym is) h)
