-- One more number, or none.
use Rattle.std.proofs.Common.{◌≡◌, ◌↔◌, ℕ, zero, suc, Bool, true, false, List, [], ◌∷◌, ◌++◌, map}
use Rattle.std.proofs.Common.{Option, Some, None, sym, ◌∙◌, subst, IsTrue}
use Rattle.std.specs.Prelude.{option_and_then, slice_get}
use Rattle.std.specs.List.{Contains}
use Rattle.std.proofs.lemmas.Bool.{true≢false}
use Rattle.std.proofs.lemmas.Option.{none-some, same_Some}
use Rattle.plex_num.proofs.Lists.{got_map}
use Rattle.exchange_model.specs.declared.exchange.Exchange.{Exchange}
use Rattle.flow_table.specs.declared.place.PlaceAt.{PlaceAt}
use Rattle.flow_table.specs.Texts.{seen}
use Rattle.entry_summary.specs.declared.summary.Access.{Access}
use Rattle.entry_accesses.specs.Adding.{Adds}
use Rattle.entry_accesses.proofs.Adding.{push_adds}
use Rattle.conflicts_meaning.specs.declared.rows.GivenAt.{GivenAt}
use Rattle.conflict_rows.proofs.Loops.{adds_nothing}
use Rattle.entry_additions.specs.declared.cells.CellKind.{CellKind}
use Rattle.entry_additions.specs.Cells.{listed_by, number_in}
use Rattle.entry_additions.specs.Others.{IsAlone, IsOther}
use Rattle.entry_additions.specs.Sums.{adds}

-- there is no statement at this index
none_mapped : {A B : Type 0} (f : A → B) (xs : List A) (i : ℕ) → slice_get xs i ≡ None → (y : B) → slice_get (map f xs) i ≡ Some y → ⊥
none_mapped f [] i none y some = none-some y some
none_mapped f (x ∷ xs) zero none y some = none-some x (sym none)
none_mapped f (x ∷ xs) (suc i) none y some = none_mapped f xs i none y some

module _ (x : Exchange) (places : List PlaceAt) (accesses : List Access) (k : CellKind) (r : GivenAt) (o : Option ℕ)
    (old : List ℕ) (is : o ≡ option_and_then (number_in k) (slice_get accesses r.number)) where
  abbrev Other : ℕ → Type 0
  Other number = IsOther x (map seen places) accesses k r number

  pub no_number : o ≡ None → Adds old old Other
  no_number none = adds_nothing Other old (λ n h. none-some n (sym none ∙ is ∙ h.is))

  pub no_place : (p : Option PlaceAt) → p ≡ slice_get places r.point → p ≡ None → Adds old old Other
  no_place p at none = adds_nothing Other old (λ n h. none_mapped seen places r.point (sym at ∙ none) h.at h.stands)

  module _ (number : ℕ) (some : o ≡ Some number) (p : Option PlaceAt) (at : p ≡ slice_get places r.point)
      (place : PlaceAt) (here : p ≡ Some place) (b : Bool)
      (said : b ≡ adds x place.block k number (seen place).layer) where
    stands : slice_get (map seen places) r.point ≡ Some (seen place)
    stands = got_map seen places r.point place (sym at ∙ here)

    pub is_added : b ≡ true → Adds old old Other
    is_added true_is = adds_nothing Other old (λ n h. (
        let same : number ≡ n = same_Some number n (sym some ∙ is ∙ h.is) in
        let there : seen place ≡ h.at = same_Some (seen place) h.at (sym stands ∙ h.stands) in
        let so : adds x h.at.block k n h.at.layer ≡ true = (λ i. adds x (sym there i).block k (sym same i) (sym there i).layer) ∙ sym said ∙ true_is in
        true≢false (sym so ∙ h.adds_not)))

    pub other_pushed : (new : List ℕ) → b ≡ false → new ≡ old ++ number ∷ [] → Adds old new Other
    other_pushed new false_is made =
        push_adds old new number Other made
        (λ n same. subst Other same (record { is = sym is ∙ some; at = seen place; stands = stands; adds_not = sym said ∙ false_is }))
        (λ n h. same_Some number n (sym some ∙ is ∙ h.is))

module _ (others : List ℕ) (k : CellKind) (access : Access) (o : Option ℕ) (old : List ℕ) (is : o ≡ listed_by k access) where
  pub not_listed : o ≡ None → (place : ℕ) → Adds old old (IsAlone others k place access)
  not_listed none place = adds_nothing (IsAlone others k place access) old (λ n h. none-some n (sym none ∙ is ∙ h.lists))

  pub not_alone : (number : ℕ) (b : Bool) → o ≡ Some number → (IsTrue b ↔ Contains others number) → b ≡ true
      → (place : ℕ) → Adds old old (IsAlone others k place access)
  not_alone number b some among true_is place =
      adds_nothing (IsAlone others k place access) old
      (λ n h. h.none (subst (Contains others) (same_Some number n (sym some ∙ is ∙ h.lists)) (among.0 true_is)))

  pub alone_pushed : (number : ℕ) (b : Bool) (new : List ℕ) → o ≡ Some number → (IsTrue b ↔ Contains others number)
      → b ≡ false → new ≡ old ++ number ∷ [] → (place : ℕ) → Adds old new (IsAlone others k place access)
  alone_pushed number b new some among false_is made place =
      push_adds old new number (IsAlone others k place access) made
      (λ n same. subst (IsAlone others k place access) same (record { lists = sym is ∙ some; none = λ c. true≢false (sym (among.1 c) ∙ false_is) }))
      (λ n h. same_Some number n (sym some ∙ is ∙ h.lists))
