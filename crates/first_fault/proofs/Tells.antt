-- What is told of a text is its first fault, and where nothing is told it has none.
use Rattle.std.proofs.Common.{⊎_elim, ◌≡◌, ℕ, ◌<◌, Bool, List, [], ◌∷◌, ◌++◌, length, take, Option}
use Rattle.std.proofs.Common.{Some, None, refl, sym, ◌∙◌, ap, subst, arith, slice_get, get_or}
use Rattle.std.proofs.Common.{append_assoc, length-append}
use Rattle.std.proofs.lemmas.Option.{same_Some, slice_get_read, slice_get_within}
use Rattle.std.proofs.Math.Seq.{get_or-append_seam, take-append_seam}
use Rattle.std.proofs.lemmas.List.{append-nil, length_push}
use Rattle.std.proofs.lemmas.Bool.{cases_lt}
use Rattle.first_fault.specs.First.{or_else, first_broken, IsFine, IsFirstFault, breaks_at}
use Rattle.first_fault.specs.Told.{on_line, told_from, told, told_parts_from, told_parts, breaks_in}
use Rattle.first_fault.specs.Told.{IsSo as ArePartsSo, HasAll}
use Rattle.first_fault.proofs.First.{FineBelow, fine_none, fine_more, fine_all, first_fault}

goes_on : {E : Type 0} (whole before rest : List E) (e : E) → whole ≡ before ++ e ∷ rest → whole ≡ (before ++ e ∷ []) ++ rest
goes_on whole before rest e is = is ∙ sym (append_assoc before (e ∷ []) rest)

inside_here : {E : Type 0} (whole before rest : List E) (e : E) → whole ≡ before ++ e ∷ rest → length before < length whole
inside_here whole before rest e is = omega (arith, ap length is, length-append before (e ∷ rest))

-- the item after some others
item_here : {E : Type 0} (whole before rest : List E) (e : E) → whole ≡ before ++ e ∷ rest → e ≡ get_or whole (length before) e
item_here whole before rest e is = sym (ap (λ w. get_or w (length before) e) is ∙ get_or-append_seam before e rest e)

stands_here : {E : Type 0} (whole before rest : List E) (e : E) → whole ≡ before ++ e ∷ rest → slice_get whole (length before) ≡ Some e
stands_here whole before rest e is = slice_get_read whole (length whole) (length before) e refl
    (inside_here whole before rest e is) (item_here whole before rest e is)

module _ {E K R : Type 0} (broken : R → K → E → Bool) (rules : List R) (number : R → ℕ) (all : HasAll number rules) (line : E → ℕ) where
  module _ (known : List E → K) (whole : List E) where
    -- what is told is so of the text
    abbrev pub IsSo : Option (R × ℕ) → Type 0
    IsSo None = IsFine (breaks_at broken known whole) whole
    IsSo (Some fault) = IsFirstFault (breaks_at broken known whole) number line whole fault.0 fault.1

    tells_from : (before rest : List E) → whole ≡ before ++ rest
        → FineBelow broken number line known whole (length before)
        → IsSo (told_from broken rules line known before rest)
    unfolding told_from
    tells_from before [] is fine = fine_all broken number line known whole (length before) (omega (arith, ap length is, ap length (append-nil before))) fine
    tells_from before (e ∷ rest) is fine = at_event (first_broken broken rules (known before) e) refl
        (tells_from (before ++ e ∷ []) rest (goes_on whole before rest e is))
      where
        at_event : (o : Option R) → first_broken broken rules (known before) e ≡ o
            → (FineBelow broken number line known whole (length (before ++ e ∷ []))
            → IsSo (told_from broken rules line known (before ++ e ∷ []) rest))
            → IsSo (or_else (on_line (line e) (first_broken broken rules (known before) e))
            (told_from broken rules line known (before ++ e ∷ []) rest))
        at_event (Some rule) h below =
            subst (λ x. IsSo (or_else (on_line (line e) x) (told_from broken rules line known (before ++ e ∷ []) rest))) (sym h)
            (first_fault broken number line known whole rules (known before) (length before) e rule all
            (inside_here whole before rest e is) (item_here whole before rest e is)
            (ap known (sym (ap (take (length before)) is ∙ take-append_seam before (e ∷ rest)))) (sym h) fine)
        at_event None h below =
            subst (λ x. IsSo (or_else (on_line (line e) x) (told_from broken rules line known (before ++ e ∷ []) rest))) (sym h)
            (below (subst (FineBelow broken number line known whole) (sym (length_push before e))
            (fine_more broken number line known whole rules (known before) (length before) e all
            (inside_here whole before rest e is) (item_here whole before rest e is)
            (ap known (sym (ap (take (length before)) is ∙ take-append_seam before (e ∷ rest)))) (sym h) fine)))

    pub tells : IsSo (told broken rules line known whole)
    tells = tells_from [] whole refl (fine_none broken number line known whole)

  module _ (known : List (List E) → List E → List E → K) (parts : List (List E)) where
    -- the parts before a place break no rule
    record PartsFine (place : ℕ) : Type 0 where
      pub each : (p : ℕ) (x : List E) → p < place → slice_get parts p ≡ Some x → IsFine (breaks_in broken number line known parts p x) x

    one_fine : (done rest : List (List E)) (own : List E) → parts ≡ done ++ own ∷ rest
        → IsFine (breaks_at broken (known done own) own) own → PartsFine (length done)
        → PartsFine (length (done ++ own ∷ []))
    one_fine done rest own is own_fine fine = record {
      each = λ p x low at. ⊎_elim (λ below. fine.each p x below at)
          (λ high. last p x (omega (arith, length_push done own)) at) (cases_lt p (length done));
    }
      where
        last : (p : ℕ) (x : List E) → p ≡ length done → slice_get parts p ≡ Some x → IsFine (breaks_in broken number line known parts p x) x
        last p x same at =
            let x_is : own ≡ x = same_Some own x (sym (stands_here parts done rest own is) ∙ ap (slice_get parts) (sym same) ∙ at) in
            let done_is : done ≡ take p parts = sym (ap (λ q. take q parts) same ∙ ap (take (length done)) is ∙ take-append_seam done (own ∷ rest)) in
            subst (λ y. IsFine (breaks_in broken number line known parts p y) y) x_is
            (subst (λ d. IsFine (breaks_at broken (known d own) own) own) done_is own_fine)

    tells_parts_from : (done rest : List (List E)) → parts ≡ done ++ rest → PartsFine (length done)
        → ArePartsSo broken number line known parts (told_parts_from broken rules line known done rest)
    unfolding told_parts_from
    tells_parts_from done [] is fine = record {
      each = λ part own at. fine.each part own
          (omega (arith, slice_get_within parts part own at, ap length is, ap length (append-nil done))) at;
    }
    tells_parts_from done (own ∷ rest) is fine = at_part (told broken rules line (known done own) own) refl
        (tells (known done own) own) (tells_parts_from (done ++ own ∷ []) rest (goes_on parts done rest own is))
      where
        at_part : (o : Option (R × ℕ)) → told broken rules line (known done own) own ≡ o
            → IsSo (known done own) own (told broken rules line (known done own) own)
            → (PartsFine (length (done ++ own ∷ []))
            → ArePartsSo broken number line known parts
            (told_parts_from broken rules line known (done ++ own ∷ []) rest))
            → ArePartsSo broken number line known parts
            (or_else (told broken rules line (known done own) own)
            (told_parts_from broken rules line known (done ++ own ∷ []) rest))
        at_part (Some fault) h so below =
            subst (λ x. ArePartsSo broken number line known parts (or_else x (told_parts_from broken rules line known (done ++ own ∷ []) rest))) (sym h)
            (record {
              part = length done;
              own = own;
              at = stands_here parts done rest own is;
              before = fine.each;
              first = subst (λ d. IsFirstFault (breaks_at broken (known d own) own) number line own fault.0 fault.1)
                  (sym (ap (take (length done)) is ∙ take-append_seam done (own ∷ rest)))
                  (subst (IsSo (known done own) own) h so);
            })
        at_part None h so below =
            subst (λ x. ArePartsSo broken number line known parts (or_else x (told_parts_from broken rules line known (done ++ own ∷ []) rest))) (sym h)
            (below (one_fine done rest own is (subst (IsSo (known done own) own) h so) fine))

    pub tells_parts : ArePartsSo broken number line known parts (told_parts broken rules line known parts)
    tells_parts = tells_parts_from [] parts refl (record { each = λ p x low at. absurd (omega arith) })
