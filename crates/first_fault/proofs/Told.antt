-- A pass over a text tells what the text is refused with.
use Rattle.std.proofs.Common.{◌≡◌, ℕ, ◌+◌, ◌<◌, ◌≤◌, Bool, List, [], ◌∷◌, ◌++◌, length, take, drop}
use Rattle.std.proofs.Common.{Some, None, refl, sym, ◌∙◌, ap, get_or}
use Rattle.std.proofs.Math.ListN.{drop_of_length-le}
use Rattle.std.proofs.lemmas.List.{at_drop_more}
use Rattle.first_fault.specs.First.{or_else, first_broken}
use Rattle.first_fault.specs.Told.{on_line, told_at, told_from, told, told_parts_from, told_parts}
use Rattle.first_fault.proofs.First.{more_events}

-- what is told of the rest of a list, by the item with which it begins
by_next : {A B : Type 0} (tells : List A → B) (xs : List A) (i : ℕ) (x : A) → i < length xs → x ≡ get_or xs i x
    → tells (drop i xs) ≡ tells (x ∷ drop (i + 1) xs)
by_next tells xs i x inside is = at_drop_more tells xs i x inside ∙ ap (λ y. tells (y ∷ drop (i + 1) xs)) (sym is)

module _ {E K R : Type 0} (broken : R → K → E → Bool) (rules : List R) (line : E → ℕ) where
  module _ (known : List E → K) (whole : List E) where
    -- of the events before a place nothing is told
    pub record Passed (i : ℕ) : Type 0 where
      pub same : told broken rules line known whole ≡ told_from broken rules line known (take i whole) (drop i whole)

    pub passed_none : Passed 0
    passed_none = record { same = refl }

    from_here : (i : ℕ) (k : K) (e : E) → i < length whole → e ≡ get_or whole i e → k ≡ known (take i whole) → Passed i
        → told broken rules line known whole ≡ or_else (told_at broken rules line k e)
        (told_from broken rules line known (take (i + 1) whole) (drop (i + 1) whole))
    unfolding told_from
    from_here i k e inside is t p =
        p.same ∙ by_next (told_from broken rules line known (take i whole)) whole i e inside is
        ∙ ap (λ x. or_else (told_at broken rules line x e) (told_from broken rules line known (take i whole ++ e ∷ []) (drop (i + 1) whole))) (sym t)
        ∙ ap (λ b. or_else (told_at broken rules line k e) (told_from broken rules line known b (drop (i + 1) whole))) (sym (more_events whole i e inside is))

    pub passed_more : (i : ℕ) (k : K) (e : E) → i < length whole → e ≡ get_or whole i e → k ≡ known (take i whole)
        → None ≡ first_broken broken rules k e → Passed i → Passed (i + 1)
    passed_more i k e inside is t none p = record {
      same = from_here i k e inside is t p
          ∙ ap (λ o. or_else (on_line (line e) o)
          (told_from broken rules line known (take (i + 1) whole) (drop (i + 1) whole))) (sym none);
    }

    pub passed_all : (i : ℕ) → length whole ≤ i → Passed i → told broken rules line known whole ≡ None
    unfolding told_from
    passed_all i past p = p.same ∙ ap (told_from broken rules line known (take i whole)) (drop_of_length-le whole past)

    pub told_here : (i : ℕ) (k : K) (e : E) (rule : R) → i < length whole → e ≡ get_or whole i e
        → k ≡ known (take i whole) → Some rule ≡ first_broken broken rules k e → Passed i
        → told broken rules line known whole ≡ Some (rule, line e)
    told_here i k e rule inside is t some p = from_here i k e inside is t p
        ∙ ap (λ o. or_else (on_line (line e) o)
        (told_from broken rules line known (take (i + 1) whole) (drop (i + 1) whole))) (sym some)

  module _ (known : List (List E) → List E → List E → K) (parts : List (List E)) where
    -- of the parts before a place nothing is told
    pub record PartsPassed (i : ℕ) : Type 0 where
      pub same : told_parts broken rules line known parts ≡ told_parts_from broken rules line known (take i parts) (drop i parts)

    pub parts_none : PartsPassed 0
    parts_none = record { same = refl }

    from_part : (i : ℕ) (own : List E) → i < length parts → own ≡ get_or parts i own → PartsPassed i
        → told_parts broken rules line known parts
        ≡ or_else (told broken rules line (known (take i parts) own) own)
        (told_parts_from broken rules line known (take (i + 1) parts) (drop (i + 1) parts))
    unfolding told_parts_from
    from_part i own inside is p =
        p.same ∙ by_next (told_parts_from broken rules line known (take i parts)) parts i own inside is
        ∙ ap (λ b. or_else (told broken rules line (known (take i parts) own) own)
        (told_parts_from broken rules line known b (drop (i + 1) parts))) (sym (more_events parts i own inside is))

    pub parts_more : (i : ℕ) (own : List E) → i < length parts → own ≡ get_or parts i own
        → told broken rules line (known (take i parts) own) own ≡ None → PartsPassed i → PartsPassed (i + 1)
    parts_more i own inside is none p = record {
      same = from_part i own inside is p ∙ ap
          (λ o. or_else o (told_parts_from broken rules line known (take (i + 1) parts) (drop (i + 1) parts))) none;
    }

    pub parts_all : (i : ℕ) → length parts ≤ i → PartsPassed i → told_parts broken rules line known parts ≡ None
    unfolding told_parts_from
    parts_all i past p = p.same ∙ ap (told_parts_from broken rules line known (take i parts)) (drop_of_length-le parts past)

    pub part_told : (i : ℕ) (own : List E) (fault : R × ℕ) → i < length parts → own ≡ get_or parts i own
        → told broken rules line (known (take i parts) own) own ≡ Some fault → PartsPassed i
        → told_parts broken rules line known parts ≡ Some fault
    part_told i own fault inside is some p = from_part i own inside is p
        ∙ ap (λ o. or_else o (told_parts_from broken rules line known (take (i + 1) parts) (drop (i + 1) parts))) some
