-- The parts of a text, one after the other.
use Rattle.std.proofs.Common.{◌≡◌, ℕ, List, [], ◌∷◌, ◌++◌, length, sym, ap, ◌∙◌, append_assoc}
use Rattle.std.proofs.Common.{append-nil}
use Rattle.std.specs.List.{concat}
use Rattle.std.proofs.lemmas.List.{nil_from_length}
use Rattle.std.proofs.lemmas.List.Folds.{concat-append}

-- one part more
pub joined_more : (old new : List (List ℕ)) (part : List ℕ) → new ≡ old ++ part ∷ [] → concat new ≡ concat old ++ part
joined_more old new part made = ap concat made ∙ concat-append old (part ∷ []) ∙ ap (λ t. concat old ++ t) (append-nil part)

-- an empty part is none
pub none_added : (text part : List ℕ) → length part ≡ 0 → text ≡ text ++ part
none_added text part none = sym (ap (λ t. text ++ t) (nil_from_length part none) ∙ append-nil text)

-- nothing behind the parts
pub joined_none : (parts : List (List ℕ)) (last : List ℕ) → last ≡ [] → concat parts ++ last ≡ concat parts
joined_none parts last none = ap (λ t. concat parts ++ t) none ∙ append-nil (concat parts)

-- the end is a part of its own
pub closed : (old new : List (List ℕ)) (part last next : List ℕ) → part ≡ last → new ≡ old ++ part ∷ [] → next ≡ [] → concat new ++ next ≡ concat old ++ last
closed old new part last next is made none = joined_none new next none ∙ joined_more old new part made ∙ ap (λ t. concat old ++ t) is

-- the end is no longer there
pub end_taken : (front last none : List ℕ) → none ≡ [] → front ++ last ≡ (front ++ none) ++ last
end_taken front last none is = sym (ap (λ t. t ++ last) (ap (λ t. front ++ t) is ∙ append-nil front))

-- an end that was taken, and is longer when it is put back
pub put_back : (old rest end longer more new : List ℕ) → old ≡ rest ++ end → longer ≡ end ++ more → new ≡ rest ++ longer → new ≡ old ++ more
put_back old rest end longer more new taken wrote put = put ∙ ap (λ t. rest ++ t) wrote ∙ sym (append_assoc rest end more) ∙ ap (λ t. t ++ more) (sym taken)
