-- A list whose last item comes first.
use Rattle.std.proofs.Common.{◌≡◌, ℕ, List, [], ◌∷◌, ◌++◌, Option, Some, None, length, reverse, sym}
use Rattle.std.proofs.Common.{ap, ◌∙◌}
use Rattle.std.specs.Option.{option_to_list}
use Rattle.std.proofs.lemmas.List.{append-nil, reverse-append, length-reverse}
use Rattle.source_meaning.specs.Config.{Caller}

pub length_is : (n : ℕ) (xs : List Caller) → n ≡ length xs → n ≡ length (reverse xs)
length_is n xs is = is ∙ sym (length-reverse xs)

pub last_first : (all xs : List Caller) (x : Caller) → all ≡ xs ++ x ∷ [] → reverse all ≡ x ∷ reverse xs
last_first all xs x is = ap reverse is ∙ reverse-append xs (x ∷ [])

pub last_taken : (all xs : List Caller) (o : Option Caller) → all ≡ xs ++ option_to_list o → reverse all ≡ option_to_list o ++ reverse xs
last_taken all xs None is = ap reverse (is ∙ append-nil xs)
last_taken all xs (Some x) is = last_first all xs x is
