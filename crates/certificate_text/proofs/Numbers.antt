-- Numbers behind labels.
use Rattle.std.proofs.Common.{◌≡◌, ◌≢◌, ℕ, ◌^◌, ◌<◌, ◌≤◌, List, [], ◌∷◌, ◌++◌, decimal, refl, sym}
use Rattle.std.proofs.Common.{ap, subst, ◌∙◌, arith}
use Rattle.std.proofs.lemmas.Fmt.{decimal_injective}
use Rattle.std.proofs.lemmas.List.{append_cancel_left}
use Rattle.certificate_text.specs.Parts.{IsNumbered}
use Rattle.text_lines.proofs.Cuts.{HasNo-head, HasNo-tail, cut_once}
use Rattle.text_lines.proofs.Numerals.{HasNo-decimal}
use Rattle.text_lines.specs.Parts.{HasNo, IsCut}

-- no number behind the label
abbrev pub NoNumber : List ℕ → ℕ → List ℕ → Type 0
NoNumber label end text = (n : ℕ) (rest : List ℕ) → IsNumbered label n end text rest → ⊥

pub number_here : (text word rest : List ℕ) (n end : ℕ) → IsCut end text word rest → (n < 2 ^ 32) × (word ≡ decimal n) → IsNumbered [] n end text rest
number_here text word rest n end cut is = record { number = is.0; so = cut.so ∙ ap (λ (w : List ℕ). w ++ end ∷ rest) is.1 }

-- the byte stands behind it
end_stands : (end : ℕ) (word rest : List ℕ) → HasNo end (word ++ end ∷ rest) → ⊥
end_stands end [] rest apart = HasNo-head end end rest apart refl
end_stands end (b ∷ word) rest apart = end_stands end word rest (HasNo-tail end b (word ++ end ∷ rest) apart)

pub number_uncut : (text : List ℕ) (end : ℕ) → end < 48 → HasNo end text → NoNumber [] end text
number_uncut text end low apart n rest is = end_stands end (decimal n) rest (subst (HasNo end) is.so apart)

pub number_unsaid : (text word after : List ℕ) (end : ℕ) → end < 48 → IsCut end text word after
    → ((n : ℕ) → n < 2 ^ 32 → word ≢ decimal n) → NoNumber [] end text
number_unsaid text word after end low cut unsaid n rest is =
    unsaid n is.number (cut_once end word (decimal n) (end ∷ after) (end ∷ rest) cut.apart (HasNo-decimal end n low is.number) refl refl (sym cut.so ∙ is.so)).0

pub behind : (label text rest after : List ℕ) (n end : ℕ) → text ≡ label ++ rest → IsNumbered [] n end rest after → IsNumbered label n end text after
behind label text rest after n end so is = record { number = is.number; so = so ∙ ap (λ (r : List ℕ). label ++ r) is.so }

pub other_label : (label text : List ℕ) (end : ℕ) → ((rest : List ℕ) → text ≢ label ++ rest) → NoNumber label end text
other_label label text end other n rest is = other (decimal n ++ end ∷ rest) is.so

pub unsaid_behind : (label text rest : List ℕ) (end : ℕ) → text ≡ label ++ rest → NoNumber [] end rest → NoNumber label end text
unsaid_behind label text rest end so unsaid n after is =
    unsaid n after (record { number = is.number; so = append_cancel_left label rest (decimal n ++ end ∷ after) (sym so ∙ is.so) })

-- a text has one number behind a label
pub numbered_once : (label text rest other : List ℕ) (n m end : ℕ) → end < 48 → IsNumbered label n end text rest
    → IsNumbered label m end text other → (n ≡ m) × (rest ≡ other)
numbered_once label text rest other n m end low a b =
    let tail = append_cancel_left label (decimal n ++ end ∷ rest) (decimal m ++ end ∷ other) (sym a.so ∙ b.so) in
    let cut = cut_once end (decimal n) (decimal m) (end ∷ rest) (end ∷ other) (HasNo-decimal end n low a.number)
    (HasNo-decimal end m low b.number) refl refl tail in
    let small : n < 2 ^ 64 = omega (arith, a.number) in
    let too : m < 2 ^ 64 = omega (arith, b.number) in
    let behind : end ∷ rest ≡ end ∷ other = cut.1 in
    let same : rest ≡ other = cc in
    (decimal_injective n m small too cut.0, same)

abbrev pub NoSmall : List ℕ → ℕ → ℕ → List ℕ → Type 0
NoSmall label below end text = (n : ℕ) (rest : List ℕ) → n < below → IsNumbered label n end text rest → ⊥

pub small_none : (label text : List ℕ) (below end : ℕ) → NoNumber label end text → NoSmall label below end text
small_none label text below end none n rest low is = none n rest is

pub small_large : (label text rest : List ℕ) (m below end : ℕ) → end < 48 → IsNumbered label m end text rest → below ≤ m → NoSmall label below end text
small_large label text rest m below end low there large n after less is =
    let same = (numbered_once label text after rest n m end low is there).0 in
    absurd (omega (arith, same, less, large))

-- the same of texts that are one
pub numbered_same : (label text on rest other : List ℕ) (n m end : ℕ) → end < 48 → text ≡ on
    → IsNumbered label n end text rest → IsNumbered label m end on other → (n ≡ m) × (rest ≡ other)
numbered_same label text on rest other n m end low same a b = numbered_once label text rest other n m end low a
    (subst (λ t. IsNumbered label m end t other) (sym same) b)

pub none_here : (label text on other : List ℕ) (m end : ℕ) → text ≡ on → NoNumber label end text → IsNumbered label m end on other → ⊥
none_here label text on other m end same none b = none m other (subst (λ t. IsNumbered label m end t other) (sym same) b)
