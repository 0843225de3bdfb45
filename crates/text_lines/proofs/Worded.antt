-- Words of a line, from the front.
use Rattle.std.proofs.Common.{◌≡◌, ℕ, zero, suc, ◌+◌, ◌<◌, true, cond, List, [], ◌∷◌, length, drop}
use Rattle.std.proofs.Common.{take, position, filter, Some, None, refl, sym, ap, ◌∙◌, arith}
use Rattle.std.proofs.lemmas.List.{drop_all}
use Rattle.text_lines.specs.Words.{is_blank, is_some_byte, words}
use Rattle.text_lines.proofs.Splits.{split_at, split_none}

words_cut : (l : List ℕ) (i : ℕ) → position is_blank l ≡ Some i
    → words l ≡ cond (is_some_byte (take i l)) (take i l ∷ words (drop (i + 1) l)) (words (drop (i + 1) l))
unfolding words
words_cut l i at = ap (filter is_some_byte) (split_at is_blank l i at)

pub word_blank : (l rest : List ℕ) (i : ℕ) (all : List (List ℕ)) → position is_blank l ≡ Some i → i ≡ 0 → rest ≡ drop 1 l → words l ≡ all → words rest ≡ all
word_blank l rest i all at first is g =
    let cut : words l ≡ words (drop 1 l) = words_cut l i at
    ∙ ap (λ j. cond (is_some_byte (take j l)) (take j l ∷ words (drop (j + 1) l)) (words (drop (j + 1) l))) first in
    ap words is ∙ sym cut ∙ g

pub word_ended : (l w rest : List ℕ) (i : ℕ) (all : List (List ℕ)) → position is_blank l ≡ Some i → 0 < i → i < length l
    → w ≡ take i l → rest ≡ drop (i + 1) l → words l ≡ all → all ≡ w ∷ words rest
word_ended l w rest i all at some inside front back g =
    sym g ∙ words_cut l i at ∙ ap (λ b. cond b (take i l ∷ words (drop (i + 1) l)) (words (drop (i + 1) l)))
    (begins l i some inside) ∙ ap (λ v. v ∷ words (drop (i + 1) l)) (sym front) ∙ ap (λ v. w ∷ words v) (sym back)
  where
    begins : (l : List ℕ) (i : ℕ) → 0 < i → i < length l → is_some_byte (take i l) ≡ true
    begins [] i some inside = absurd (omega arith)
    begins (x ∷ l) zero some inside = absurd (omega arith)
    begins (x ∷ l) (suc i) some inside = refl

pub word_none : (l : List ℕ) (all : List (List ℕ)) → length l ≡ 0 → words l ≡ all → all ≡ []
unfolding words
word_none [] all e g = sym g
word_none (x ∷ l) all e g = absurd (omega arith)

pub word_last : (l rest : List ℕ) (all : List (List ℕ)) → (length l ≡ 0 → ⊥) → position is_blank l ≡ None
    → rest ≡ drop (length l) l → words l ≡ all → all ≡ l ∷ words rest
unfolding words
word_last [] rest all some none is g = absurd (some refl)
word_last (x ∷ l) rest all some none is g =
    let n : words rest ≡ [] = ap words (is ∙ drop_all (length (x ∷ l)) (x ∷ l) (omega arith)) in
    sym g ∙ ap (filter is_some_byte) (split_none is_blank (x ∷ l) none) ∙ ap (λ r. (x ∷ l) ∷ r) (sym n)
