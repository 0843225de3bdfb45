-- The facts of the numbers of a slot, as they are read from words.
use Rattle.std.proofs.Common.{◌≡◌, ℕ, ◌+◌, ◌-◌, ◌*◌, ◌^◌, ◌<◌, ◌≤◌, Bool, true, false, cond, eqb}
use Rattle.std.proofs.Common.{List, [], ◌∷◌, ◌++◌, length, get_or, Option, None, Some, Bor, refl}
use Rattle.std.proofs.Common.{sym, ap, ◌∙◌, append-nil, append_assoc, w64}
use Rattle.std.specs.Prelude.{MatchOption}
use Rattle.std.specs.Int.{bit_at, leading_zeros, trailing_zeros}
use Rattle.std.proofs.lemmas.List.{map-append}
use Rattle.flow_points.specs.declared.fact.Fact.{Fact}
use Rattle.flow_points.specs.declared.fact.Value.{Value}
use Rattle.flow_points.specs.Facts.{fact}
use Rattle.fact_rows.specs.declared.keys.Key.{Key}
use Rattle.fact_rows.specs.declared.planes.Planes.{Planes}
use Rattle.fact_rows.specs.Numbers.{AreWordsOf, bit_number, bits_of, numbers}
use Rattle.fact_rows.specs.Spread.{AreWordsAt, IsSound, row_of}
use Rattle.fact_rows.specs.Touched.{facts_at}
use Rattle.fact_rows.specs.Values.{value_in}
use Rattle.fact_rows.proofs.Numbering.{below, below_all, below_begin, below_more, below_none}
use Rattle.fact_rows.proofs.Numbering.{bits_begin, bits_end, bits_more}
use Rattle.fact_rows.proofs.Spreading.{words_fit}

-- the words of a set of a row are those of a slot
pub set_words : (p : Planes) (i : ℕ) (ns : List ℕ) (o : Option (Bor (List ℕ))) → IsSound p → get_or (row_of p) i [] ≡ ns
    → MatchOption o ([] ≡ get_or (row_of p) i []) (λ words. AreWordsAt p i words.now)
    → MatchOption o ([] ≡ ns) (λ words. AreWordsOf ns words.now)
set_words p i ns None sound same h = h ∙ same
set_words p i ns (Some words) sound same h = record { is = h.is ∙ same; few = words_fit p i words.now sound h }

pub words_few : (ns words : List ℕ) → AreWordsOf ns words → 64 * length words ≤ 2 ^ 32
words_few ns words are = are.few

module _ (e : ℕ) (k : Key) where
  pub none_shown : (ns : List ℕ) (old : List Fact) → [] ≡ ns → old ≡ old ++ facts_at e k ns
  none_shown ns old none = sym (append-nil old) ∙ ap (λ l. old ++ facts_at e k l) none

  pub words_shown : (ns words : List ℕ) (old new : List Fact) → AreWordsOf ns words → new ≡ old ++ facts_at e k (numbers words) → new ≡ old ++ facts_at e k ns
  words_shown ns words old new are is = is ∙ ap (λ l. old ++ facts_at e k l) are.is

  both : (ns ms : List ℕ) → facts_at e k (ns ++ ms) ≡ facts_at e k ns ++ facts_at e k ms
  both ns ms = map-append (λ n. fact e k.point k.slot (value_in k.slot n)) ns ms

  -- some numbers more
  more : (ns ms all : List ℕ) (old now new : List Fact) → now ≡ old ++ facts_at e k ns → new ≡ now ++ facts_at e k ms
      → ns ++ ms ≡ all → new ≡ old ++ facts_at e k all
  more ns ms all old now new before is joined =
      is ∙ ap (λ l. l ++ facts_at e k ms) before ∙ append_assoc old (facts_at e k ns) (facts_at e k ms)
      ∙ ap (λ l. old ++ l) (sym (both ns ms)) ∙ ap (λ l. old ++ facts_at e k l) joined

  -- those of a bit
  pub bit_pushed : (word first b : ℕ) (t : Bool) (v : Value) (old new : List Fact) → t ≡ eqb (bit_at word b) 1
      → t ≡ true → v ≡ value_in k.slot (first + b) → new ≡ old ++ fact e k.point k.slot v ∷ []
      → new ≡ old ++ facts_at e k (bit_number word first b)
  bit_pushed word first b t v old new tells on made is =
      is ∙ ap (λ w. old ++ fact e k.point k.slot w ∷ []) made ∙ ap (λ u. old ++ facts_at e k (cond u ((first + b) ∷ []) [])) (sym on ∙ tells)

  pub no_bit : (word first b : ℕ) (t : Bool) (old : List Fact) → t ≡ eqb (bit_at word b) 1 → t ≡ false → old ≡ old ++ facts_at e k (bit_number word first b)
  no_bit word first b t old tells off = sym (append-nil old) ∙ ap (λ u. old ++ facts_at e k (cond u ((first + b) ∷ []) [])) (sym off ∙ tells)

  -- those of a word
  pub word_begin : (word first : ℕ) (old : List Fact) → word < 2 ^ 64 → (word ≡ 0 → ⊥)
      → old ≡ old ++ facts_at e k (bits_of word first (trailing_zeros w64 word))
  word_begin word first old fits some = none_shown (bits_of word first (trailing_zeros w64 word)) old (bits_begin word first [] fits some)

  pub word_more : (word first b : ℕ) (old now new : List Fact) → now ≡ old ++ facts_at e k (bits_of word first b)
      → new ≡ now ++ facts_at e k (bit_number word first b) → new ≡ old ++ facts_at e k (bits_of word first (b + 1))
  word_more word first b old now new before is =
      more (bits_of word first b) (bit_number word first b) (bits_of word first (b + 1)) old now new before is
      (bits_more word first b [] (bits_of word first b) (bits_of word first b ++ bit_number word first b) refl refl)

  pub word_end : (word first b : ℕ) (old now : List Fact) → word < 2 ^ 64 → 64 - leading_zeros w64 word ≤ b
      → now ≡ old ++ facts_at e k (bits_of word first b) → now ≡ old ++ facts_at e k (bits_of word first 64)
  word_end word first b old now fits past is = is ∙ ap (λ l. old ++ facts_at e k l) (bits_end word first b [] (bits_of word first b) fits past refl)

  -- those of words
  pub words_begin : (words : List ℕ) (old : List Fact) → old ≡ old ++ facts_at e k (below words 0)
  words_begin words old = none_shown (below words 0) old (below_begin words)

  pub words_more : (words : List ℕ) (place : ℕ) (old now new : List Fact)
      → now ≡ old ++ facts_at e k (below words place)
      → new ≡ now ++ facts_at e k (bits_of (get_or words place 0) (64 * place) 64)
      → new ≡ old ++ facts_at e k (below words (place + 1))
  words_more words place old now new before is =
      more (below words place) (bits_of (get_or words place 0) (64 * place) 64) (below words (place + 1)) old now new before is
      (below_more words place (below words place) (below words place ++ bits_of (get_or words place 0) (64 * place) 64) refl refl)

  pub words_none : (words : List ℕ) (place : ℕ) (old now : List Fact) → now ≡ old ++ facts_at e k (below words place)
      → get_or words place 0 ≡ 0 → now ≡ old ++ facts_at e k (below words (place + 1))
  words_none words place old now is none = is ∙ ap (λ l. old ++ facts_at e k l) (below_none words place (below words place) refl none)

  pub words_end : (words : List ℕ) (place : ℕ) (old now : List Fact) → place ≡ length words
      → now ≡ old ++ facts_at e k (below words place) → now ≡ old ++ facts_at e k (numbers words)
  words_end words place old now all is = is ∙ ap (λ l. old ++ facts_at e k l) (below_all words place (below words place) all refl)
