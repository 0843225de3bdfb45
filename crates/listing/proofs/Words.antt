-- Numerals behind spaces.
use Rattle.std.proofs.Common.{◌≡◌, ◌≢◌, ℕ, ◌+◌, ◌<◌, ◌≤◌, Bool, true, false, List, [], ◌∷◌, ◌++◌}
use Rattle.std.proofs.Common.{length, map, Option, Some, None, refl, sym, ap, ◌∙◌, arith}
use Rattle.std.proofs.Common.{append_assoc, append-nil, length-append}
use Rattle.std.specs.Char.{is_ascii_digit, is_ascii_uppercase}
use Rattle.std.specs.List.{flat_map, list_all}
use Rattle.std.specs.Prelude.{if◌then◌else◌}
use Rattle.std.proofs.lemmas.Bool.{and_parts, and_from, true≢false}
use Rattle.std.proofs.lemmas.Bool.Decides.{nat_tests}
use Rattle.std.proofs.lemmas.List.{map-append, length-map}
use Rattle.std.proofs.lemmas.List.Concat.{flat_map-append}
use Rattle.std.proofs.lemmas.List.Folds.{list_all-append}
use Rattle.plex_num.specs.Number.{number_of}
use Rattle.listing.specs.Listing.{spaced}
use Rattle.listing.specs.Parts.{IsNextWord, AreOperands, AreNoOperands}
use Rattle.text_lines.proofs.Cuts.{HasNo-cons, cut_once}
use Rattle.text_lines.specs.Numerals.{begins_rightly, is_numeral}
use Rattle.text_lines.specs.Parts.{HasNo, StartsWith}

digit_is_no : (b end : ℕ) → end < 48 → is_ascii_digit b ≡ true → b ≢ end
digit_is_no b end low h e = absurd (grind (arith, nat_tests))

-- no byte of digits is below those of the digits
pub HasNo-digits : (end : ℕ) (word : List ℕ) → end < 48 → list_all is_ascii_digit word ≡ true → HasNo end word
unfolding HasNo
HasNo-digits end [] low h = refl
HasNo-digits end (b ∷ word) low h =
    let parts = and_parts (is_ascii_digit b) (list_all is_ascii_digit word) h in
    HasNo-cons end b word (digit_is_no b end low parts.0) (HasNo-digits end word low parts.1)

letter_is_no : (b end : ℕ) → end < 65 → is_ascii_uppercase b ≡ true → b ≢ end
letter_is_no b end low h e = absurd (grind (arith, nat_tests))

pub HasNo-letters : (end : ℕ) (word : List ℕ) → end < 65 → list_all is_ascii_uppercase word ≡ true → HasNo end word
unfolding HasNo
HasNo-letters end [] low h = refl
HasNo-letters end (b ∷ word) low h =
    let parts = and_parts (is_ascii_uppercase b) (list_all is_ascii_uppercase word) h in
    HasNo-cons end b word (letter_is_no b end low parts.0) (HasNo-letters end word low parts.1)

pub HasNo-numeral : (end : ℕ) (word : List ℕ) → end < 48 → is_numeral word ≡ true → HasNo end word
unfolding is_numeral
HasNo-numeral end word low h = HasNo-digits end word low (and_parts (begins_rightly word) (list_all is_ascii_digit word) h).1

-- words behind spaces begin with a space
pub spaced_starts : (words : List (List ℕ)) → StartsWith 32 (flat_map spaced words)
spaced_starts [] = tt
spaced_starts (word ∷ words) = refl

-- the first word is the one that stands in front
pub first_word : (word after : List ℕ) (w : List ℕ) (ws : List (List ℕ)) → HasNo 32 word → StartsWith 32 after
    → HasNo 32 w → spaced word ++ after ≡ flat_map spaced (w ∷ ws) → (word ≡ w) × (after ≡ flat_map spaced ws)
first_word word after w ws apart starts other e =
    let same : word ++ after ≡ w ++ flat_map spaced ws = cc in
    cut_once 32 word w after (flat_map spaced ws) apart other starts (spaced_starts ws) same

-- numerals in front are the first of all words
front_words : (seen : List (List ℕ)) (rest : List ℕ) (words : List (List ℕ)) → list_all is_numeral seen ≡ true
    → list_all is_numeral words ≡ true → StartsWith 32 rest → flat_map spaced seen ++ rest ≡ flat_map spaced words
    → (more : List (List ℕ)) × (words ≡ seen ++ more) × (rest ≡ flat_map spaced more)
front_words [] rest words ns nw starts e = (words, refl, e)
front_words (s ∷ seen) rest [] ns nw starts e = let no : ◌≡◌ {A = List ℕ} (32 ∷ (s ++ flat_map spaced seen) ++ rest) [] = e in cc
front_words (s ∷ seen) rest (w ∷ words) ns nw starts e =
    let these = and_parts (is_numeral s) (list_all is_numeral seen) ns in
    let those = and_parts (is_numeral w) (list_all is_numeral words) nw in
    let low : 32 < 48 = omega arith in
    let split : spaced s ++ (flat_map spaced seen ++ rest) ≡ flat_map spaced (w ∷ words) = sym (append_assoc (spaced s) (flat_map spaced seen) rest) ∙ e in
    let cut = first_word s (flat_map spaced seen ++ rest) w words (HasNo-numeral 32 s low these.0)
    (joined_starts seen rest starts) (HasNo-numeral 32 w low those.0) split in
    let more = front_words seen rest words these.1 those.1 starts cut.1 in
    (more.0, ap (λ ws. w ∷ ws) more.1 ∙ ap (λ v. v ∷ seen ++ more.0) (sym cut.0), more.2)
  where
    joined_starts : (seen : List (List ℕ)) (rest : List ℕ) → StartsWith 32 rest → StartsWith 32 (flat_map spaced seen ++ rest)
    joined_starts [] rest starts = starts
    joined_starts (s ∷ seen) rest starts = refl

nothing_left : (words : List (List ℕ)) → [] ≡ flat_map spaced words → words ≡ []
nothing_left [] e = refl
nothing_left (w ∷ words) e = let no : ◌≡◌ {A = List ℕ} [] (32 ∷ w ++ flat_map spaced words) = e in cc

-- bytes are numerals behind spaces in one way
pub words_once : (words more : List (List ℕ)) → list_all is_numeral words ≡ true → list_all is_numeral more ≡ true
    → flat_map spaced words ≡ flat_map spaced more → words ≡ more
words_once words more numerals those e =
    let front = front_words words [] more numerals those tt (append-nil (flat_map spaced words) ∙ e) in
    sym (front.1 ∙ ap (λ ws. words ++ ws) (nothing_left front.0 front.2) ∙ append-nil words)

-- the words so far, and what is left
pub record Goes (bytes rest : List ℕ) (operands : List (Option ℕ)) : Type 0 where
  pub words : List (List ℕ)
  pub numerals : list_all is_numeral words ≡ true
  pub starts : StartsWith 32 rest
  pub so : bytes ≡ flat_map spaced words ++ rest
  pub values : operands ≡ map number_of words

pub goes_begin : (bytes : List ℕ) → StartsWith 32 bytes → Goes bytes bytes []
goes_begin bytes starts = record { words = []; numerals = refl; starts = starts; so = refl; values = refl }

numeral_some : (b : Bool) (value v : Option ℕ) → Some value ≡ (if b then Some v else None) → (b ≡ true) × (value ≡ v)
numeral_some true value v e = (refl, cc)
numeral_some false value v e = cc

numeral_none : (b : Bool) (v : Option ℕ) → ◌≡◌ {A = Option (Option ℕ)} None (if b then Some v else None) → b ≡ false
numeral_none true v e = cc
numeral_none false v e = refl

pub goes_more : (bytes rest word after : List ℕ) (operands more : List (Option ℕ)) (value : Option ℕ)
    → Goes bytes rest operands → IsNextWord rest word after
    → Some value ≡ (if is_numeral word then Some (number_of word) else None) → more ≡ operands ++ value ∷ []
    → Goes bytes after more
goes_more bytes rest word after operands more value g next read pushed =
    let n = numeral_some (is_numeral word) value (number_of word) read in
    record {
      words = g.words ++ word ∷ [];
      numerals = list_all-append is_numeral g.words (word ∷ [])
          ∙ and_from (list_all is_numeral g.words) (list_all is_numeral (word ∷ [])) g.numerals
          (and_from (is_numeral word) true n.0 refl);
      starts = next.starts;
      so = g.so ∙ ap (λ r. flat_map spaced g.words ++ r) next.so
          ∙ sym (append_assoc (flat_map spaced g.words) (spaced word) after)
          ∙ ap (λ t. t ++ after) (ap (λ t. flat_map spaced g.words ++ t) (sym (append-nil (spaced word)))
          ∙ sym (flat_map-append spaced g.words (word ∷ [])));
      values = pushed ∙ ap (λ os. os ++ value ∷ []) g.values ∙ ap (λ v. map number_of g.words ++ v ∷ []) n.1 ∙ sym (map-append number_of g.words (word ∷ []));
    }

pub goes_end : (bytes rest : List ℕ) (operands : List (Option ℕ)) → Goes bytes rest operands → rest ≡ [] → AreOperands bytes operands
goes_end bytes rest operands g none = record {
  words = g.words;
  numerals = g.numerals;
  so = g.so ∙ ap (λ r. flat_map spaced g.words ++ r) none ∙ append-nil (flat_map spaced g.words);
  values = g.values;
}

-- the words that are left are one or more
some_left : (rest word after : List ℕ) (more : List (List ℕ)) → list_all is_numeral more ≡ true
    → IsNextWord rest word after → rest ≡ flat_map spaced more → (0 < length more) × (is_numeral word ≡ true)
some_left rest word after [] n next e = let no : ◌≡◌ {A = List ℕ} (32 ∷ word ++ after) [] = sym next.so ∙ e in cc
some_left rest word after (w ∷ ws) n next e =
    let parts = and_parts (is_numeral w) (list_all is_numeral ws) n in
    let low : 32 < 48 = omega arith in
    let cut = first_word word after w ws next.apart next.starts (HasNo-numeral 32 w low parts.0) (sym next.so ∙ e) in
    (omega arith, ap is_numeral cut.0 ∙ parts.0)

left_over : (bytes rest word after : List ℕ) (operands : List (Option ℕ)) (words : List (List ℕ))
    (g : Goes bytes rest operands) → IsNextWord rest word after → list_all is_numeral words ≡ true
    → bytes ≡ flat_map spaced words → (length g.words < length words) × (is_numeral word ≡ true)
left_over bytes rest word after operands words g next numerals so =
    let front = front_words g.words rest words g.numerals numerals g.starts (sym g.so ∙ so) in
    let both : list_all is_numeral (g.words ++ front.0) ≡ true = ap (list_all is_numeral) (sym front.1) ∙ numerals in
    let these = (and_parts (list_all is_numeral g.words) (list_all is_numeral front.0) (sym (list_all-append is_numeral g.words front.0) ∙ both)).1 in
    let some = some_left rest word after front.0 these next front.2 in
    let sizes : length words ≡ length g.words + length front.0 = ap length front.1 ∙ length-append g.words front.0 in
    (omega (arith, sizes, some.0), some.1)

pub goes_full : (bytes rest word after : List ℕ) (operands : List (Option ℕ)) → Goes bytes rest operands
    → IsNextWord rest word after → 4 ≤ length operands → AreNoOperands bytes
goes_full bytes rest word after operands g next full words numerals few so =
    let left = left_over bytes rest word after operands words g next numerals so in
    let seen : length operands ≡ length g.words = ap length g.values ∙ length-map g.words number_of in
    absurd (omega (arith, left.0, seen, full, few))

pub goes_bad : (bytes rest word after : List ℕ) (operands : List (Option ℕ)) → Goes bytes rest operands
    → IsNextWord rest word after → ◌≡◌ {A = Option (Option ℕ)} None
    (if is_numeral word then Some (number_of word) else None) → AreNoOperands bytes
goes_bad bytes rest word after operands g next read words numerals few so =
    let left = left_over bytes rest word after operands words g next numerals so in
    true≢false (sym left.1 ∙ numeral_none (is_numeral word) (number_of word) read)

-- what a loop over the words uses
pub ruleset words_parted = (goes_begin, goes_more, goes_end, goes_full, goes_bad)
