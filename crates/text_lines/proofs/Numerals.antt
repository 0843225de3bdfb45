-- Numerals and the numbers that they say.
use Rattle.std.proofs.Common.{◌≡◌, ◌≢◌, ℕ, ◌+◌, ◌*◌, ◌-◌, ◌^◌, ◌<◌, Bool, true, false, cond, nat_lt}
use Rattle.std.proofs.Common.{nat_le, nat_eq, ◌&&◌, List, [], ◌∷◌, length, map, get_or, Option}
use Rattle.std.proofs.Common.{Some, None, MatchOption, refl, sym, ◌∙◌, ap, subst, arith, decimal}
use Rattle.std.proofs.Common.{◌⊎◌, inl, inr}
use Rattle.std.proofs.lemmas.Bool.{lt-ltb, ltb-true, le-leb, and_parts, and_from, cases_eq}
use Rattle.std.proofs.lemmas.Bool.{eqb-false, ne_eqb, not-true, not_from_false, true≢false}
use Rattle.std.proofs.lemmas.Bool.Decides.{nat_tests}
use Rattle.std.proofs.lemmas.Fmt.{decimal_digit, digits_decimal, digits_value-decimal}
use Rattle.std.proofs.lemmas.Fmt.{decimal-digits_value, length-decimal-le, decimal_nonempty}
use Rattle.std.proofs.lemmas.Fmt.{first_decimal}
use Rattle.std.proofs.lemmas.Str.Parse.{IsDigitsTest, FoldsDigits, IsNumeralModel, numerals_by_fold}
use Rattle.std.specs.Char.{is_ascii_digit}
use Rattle.std.specs.Int.{IsInRange}
use Rattle.std.specs.List.{list_all}
use Rattle.plex_num.specs.Number.{below_2_32, digits_from, number_of}
use Rattle.text_lines.specs.Parts.{HasNo}
use Rattle.text_lines.specs.Numerals.{begins_rightly, is_numeral}
use Rattle.text_lines.proofs.Cuts.{HasNo-cons}

-- bytes that are all digits, and the number that they make after n
Digits : List ℕ → Type 0
Digits [] = Unit {0}
Digits (c ∷ cs) = IsInRange 48 57 c × Digits cs

value : ℕ → List ℕ → ℕ
value n [] = n
value n (c ∷ cs) = value (n * 10 + (c - 48)) cs

the_test : IsDigitsTest Digits
unfolding Digits
the_test = record { empty = tt; parts = λ c cs p. p; more = λ c cs r p. (r, p) }

the_fold : FoldsDigits value
unfolding value
the_fold = record { empty = λ n. refl; more = λ n c cs r. refl }

the_model : IsNumeralModel Digits (value 0)
the_model = numerals_by_fold Digits the_test value the_fold

is_digit : (c : ℕ) → IsInRange 48 57 c → is_ascii_digit c ≡ true
is_digit c r = grind (arith, nat_tests)

in_range : (c : ℕ) → is_ascii_digit c ≡ true → IsInRange 48 57 c
in_range c h = grind (arith, nat_tests)

all_digits : (cs : List ℕ) → Digits cs → list_all is_ascii_digit cs ≡ true
unfolding Digits
all_digits [] d = refl
all_digits (c ∷ cs) d = and_from (is_ascii_digit c) (list_all is_ascii_digit cs) (is_digit c d.0) (all_digits cs d.1)

digits_from_value : (n : ℕ) (cs : List ℕ) → Digits cs → digits_from n cs ≡ Some (value n cs)
unfolding Digits value digits_from
digits_from_value n [] d = refl
digits_from_value n (c ∷ cs) d = rw (is_digit c d.0) (digits_from_value (n * 10 + (c - 48)) cs d.1)

-- what makes a number is digits
are_digits : (n m : ℕ) (cs : List ℕ) → digits_from n cs ≡ Some m → Digits cs
unfolding Digits digits_from
are_digits n m [] e = tt
are_digits n m (c ∷ cs) e = at (is_ascii_digit c) refl (are_digits (n * 10 + (c - 48)) m cs) e
  where
    at : (b : Bool) → is_ascii_digit c ≡ b → (digits_from (n * 10 + (c - 48)) cs ≡ Some m → Digits cs)
        → cond b (digits_from (n * 10 + (c - 48)) cs) None ≡ Some m → IsInRange 48 57 c × Digits cs
    at true digit rest e = (in_range c digit, rest e)
    at false digit rest e = cc

pub number_of-decimal : (n : ℕ) → n < 2 ^ 32 → number_of (decimal n) ≡ Some n
unfolding number_of
number_of-decimal n h =
    let wide : n < 2 ^ 64 = omega arith in
    let e : digits_from 0 (decimal n) ≡ Some n = digits_from_value 0 (decimal n) (digits_decimal the_model n wide)
    ∙ ap (λ v. Some v) (digits_value-decimal the_model n wide) in
    rw (
      lt-ltb 0 (length (decimal n)) (decimal_nonempty n wide),
      le-leb (length (decimal n)) 10
          (length-decimal-le 10 n (omega arith) (omega arith) wide),
      e,
      lt-ltb n (2 ^ 32) h,
    ) refl

-- a list that begins so has no leading zero
begins_so : (ds : List ℕ) → 0 < length ds → 48 < get_or ds 0 0 → begins_rightly ds ≡ true
begins_so [] some high = absurd (omega arith)
begins_so (b ∷ []) some high = refl
begins_so (b ∷ c ∷ rest) some high = not_from_false (nat_eq b 48) (ne_eqb b 48 (λ e. omega (arith, e, high)))

decimal_begins : (n : ℕ) → n < 2 ^ 64 → (n ≡ 0) ⊎ (n ≡ 0 → ⊥) → begins_rightly (decimal n) ≡ true
decimal_begins n wide (inl none) = ap (λ m. begins_rightly (decimal m)) none ∙ ap begins_rightly (decimal_digit 0 (omega arith))
decimal_begins n wide (inr some) = begins_so (decimal n) (decimal_nonempty n wide) (first_decimal n (omega (arith, some)) wide)

pub decimal_all_digits : (n : ℕ) → n < 2 ^ 64 → list_all is_ascii_digit (decimal n) ≡ true
decimal_all_digits n wide = all_digits (decimal n) (digits_decimal the_model n wide)

pub is_numeral-decimal : (n : ℕ) → n < 2 ^ 64 → is_numeral (decimal n) ≡ true
unfolding is_numeral
is_numeral-decimal n wide = and_from (begins_rightly (decimal n)) (list_all is_ascii_digit (decimal n))
    (decimal_begins n wide (cases_eq n 0)) (decimal_all_digits n wide)

-- where the first digit is 0 it is the only one
alone : (ds : List ℕ) → begins_rightly ds ≡ true → get_or ds 0 0 ≡ 48 → length ds ≡ 1
alone [] rightly first = absurd (true≢false (sym rightly))
alone (b ∷ []) rightly first = refl
alone (b ∷ c ∷ rest) rightly first = absurd (eqb-false b 48 (not-true (nat_eq b 48) rightly) first)

some_digits : (ds : List ℕ) → begins_rightly ds ≡ true → 0 < length ds
some_digits [] rightly = absurd (true≢false (sym rightly))
some_digits (b ∷ rest) rightly = omega arith

chosen : (b : Bool) (o : Option ℕ) (n : ℕ) → cond b o None ≡ Some n → o ≡ Some n
chosen true o n e = e
chosen false o n e = cc

below : (o : Option ℕ) (n : ℕ) → below_2_32 o ≡ Some n → (o ≡ Some n) × (n < 2 ^ 32)
below None n e = cc
below (Some m) n e = at (nat_lt m (2 ^ 32)) refl e
  where
    at : (b : Bool) → nat_lt m (2 ^ 32) ≡ b → cond b (Some m) None ≡ Some n → (Some m ≡ Some n) × (n < 2 ^ 32)
    at true low e = let same : m ≡ n = cc in (ap (λ k. Some k) same, subst (λ k. k < 2 ^ 32) same (ltb-true m (2 ^ 32) low))
    at false low e = cc

-- the number of a numeral is spelled so
rightly-number_of : (word : List ℕ) (n : ℕ) → begins_rightly word ≡ true → number_of word ≡ Some n → (n < 2 ^ 32) × (word ≡ decimal n)
unfolding number_of
rightly-number_of word n rightly e =
    let read = below (digits_from 0 word) n (chosen (nat_lt 0 (length word) && nat_le (length word) 10) (below_2_32 (digits_from 0 word)) n e) in
    let digits = are_digits 0 n word read.0 in
    let valued : Some (value 0 word) ≡ Some n = sym (digits_from_value 0 word digits) ∙ read.0 in
    let same : value 0 word ≡ n = cc in
    let low : n < 2 ^ 32 = read.1 in
    let wide : value 0 word < 2 ^ 64 = subst (λ k. k < 2 ^ 64) (sym same) (omega arith) in
    (low, sym (ap decimal (sym same) ∙ decimal-digits_value the_model word digits (some_digits word rightly) (alone word rightly) wide))

-- the number of a numeral is spelled so
pub decimal-number_of : (word : List ℕ) (n : ℕ) → is_numeral word ≡ true → number_of word ≡ Some n → word ≡ decimal n
unfolding is_numeral
decimal-number_of word n numeral e = (rightly-number_of word n (and_parts (begins_rightly word) (list_all is_ascii_digit word) numeral).0 e).1

-- the numbers of numerals, all at once
pub decimals : (words : List (List ℕ)) (ns : List ℕ) → list_all is_numeral words ≡ true → map number_of words ≡ map (λ n. Some n) ns → words ≡ map decimal ns
decimals [] [] numerals e = refl
decimals [] (n ∷ ns) numerals e = cc
decimals (w ∷ words) [] numerals e = cc
decimals (w ∷ words) (n ∷ ns) numerals e =
    let parts = and_parts (is_numeral w) (list_all is_numeral words) numerals in
    let first : number_of w ≡ Some n = cc in
    let rest : map number_of words ≡ map (λ n. Some n) ns = cc in
    ap (λ v. v ∷ words) (decimal-number_of w n parts.0 first) ∙ ap (λ ws. decimal n ∷ ws) (decimals words ns parts.1 rest)

-- what a word says as a numeral
abbrev Says : List ℕ → Option ℕ → Type 0
Says word r = MatchOption r ((n : ℕ) → n < 2 ^ 32 → word ≢ decimal n) (λ n. (n < 2 ^ 32) × (word ≡ decimal n))

pub numeral_read : (word : List ℕ) (r : Option ℕ) → begins_rightly word ≡ true → r ≡ number_of word → Says word r
numeral_read word (Some n) rightly e = rightly-number_of word n rightly (sym e)
numeral_read word None rightly e = λ n low same. (let no : ◌≡◌ {A = Option ℕ} None (Some n) = e ∙ ap number_of same ∙ number_of-decimal n low in cc)

pub numeral_wrong : (word : List ℕ) → begins_rightly word ≡ false → Says word None
numeral_wrong word wrong = λ n low same. true≢false (sym (decimal_begins n (omega arith) (cases_eq n 0)) ∙ ap begins_rightly (sym same) ∙ wrong)

pub ruleset numerals_told = (numeral_read, numeral_wrong)

-- no byte below the digits stands among them

digit_is_no : (b end : ℕ) → end < 48 → IsInRange 48 57 b → b ≢ end
digit_is_no b end low h e = absurd (omega (arith, h, e))

HasNo-digits : (end : ℕ) (word : List ℕ) → end < 48 → Digits word → HasNo end word
unfolding HasNo Digits
HasNo-digits end [] low h = refl
HasNo-digits end (b ∷ word) low h = HasNo-cons end b word (digit_is_no b end low h.0) (HasNo-digits end word low h.1)

pub HasNo-decimal : (end n : ℕ) → end < 48 → n < 2 ^ 32 → HasNo end (decimal n)
HasNo-decimal end n low small = HasNo-digits end (decimal n) low (digits_decimal the_model n (omega arith))

-- a number begins with no letter
begins_below : (word : List ℕ) → Digits word → (b : ℕ) (rest : List ℕ) → word ≡ b ∷ rest → b < 58
unfolding Digits
begins_below [] d b rest e = cc
begins_below (c ∷ word) d b rest e = let same : c ≡ b = cc in omega (arith, d.0, same)

pub decimal_no_letter : (n b : ℕ) (rest : List ℕ) → n < 2 ^ 32 → decimal n ≡ b ∷ rest → b < 58
decimal_no_letter n b rest small e = begins_below (decimal n) (digits_decimal the_model n (omega arith)) b rest e
