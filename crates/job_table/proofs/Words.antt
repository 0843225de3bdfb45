-- Words that are written with blanks between them are read again.
use Rattle.std.proofs.Common.{◌≡◌, ℕ, zero, suc, ◌<◌, ◌^◌, inl, inr, Bool, true, false, cond}
use Rattle.std.proofs.Common.{nat_eq, List, [], ◌∷◌, ◌++◌, length, map, filter, codes, decimal}
use Rattle.std.proofs.Common.{Option, Some, None, refl, sym, ap, ◌∙◌, append_assoc, arith}
use Rattle.std.specs.Prelude.{nat_lt, if◌then◌else◌, ◌-◌, take, slice_index}
use Rattle.std.specs.Char.{is_ascii_digit}
use Rattle.std.specs.List.{AllByRecursion, list_all, onto_first, slice_split}
use Rattle.std.specs.Str.{bytes_eq}
use Rattle.std.specs.Str.Lines.{lines, lines_of_parts, strip_carriage_return}
use Rattle.std.proofs.lemmas.Bool.{and_parts, ltb-true, cases_Bool, ne_eqb}
use Rattle.std.proofs.lemmas.Bool.Decides.{nat_tests}
use Rattle.std.proofs.lemmas.Fmt.{decimal_nonempty}
use Rattle.std.proofs.lemmas.Slice.Eq.{bytes_eq-Decides}
use Rattle.plex_num.specs.Number.{digits_from, number_of}
use Rattle.text_lines.proofs.Numerals.{decimal_all_digits, number_of-decimal}
use Rattle.signal_file.specs.declared.line.LineKind.{LineKind}
use Rattle.signal_file.specs.declared.line.LineKind.TheVariants.{Bare, Fresh, Same}
use Rattle.signal_file.specs.Form.{closing, end_or_value, ending, with}
use Rattle.text_lines.specs.Words.{is_blank, is_line_end, is_some_byte, words}
use Rattle.job_table.specs.Fit.{IsPlainWord}
use Rattle.job_table.specs.Writing.{ending_words, value_words}

-- ---- plain words

-- bytes above the blank
abbrev pub AllAbove : List ℕ → Type 0
AllAbove bytes = AllByRecursion (λ b. 32 < b) bytes

no_blank : (b : ℕ) → 32 < b → is_blank b ≡ false
no_blank b above = grind (arith, nat_tests)

-- a word up to the first blank
split_word : (w rest : List ℕ) → AllAbove w → slice_split is_blank (w ++ 32 ∷ rest) ≡ w ∷ slice_split is_blank rest
split_word [] rest all = refl
split_word (b ∷ w) rest all =
    ap (λ t. cond t ([] ∷ slice_split is_blank (w ++ 32 ∷ rest)) (onto_first b (slice_split is_blank (w ++ 32 ∷ rest))))
    (no_blank b all.0) ∙ ap (onto_first b) (split_word w rest all.1)

split_last : (w : List ℕ) → AllAbove w → slice_split is_blank w ≡ w ∷ []
split_last [] all = refl
split_last (b ∷ w) all = ap (λ t. cond t ([] ∷ slice_split is_blank w) (onto_first b (slice_split is_blank w)))
    (no_blank b all.0) ∙ ap (onto_first b) (split_last w all.1)

kept_word : (w : List ℕ) (parts : List (List ℕ)) → is_some_byte w ≡ true → filter is_some_byte (w ∷ parts) ≡ w ∷ filter is_some_byte parts
kept_word w parts some = ap (λ t. cond t (w ∷ filter is_some_byte parts) (filter is_some_byte parts)) some

pub word_first : (w rest : List ℕ) → IsPlainWord w → words (w ++ 32 ∷ rest) ≡ w ∷ words rest
unfolding words
word_first w rest p = ap (filter is_some_byte) (split_word w rest p.all) ∙ kept_word w (slice_split is_blank rest) p.some

pub word_alone : (w : List ℕ) → IsPlainWord w → words w ≡ w ∷ []
unfolding words
word_alone w p = ap (filter is_some_byte) (split_last w p.all) ∙ kept_word w [] p.some

-- ---- numbers are plain words

digit_above : (b : ℕ) → is_ascii_digit b ≡ true → 32 < b
digit_above b is = grind (arith, nat_tests)

digits_above : (bytes : List ℕ) → list_all is_ascii_digit bytes ≡ true → AllAbove bytes
digits_above [] all = tt
digits_above (b ∷ bytes) all = let parts = and_parts (is_ascii_digit b) (list_all is_ascii_digit bytes) all in
    (digit_above b parts.0, digits_above bytes parts.1)

some_byte : (bytes : List ℕ) → 0 < length bytes → is_some_byte bytes ≡ true
some_byte [] some = absurd (omega arith)
some_byte (b ∷ bytes) some = refl

pub decimal_plain : (n : ℕ) → n < 2 ^ 32 → IsPlainWord (decimal n)
decimal_plain n small = record {
  some = some_byte (decimal n) (decimal_nonempty n (omega arith));
  all = digits_above (decimal n) (decimal_all_digits n (omega arith));
}

above_all : (bytes : List ℕ) → list_all (λ b. nat_lt 32 b) bytes ≡ true → AllAbove bytes
above_all [] all = tt
above_all (b ∷ bytes) all = let parts = and_parts (nat_lt 32 b) (list_all (λ b. nat_lt 32 b) bytes) all in (ltb-true 32 b parts.0, above_all bytes parts.1)

plain_new : IsPlainWord (codes "NEW")
plain_new = record { some = refl; all = above_all (codes "NEW") refl }

plain_none : IsPlainWord (codes "NONE")
plain_none = record { some = refl; all = above_all (codes "NONE") refl }

plain_as : IsPlainWord (codes "AS")
plain_as = record { some = refl; all = above_all (codes "AS") refl }

pub plain_after : IsPlainWord (codes "AFTER")
plain_after = record { some = refl; all = above_all (codes "AFTER") refl }

-- ---- the values and the end of a line

-- numbers of 32 bits
abbrev pub AreSmall : List ℕ → Type 0
AreSmall values = AllByRecursion (λ v. v < 2 ^ 32) values

-- the number after AS is one of 32 bits
abbrev pub HasSmall : LineKind → Type 0
HasSmall Fresh = Unit {0}
HasSmall Bare = Unit {0}
HasSmall (Same line) = line < 2 ^ 32

abbrev pub kind_words : LineKind → List (List ℕ)
kind_words Fresh = codes "NEW" ∷ []
kind_words Bare = codes "NONE" ∷ []
kind_words (Same line) = codes "AS" ∷ decimal line ∷ []

abbrev pub tail_words : List ℕ → LineKind → List (List ℕ)
tail_words values kind = map decimal values ++ kind_words kind

ending_read : (w : List ℕ) (kind : LineKind) → IsPlainWord w → HasSmall kind → words (w ++ ending_words kind) ≡ w ∷ kind_words kind
ending_read w Fresh p small = word_first w (codes "NEW") p ∙ ap (λ ws. w ∷ ws) (word_alone (codes "NEW") plain_new)
ending_read w Bare p small = word_first w (codes "NONE") p ∙ ap (λ ws. w ∷ ws) (word_alone (codes "NONE") plain_none)
ending_read w (Same line) p small =
    word_first w (codes "AS " ++ decimal line) p
    ∙ ap (λ ws. w ∷ ws) (word_first (codes "AS") (decimal line) plain_as ∙ ap (λ ws. codes "AS" ∷ ws) (word_alone (decimal line) (decimal_plain line small)))

pub tail_read : (w : List ℕ) (values : List ℕ) (kind : LineKind) → IsPlainWord w → AreSmall values → HasSmall kind
    → words (w ++ (value_words values ++ ending_words kind)) ≡ w ∷ tail_words values kind
tail_read w [] kind p all small = ending_read w kind p small
tail_read w (v ∷ values) kind p all small =
    let rest = value_words values ++ ending_words kind in
    let text : w ++ (value_words (v ∷ values) ++ ending_words kind) ≡ w ++ 32 ∷ (decimal v ++ rest) =
    ap (λ t. w ++ t) (append_assoc (codes " " ++ decimal v) (value_words values) (ending_words kind)) in
    ap words text ∙ word_first w (decimal v ++ rest) p ∙ ap (λ ws. w ∷ ws) (tail_read (decimal v) values kind (decimal_plain v all.0) all.1 small)

-- a number is no other word
no_word : (v : ℕ) (w : List ℕ) → v < 2 ^ 32 → number_of w ≡ None → bytes_eq (decimal v) w ≡ false
no_word v w small none = by (bytes_eq (decimal v) w) refl
  where
    by : (b : Bool) → bytes_eq (decimal v) w ≡ b → b ≡ false
    by false e = refl
    by true e = let same : decimal v ≡ w = (bytes_eq-Decides (decimal v) w).0 e in let clash : ◌≡◌ {A = Option ℕ}
        (Some v) None = sym (number_of-decimal v small) ∙ ap number_of same ∙ none in cc

no_number-new : number_of (codes "NEW") ≡ None
unfolding number_of digits_from
no_number-new = refl

no_number-none : number_of (codes "NONE") ≡ None
unfolding number_of digits_from
no_number-none = refl

no_number-as : number_of (codes "AS") ≡ None
unfolding number_of digits_from
no_number-as = refl

-- a number does not end a line
no_ending : (v : ℕ) (rest : List (List ℕ)) → v < 2 ^ 32 → ending (decimal v ∷ rest) ≡ None
no_ending v [] small =
    ap (λ t. if t then Some Fresh else (if bytes_eq (decimal v) (codes "NONE") then Some Bare else None)) (no_word v (codes "NEW") small no_number-new)
    ∙ ap (λ t. if t then Some Bare else None) (no_word v (codes "NONE") small no_number-none)
no_ending v (n ∷ []) small = ap (λ t. if t then with (number_of n) (λ i. Some (Same i)) else None) (no_word v (codes "AS") small no_number-as)
no_ending v (n ∷ m ∷ rest) small = refl

end_is : (kind : LineKind) → HasSmall kind → closing (kind_words kind) ≡ Some (record { values = []; kind = kind })
unfolding closing
end_is Fresh small = refl
end_is Bare small = refl
end_is (Same line) small = ap (λ o. end_or_value (with o (λ i. Some (Same i))) (number_of (codes "AS"))
    (closing (decimal line ∷ []))) (number_of-decimal line small)

pub tail_is : (values : List ℕ) (kind : LineKind) → AreSmall values → HasSmall kind
    → closing (tail_words values kind) ≡ Some (record { values = values; kind = kind })
unfolding closing
tail_is [] kind all small = end_is kind small
tail_is (v ∷ values) kind all small =
    ap (λ e. end_or_value e (number_of (decimal v)) (closing (tail_words values kind))) (no_ending v (tail_words values kind) all.0)
    ∙ ap (λ n. end_or_value None n (closing (tail_words values kind))) (number_of-decimal v all.0)
    ∙ ap (λ c. end_or_value None (Some v) c) (tail_is values kind all.1 small)

-- ---- lines of a text

-- bytes without LF and CR
abbrev pub NoEnds : List ℕ → Type 0
NoEnds bytes = AllByRecursion (λ b. 31 < b) bytes

no_end_here : (b : ℕ) → 31 < b → is_line_end b ≡ false
no_end_here b above = grind (arith, nat_tests)

split_line : (l rest : List ℕ) → NoEnds l → slice_split is_line_end (l ++ 10 ∷ rest) ≡ l ∷ slice_split is_line_end rest
split_line [] rest all = refl
split_line (b ∷ l) rest all =
    ap (λ t. cond t ([] ∷ slice_split is_line_end (l ++ 10 ∷ rest))
    (onto_first b (slice_split is_line_end (l ++ 10 ∷ rest)))) (no_end_here b all.0)
    ∙ ap (onto_first b) (split_line l rest all.1)

some_part : (text : List ℕ) → (y : List ℕ) × (ys : List (List ℕ)) × (slice_split is_line_end text ≡ y ∷ ys)
some_part [] = ([], [], refl)
some_part (b ∷ text) = elim (cases_Bool (is_line_end b)) [
  | inl ends ↦ ([], slice_split is_line_end text, ap (λ t. cond t ([] ∷ slice_split is_line_end text) (onto_first b (slice_split is_line_end text))) ends)
  | inr goes ↦ let r = some_part text in (
    b ∷ r.0,
    r.1,
    ap
        (λ t. cond t ([] ∷ slice_split is_line_end text) (onto_first b (slice_split is_line_end text))) goes
        ∙ ap (onto_first b) r.2,
  )
]

last_above : (l : List ℕ) (i : ℕ) → NoEnds l → nat_eq (slice_index l i) 13 ≡ false
last_above [] i all = refl
last_above (b ∷ l) zero all = let above = all.0 in ne_eqb b 13 (λ e. omega (arith, above, e))
last_above (b ∷ l) (suc i) all = last_above l i all.1

unstripped : (l : List ℕ) → NoEnds l → strip_carriage_return l ≡ l
unstripped l all = ap (λ t. if t then take (length l - 1) l else l) (last_above l (length l - 1) all)

pub low_all : (bytes : List ℕ) → list_all (λ b. nat_lt 31 b) bytes ≡ true → NoEnds bytes
low_all [] all = tt
low_all (b ∷ bytes) all = let parts = and_parts (nat_lt 31 b) (list_all (λ b. nat_lt 31 b) bytes) all in (ltb-true 31 b parts.0, low_all bytes parts.1)

pub line_first : (l rest : List ℕ) → NoEnds l → lines (l ++ 10 ∷ rest) ≡ l ∷ lines rest
line_first l rest all =
    let r = some_part rest in
    ap lines_of_parts (split_line l rest all ∙ ap (λ ps. l ∷ ps) r.2)
    ∙ ap (λ k. k ∷ lines_of_parts (r.0 ∷ r.1)) (unstripped l all) ∙ ap (λ ps. l ∷ lines_of_parts ps) (sym r.2)
