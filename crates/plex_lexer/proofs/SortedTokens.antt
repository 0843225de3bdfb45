-- What a token that is kept by its sort shows is what was read.
use Rattle.std.proofs.Common.{◌≡◌, ℕ, ◌+◌, ◌-◌, ◌*◌, ◌/◌, ◌%◌, ◌<◌, ◌≤◌, true, false, nat_lt, List}
use Rattle.std.proofs.Common.{[], ◌∷◌, ◌++◌, length, drop, Some, None, Result, Ok, Err, slice_get}
use Rattle.std.proofs.Common.{refl, sym, ◌∙◌, ap, arith}
use Rattle.std.specs.Char.{is_ascii_digit, is_ascii_uppercase}
use Rattle.std.specs.List.{take_while}
use Rattle.std.proofs.lemmas.Bool.Decides.{nat_tests}
use Rattle.std.proofs.lemmas.List.Sums.{take_while-cons}
use Rattle.std.proofs.lemmas.List.{map-append, take_all}
use Rattle.std.proofs.lemmas.Bool.{le-ltb}
use Rattle.std.proofs.lemmas.Option.{slice_get-map}
use Rattle.std.specs.Option.{option_map}
use Rattle.std.proofs.lemmas.Nat.{div-mul-add, mod-mul-add}
use Rattle.plex_lexer.specs.declared.fault.LexFault.{LexFault}
use Rattle.plex_lexer.specs.declared.token.Token.{Token}
use Rattle.plex_lexer.specs.declared.token.TokenKind.{TokenKind}
use Rattle.plex_lexer.specs.declared.sort.Sort.{Sort}
use Rattle.plex_lexer.specs.declared.sort.Sort.TheVariants as sorts
use Rattle.plex_lexer.specs.declared.spot.Spot.{Spot}
use Rattle.plex_lexer.specs.declared.spot.TheConstants.{OFFSETS}
use Rattle.plex_lexer.specs.Bytes.{in_word}
use Rattle.plex_lexer.specs.Cursors.{lines}
use Rattle.plex_lexer.specs.Pieces.{token_at, kind_and_rest}
use Rattle.plex_lexer.specs.Spots.{sort_of, kind_at, IsSmall, code_of, sort_by, kept, shown}
use Rattle.plex_lexer.specs.Spots.{all_shown}
use Rattle.plex_lexer.specs.Words.{keyword_of, word_kind, number_kind}

pub sort_of_kind : (s : Sort) (bytes : List ℕ) → s ≡ sort_of (kind_at s bytes)
sort_of_kind sorts.Name bytes = refl
sort_of_kind sorts.Number bytes = refl
sort_of_kind (sorts.Keyword k) bytes = refl
sort_of_kind (sorts.Mark m) bytes = refl

-- a run that is no keyword is a name, where it is short enough
pub name_word : (run bytes : List ℕ) (o l : ℕ) → run ≡ take_while in_word bytes → length run ≤ 31
    → None ≡ keyword_of run → Ok (kind_at sorts.Name bytes) ≡ word_kind (take_while in_word bytes) o l
name_word run bytes o l is short free =
    let few : length (take_while in_word bytes) ≤ 31 = omega (arith, ap length is) in
    let none : keyword_of (take_while in_word bytes) ≡ None = ap keyword_of (sym is) ∙ sym free in
    rw (le-ltb 31 (length (take_while in_word bytes)) few, none, take_all 31 (take_while in_word bytes) few) refl

-- runs from their first byte on

word_begins : (b : ℕ) (bs : List ℕ) → is_ascii_uppercase b ≡ true → take_while in_word (b ∷ bs) ≡ b ∷ take_while in_word bs
word_begins b bs up = take_while-cons in_word b bs ∙ rw (up) refl

number_begins : (b : ℕ) (bs : List ℕ) → is_ascii_digit b ≡ true → take_while is_ascii_digit (b ∷ bs) ≡ b ∷ take_while is_ascii_digit bs
number_begins b bs digit = take_while-cons is_ascii_digit b bs ∙ rw (digit) refl

module _ (b : ℕ) (bytes bs : List ℕ) (o l : ℕ) (front : bytes ≡ b ∷ bs) where
  as_word : is_ascii_uppercase b ≡ true → (r : Result TokenKind LexFault) → r ≡ word_kind (take_while in_word bytes) o l
      → kind_and_rest r o l (drop (length (take_while in_word bs)) bs) ≡ token_at o l b bs
  as_word up r e =
      let run : take_while in_word bytes ≡ b ∷ take_while in_word bs = ap (take_while in_word) front ∙ word_begins b bs up in
      ap (λ z. kind_and_rest z o l (drop (length (take_while in_word bs)) bs)) (e ∙ ap (λ z. word_kind z o l) run) ∙ sym (rw (up) refl)

  as_number : is_ascii_uppercase b ≡ false → is_ascii_digit b ≡ true → (r : Result TokenKind LexFault)
      → r ≡ number_kind (take_while is_ascii_digit bytes) o l
      → kind_and_rest r o l (drop (length (take_while is_ascii_digit bs)) bs) ≡ token_at o l b bs
  as_number low digit r e =
      let run : take_while is_ascii_digit bytes ≡ b ∷ take_while is_ascii_digit bs = ap (take_while is_ascii_digit) front ∙ number_begins b bs digit in
      ap (λ z. kind_and_rest z o l (drop (length (take_while is_ascii_digit bs)) bs)) (e ∙ ap (λ z. number_kind z o l) run) ∙ sym (rw (low, digit) refl)

pub word_piece : (b : ℕ) (bytes bs left : List ℕ) (o l : ℕ) (s : Sort) → bytes ≡ b ∷ bs → is_ascii_uppercase b ≡ true
    → Ok (kind_at s bytes) ≡ word_kind (take_while in_word bytes) o l → left ≡ drop (length (take_while in_word bs)) bs
    → Ok (record { kind = kind_at s bytes; line = l; offset = o }, left) ≡ token_at o l b bs
word_piece b bytes bs left o l s front up e d = ap
    (λ z. Ok (record { kind = kind_at s bytes; line = l; offset = o }, z)) d
    ∙ as_word b bytes bs o l front up (Ok (kind_at s bytes)) e

pub word_fault : (b : ℕ) (bytes bs : List ℕ) (o l : ℕ) (f : LexFault) → bytes ≡ b ∷ bs → is_ascii_uppercase b ≡ true
    → Err f ≡ word_kind (take_while in_word bytes) o l → Err f ≡ token_at o l b bs
word_fault b bytes bs o l f front up e = as_word b bytes bs o l front up (Err f) e

pub number_piece : (b : ℕ) (bytes bs left : List ℕ) (o l : ℕ) (s : Sort) → bytes ≡ b ∷ bs → is_ascii_uppercase b ≡ false
    → is_ascii_digit b ≡ true → Ok (kind_at s bytes) ≡ number_kind (take_while is_ascii_digit bytes) o l
    → left ≡ drop (length (take_while is_ascii_digit bs)) bs
    → Ok (record { kind = kind_at s bytes; line = l; offset = o }, left) ≡ token_at o l b bs
number_piece b bytes bs left o l s front low digit e d = ap
    (λ z. Ok (record { kind = kind_at s bytes; line = l; offset = o }, z)) d
    ∙ as_number b bytes bs o l front low digit (Ok (kind_at s bytes)) e

pub number_fault : (b : ℕ) (bytes bs : List ℕ) (o l : ℕ) (f : LexFault) → bytes ≡ b ∷ bs → is_ascii_uppercase b ≡ false
    → is_ascii_digit b ≡ true → Err f ≡ number_kind (take_while is_ascii_digit bytes) o l → Err f ≡ token_at o l b bs
number_fault b bytes bs o l f front low digit e = as_number b bytes bs o l front low digit (Err f) e

-- a token that is kept shows its sort, its line and its offset

sort_again : (s : Sort) → IsSmall s → sort_by (code_of s) ≡ s
sort_again sorts.Name h = refl
sort_again sorts.Number h = refl
sort_again (sorts.Keyword k) h =
    let low : nat_lt 127 (2 + k) ≡ false = grind (arith, nat_tests) in
    let back : 2 + k - 2 ≡ k = omega arith in
    let some : nat_lt 1 (2 + k) ≡ true = grind (arith, nat_tests) in
    rw (low, some, back) refl
sort_again (sorts.Mark m) h =
    let high : nat_lt 127 (128 + m) ≡ true = grind (arith, nat_tests) in
    let back : 128 + m - 128 ≡ m = omega arith in
    rw (high, back) refl

pub shown_kept : (text : List ℕ) (s : Sort) (o l : ℕ) → IsSmall s → o < OFFSETS
    → shown text (kept s o l) ≡ record { kind = kind_at s (drop o text); line = l; offset = o }
unfolding shown
shown_kept text s o l small within =
    let offset : (code_of s * OFFSETS + o) % OFFSETS ≡ o = mod-mul-add (code_of s) OFFSETS o within in
    let code : (code_of s * OFFSETS + o) / OFFSETS ≡ code_of s = div-mul-add (code_of s) OFFSETS o within in
    rw (offset, code, sort_again s small) refl

-- .. and so does one more at the end of a list
pub one_more : (text : List ℕ) (spots : List Spot) (s : Sort) (o l : ℕ) → IsSmall s → o < OFFSETS
    → all_shown text (spots ++ (kept s o l ∷ [])) ≡ all_shown text spots
    ++ (record { kind = kind_at s (drop o text); line = l; offset = o } ∷ [])
one_more text spots s o l small within = map-append (shown text) spots (kept s o l ∷ [])
    ∙ ap (λ t. all_shown text spots ++ (t ∷ [])) (shown_kept text s o l small within)

-- the line of a token is that which is kept
pub line_kept : (text : List ℕ) (spots : List Spot) (i : ℕ) (s : Spot) → slice_get spots i ≡ Some s → slice_get (lines (all_shown text spots)) i ≡ Some s.line
unfolding shown
line_kept text spots i s h =
    slice_get-map (λ (t : Token). t.line) (all_shown text spots) i
    ∙ ap (option_map (λ (t : Token). t.line)) (slice_get-map (shown text) spots i ∙ ap (option_map (shown text)) h)
