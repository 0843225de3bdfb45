-- Numbers as bytes, and read again.
use Rattle.std.proofs.Common.{◌≡◌, ◌⊎◌, inl, inr, ℕ, zero, suc, ◌+◌, ◌-◌, ◌*◌, ◌/◌, ◌%◌, ◌<◌, ◌≤◌}
use Rattle.std.proofs.Common.{◌^◌, nat_lt, List, [], ◌∷◌, ◌++◌, get_or, take, length, length-append}
use Rattle.std.proofs.Common.{Option, Some, None, reverse, refl, sym, ap, subst, ◌∙◌, append_assoc}
use Rattle.std.proofs.Common.{arith}
use Rattle.std.specs.Prelude.{flat_map, option_to_list, MatchOption}
use Rattle.std.proofs.lemmas.Bool.{cond-true, cond-false, lt-ltb, le-ltb, cases_lt}
use Rattle.std.specs.List.{AllByRecursion}
use Rattle.std.proofs.lemmas.List.{append-nil, reverse-append, take_more}
use Rattle.std.proofs.lemmas.List.Concat.{flat_map-append}
use Rattle.run_books.specs.Bytes.{after_number, after_words, digits, long_at, number_at}
use Rattle.run_books.specs.Bytes.{number_bytes, word_at, words_at}

-- the digits

digits_last : (more n : ℕ) → n < 128 → digits more n ≡ n ∷ []
unfolding digits
digits_last zero n low = refl
digits_last (suc more) n low = cond-true (nat_lt n 128) (n ∷ []) ((n % 128 + 128) ∷ digits more (n / 128)) (lt-ltb n 128 low)

digits_next : (more n : ℕ) → 128 ≤ n → digits (suc more) n ≡ (n % 128 + 128) ∷ digits more (n / 128)
unfolding digits
digits_next more n high = cond-false (nat_lt n 128) (n ∷ []) ((n % 128 + 128) ∷ digits more (n / 128)) (le-ltb n 128 high)

-- more of them than enough are the same
same_step : (k m n : ℕ) → (n < 128) ⊎ (128 ≤ n) → (128 ≤ n → digits k (n / 128) ≡ digits m (n / 128)) → digits (suc k) n ≡ digits (suc m) n
same_step k m n (inl low) others = digits_last (suc k) n low ∙ sym (digits_last (suc m) n low)
same_step k m n (inr high) others = digits_next k n high ∙ ap (λ ds. (n % 128 + 128) ∷ ds) (others high) ∙ sym (digits_next m n high)

digits_same : (k m n : ℕ) → n ≤ k → n ≤ m → digits k n ≡ digits m n
digits_same zero m n small fits = let low : n < 128 = omega (arith, small) in digits_last zero n low ∙ sym (digits_last m n low)
digits_same (suc k) zero n fits small = let low : n < 128 = omega (arith, small) in digits_last (suc k) n low ∙ sym (digits_last zero n low)
digits_same (suc k) (suc m) n fits also =
    same_step k m n (cases_lt n 128) (λ high. digits_same k m (n / 128) (omega (arith, fits, high)) (omega (arith, also, high)))

number_last : (n : ℕ) → n < 128 → number_bytes n ≡ n ∷ []
unfolding number_bytes
number_last n low = digits_last n n low

number_next : (n : ℕ) → 128 ≤ n → number_bytes n ≡ (n % 128 + 128) ∷ number_bytes (n / 128)
unfolding number_bytes
number_next zero high = absurd (omega (arith, high))
number_next (suc n) high =
    let down : suc n / 128 ≤ n = omega (arith, high) in
    digits_next n (suc n) high ∙ ap (λ ds. (suc n % 128 + 128) ∷ ds) (digits_same n (suc n / 128) (suc n / 128) down (omega arith))

-- a number has a byte, and one of 64 bits has no more than ten

digits_only : (n : ℕ) → digits zero n ≡ n ∷ []
unfolding digits
digits_only n = refl

some_step : (more n : ℕ) → (n < 128) ⊎ (128 ≤ n) → 0 < length (digits (suc more) n)
some_step more n (inl low) = omega (arith, ap length (digits_last (suc more) n low))
some_step more n (inr high) = omega (arith, ap length (digits_next more n high))

some_digits : (more n : ℕ) → 0 < length (digits more n)
some_digits zero n = omega (arith, ap length (digits_only n))
some_digits (suc more) n = some_step more n (cases_lt n 128)

pub some_bytes : (n : ℕ) → 0 < length (number_bytes n)
unfolding number_bytes
some_bytes n = some_digits n n

-- the numbers with no more than one digit, and with so many more
abbrev below_with : ℕ → ℕ
below_with zero = 128
below_with (suc k) = 128 * below_with k

few_step : (k more n : ℕ) → (n < 128) ⊎ (128 ≤ n) → (128 ≤ n → length (digits more (n / 128)) ≤ k + 1) → length (digits (suc more) n) ≤ suc k + 1
few_step k more n (inl low) others = omega (arith, ap length (digits_last (suc more) n low))
few_step k more n (inr high) others = omega (arith, ap length (digits_next more n high), others high)

few_digits : (k more n : ℕ) → n < below_with k → length (digits more n) ≤ k + 1
few_digits k zero n below = omega (arith, ap length (digits_only n))
few_digits zero (suc more) n below = omega (arith, ap length (digits_last (suc more) n below))
few_digits (suc k) (suc more) n below = few_step k more n (cases_lt n 128) (λ high. few_digits k more (n / 128) (omega (arith, below, high)))

pub number_few : (n : ℕ) → n < 2 ^ 64 → length (number_bytes n) ≤ 10
unfolding number_bytes
number_few n below = let wide : n < below_with 9 = omega (arith, below) in omega (arith, few_digits 9 n n wide)

-- a number is put behind others

pub put_last : (old new : List ℕ) (n : ℕ) → n < 128 → new ≡ old ++ n ∷ [] → new ≡ old ++ number_bytes n
put_last old new n low put = put ∙ ap (λ ds. old ++ ds) (sym (number_last n low))

pub put_more : (old mid new : List ℕ) (n : ℕ) → 128 ≤ n → mid ≡ old ++ (n % 128 + 128) ∷ [] → new ≡ mid ++ number_bytes (n / 128) → new ≡ old ++ number_bytes n
put_more old mid new n high put then =
    then ∙ ap (λ ds. ds ++ number_bytes (n / 128)) put ∙ append_assoc old ((n % 128 + 128) ∷ []) (number_bytes (n / 128))
    ∙ ap (λ ds. old ++ ds) (sym (number_next n high))

pub length_last : (n : ℕ) → n < 128 → length (number_bytes n) ≡ 1
length_last n low = ap length (number_last n low)

pub length_more : (n : ℕ) → 128 ≤ n → length (number_bytes n) ≡ 1 + length (number_bytes (n / 128))
length_more n high = omega (arith, ap length (number_next n high))

-- numbers are put behind others: these, as far as this index, in a list of this length and capacity
pub record Put (old new ns : List ℕ) (len now index capacity most : ℕ) : Type 0 where
  pub items : new ≡ old ++ flat_map number_bytes ns
  pub room : now ≤ len + 10 * index
  pub same : most ≡ capacity

pub put_begin : (old : List ℕ) (len capacity : ℕ) → Put old old [] len len 0 capacity capacity
put_begin old len capacity = record { items = sym (append-nil old); room = omega arith; same = refl }

pub put_step : (old now next all : List ℕ) (len l m index capacity most later : ℕ) → index < length all → next ≡ now ++ number_bytes (get_or all index 0)
    → m ≡ l + length (number_bytes (get_or all index 0)) → length (number_bytes (get_or all index 0)) ≤ 10
    → later ≡ most → Put old now (take index all) len l index capacity most
    → Put old next (take (index + 1) all) len m (index + 1) capacity later
put_step old now next all len l m index capacity most later within put longer few kept p =
    let n = get_or all index 0 in
    let one : flat_map number_bytes (n ∷ []) ≡ number_bytes n = append-nil (number_bytes n) in
    record {
      items =
          put ∙ ap (λ bs. bs ++ number_bytes n) p.items ∙ append_assoc old (flat_map number_bytes (take index all)) (number_bytes n)
          ∙ ap (λ bs. old ++ (flat_map number_bytes (take index all) ++ bs)) (sym one)
          ∙ ap (λ bs. old ++ bs) (sym (flat_map-append number_bytes (take index all) (n ∷ []))
          ∙ ap (flat_map number_bytes) (sym (take_more all index 0 within)));
      room = omega (arith, p.room, longer, few);
      same = kept ∙ p.same;
    }

all_last : (ns : List ℕ) (n : ℕ) → AllByRecursion (λ (v : ℕ). v < 2 ^ 32) ns → n < 2 ^ 32 → AllByRecursion (λ (v : ℕ). v < 2 ^ 32) (ns ++ n ∷ [])
all_last [] n all last = (last, tt)
all_last (m ∷ ns) n all last = (all.0, all_last ns n all.1 last)

pub narrow_step : (all : List ℕ) (index : ℕ) → index < length all → get_or all index 0 < 2 ^ 32 → AllByRecursion (λ (v : ℕ). v < 2 ^ 32) (take index all)
    → AllByRecursion (λ (v : ℕ). v < 2 ^ 32) (take (index + 1) all)
narrow_step all index within low so_far =
    subst (AllByRecursion (λ (v : ℕ). v < 2 ^ 32)) (sym (take_more all index 0 within)) (all_last (take index all) (get_or all index 0) so_far low)

-- numbers of 32 bits are read, so many of so many: these are the first ones
pub record Valued (start bytes values : List ℕ) (many index : ℕ) : Type 0 where
  pub words : words_at many start ≡ values ++ words_at (many - index) bytes
  pub left : after_words many start ≡ after_words (many - index) bytes
  pub counted : length values ≡ index

pub valued_begin : (start : List ℕ) (many : ℕ) → Valued start start [] many 0
valued_begin start many =
    let all : many ≡ many - 0 = omega arith in
    record { words = ap (λ k. words_at k start) all; left = ap (λ k. after_words k start) all; counted = refl }

words_next : (more : ℕ) (bytes : List ℕ) → (words_at (suc more) bytes ≡ word_at bytes
    ∷ words_at more (after_number bytes)) × (after_words (suc more) bytes ≡ after_words more (after_number bytes))
unfolding words_at after_words
words_next more bytes = (refl, refl)

words_past : (bytes : List ℕ) → (words_at 0 bytes ≡ []) × (after_words 0 bytes ≡ bytes)
unfolding words_at after_words
words_past bytes = (refl, refl)

pub valued_more : (start bytes next values longer : List ℕ) (v many index : ℕ) → index < many → v ≡ word_at bytes
    → next ≡ after_number bytes → longer ≡ values ++ v ∷ []
    → Valued start bytes values many index → Valued start next longer many (index + 1)
valued_more start bytes next values longer v many index within read after put so_far =
    let rest = many - (index + 1) in
    let count : many - index ≡ suc rest = omega (arith, within) in
    let unfolds = words_next rest bytes in
    record {
      words =
          so_far.words ∙ ap (λ k. values ++ words_at k bytes) count ∙ ap (λ ws. values ++ ws) (unfolds.0 ∙ (λ i. sym read i ∷ words_at rest (sym after i)))
          ∙ sym (append_assoc values (v ∷ []) (words_at rest next)) ∙ ap (λ ws. ws ++ words_at rest next) (sym put);
      left = so_far.left ∙ ap (λ k. after_words k bytes) count ∙ unfolds.1 ∙ ap (after_words rest) (sym after);
      counted = omega (arith, ap length put, length-append values (v ∷ []), so_far.counted);
    }

pub valued_end : (start bytes values : List ℕ) (many index : ℕ) → many ≤ index → Valued start bytes values many index
    → (values ≡ words_at many start) × (bytes ≡ after_words many start)
valued_end start bytes values many index past so_far =
    let none : many - index ≡ 0 = omega (arith, past) in (
      sym (so_far.words ∙ ap (λ k. values ++ words_at k bytes) none ∙ ap (λ ws. values ++ ws) (words_past bytes).0 ∙ append-nil values),
      sym (so_far.left ∙ ap (λ k. after_words k bytes) none ∙ (words_past bytes).1),
    )

-- a number is read

at_last : (b : ℕ) (rest : List ℕ) → b < 128 → (number_at (b ∷ rest) ≡ b) × (after_number (b ∷ rest) ≡ rest)
unfolding number_at after_number
at_last b rest low = (
  cond-true (nat_lt b 128) b (b - 128 + 128 * number_at rest) (lt-ltb b 128 low),
  cond-true
      (nat_lt b 128) rest (after_number rest) (lt-ltb b 128 low),
)

at_more : (b : ℕ) (rest : List ℕ) → 128 ≤ b → (number_at (b ∷ rest) ≡ b - 128 + 128 * number_at rest) × (after_number (b ∷ rest) ≡ after_number rest)
unfolding number_at after_number
at_more b rest high = (
  cond-false (nat_lt b 128) b (b - 128 + 128 * number_at rest) (le-ltb b 128 high),
  cond-false
      (nat_lt b 128) rest (after_number rest) (le-ltb b 128 high),
)

-- a number that stands before others is read, and they are left
abbrev Reads : List ℕ → ℕ → List ℕ → Type 0
Reads ds n rest = (number_at (ds ++ rest) ≡ n) × (after_number (ds ++ rest) ≡ rest)

at_step : (more n : ℕ) (rest : List ℕ) → (n < 128) ⊎ (128 ≤ n) → (128 ≤ n → Reads (digits more (n / 128)) (n / 128) rest) → Reads (digits (suc more) n) n rest
at_step more n rest (inl low) others = subst (λ ds. Reads ds n rest) (sym (digits_last (suc more) n low)) (at_last n rest low)
at_step more n rest (inr high) others =
    let behind = others high in
    let first = at_more (n % 128 + 128) (digits more (n / 128) ++ rest) (omega arith) in
    let whole : number_at ((n % 128 + 128) ∷ digits more (n / 128) ++ rest) ≡ n = omega (arith, first.0, behind.0) in
    subst (λ ds. Reads ds n rest) (sym (digits_next more n high)) (whole, first.1 ∙ behind.1)

at_digits : (more n : ℕ) (rest : List ℕ) → n ≤ more → Reads (digits more n) n rest
at_digits zero n rest fits = let low : n < 128 = omega (arith, fits) in subst (λ ds. Reads ds n rest) (sym (digits_last zero n low)) (at_last n rest low)
at_digits (suc more) n rest fits = at_step more n rest (cases_lt n 128) (λ high. at_digits more (n / 128) rest (omega (arith, fits, high)))

pub number_read : (n : ℕ) (rest : List ℕ) → Reads (number_bytes n) n rest
unfolding number_bytes
number_read n rest = at_digits n n rest (omega arith)

-- by the code, from a list that is turned round

pub popped : (old new : List ℕ) (o : Option ℕ) (l m : ℕ) → old ≡ new ++ option_to_list o → MatchOption o ((l ≡ 0) × (m ≡ 0)) (λ b. m + 1 ≡ l) → length old ≡ l
    → MatchOption o ((reverse old ≡ []) × (reverse new ≡ [])) (λ b. reverse old ≡ b ∷ reverse new)
popped [] [] None l m is none same = (refl, refl)
popped [] (b ∷ new) None l m is none same = absurd (omega (arith, ap length is))
popped (b ∷ old) new None l m is none same = absurd (omega (arith, none.0, same))
popped old new (Some b) l m is some same = ap reverse is ∙ reverse-append new (b ∷ [])

pub read_none : (old : List ℕ) → old ≡ [] → 0 ≡ long_at old
unfolding number_at
read_none old none = ap (λ bs. number_at bs % 2 ^ 64) (sym none)

pub left_none : (old new : List ℕ) → old ≡ [] → new ≡ [] → new ≡ after_number old
unfolding after_number
left_none old new none also = also ∙ ap after_number (sym none)

pub read_last : (old new : List ℕ) (b : ℕ) → old ≡ b ∷ new → b < 128 → b ≡ long_at old
read_last old new b is low = omega (arith, ap number_at is ∙ (at_last b new low).0)

pub left_last : (old new : List ℕ) (b : ℕ) → old ≡ b ∷ new → b < 128 → new ≡ after_number old
left_last old new b is low = sym (ap after_number is ∙ (at_last b new low).1)

pub read_more : (old new : List ℕ) (b r : ℕ) → old ≡ b ∷ new → 128 ≤ b → r ≡ long_at new → ((r * 128) % 2 ^ 64 + (b - 128)) % 2 ^ 64 ≡ long_at old
read_more old new b r is high higher =
    let whole : number_at old ≡ b - 128 + 128 * number_at new = ap number_at is ∙ (at_more b new high).0 in
    omega (arith, whole, higher)

pub left_more : (old new left : List ℕ) (b : ℕ) → old ≡ b ∷ new → 128 ≤ b → left ≡ after_number new → left ≡ after_number old
left_more old new left b is high after = after ∙ sym (ap after_number is ∙ (at_more b new high).1)

pub word_is : (bytes : List ℕ) (n : ℕ) → n ≡ long_at bytes → n % 4294967296 ≡ word_at bytes
word_is bytes n is = omega (arith, is)
