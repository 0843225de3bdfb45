-- Numbers as bits of words.
use Rattle.std.proofs.Common.{◌≡◌, ◌⊎◌, inl, inr, ◌↔◌, ℕ, zero, suc, ◌+◌, ◌-◌, ◌*◌, ◌/◌, ◌%◌, ◌^◌}
use Rattle.std.proofs.Common.{◌<◌, ◌≤◌, Bool, true, false, not, cond, eqb, List, [], ◌∷◌, ◌++◌}
use Rattle.std.proofs.Common.{length, get_or, set, replicate, Contains, refl, sym, subst, ap, ◌∙◌}
use Rattle.std.proofs.Common.{arith, length-append, length-set, get_or-set_same, get_or-set_other}
use Rattle.std.proofs.Common.{eq-eqb, ne_eqb, w64, append_assoc, append-nil}
use Rattle.std.specs.Prelude.{bit_and, bit_or, nat_eq, IsTrue}
use Rattle.std.specs.Cmp.Lexicographic.{pointwise}
use Rattle.std.proofs.lemmas.Slice.Eq.{bytes_eq-Decides}
use Rattle.std.specs.Bool.{MatchBool}
use Rattle.std.specs.Int.{bit_at, leading_zeros, trailing_zeros}
use Rattle.std.specs.List.{filter, list_all, range_with_len}
use Rattle.std.specs.List.Sorted.{IsStrictlySortedBy}
use Rattle.std.specs.Ordering.{nat_cmp}
use Rattle.std.proofs.lemmas.Bool.{cases_eq, cases_lt, eqb-true, and_from, and_parts, not-true}
use Rattle.std.proofs.lemmas.Bool.{true≢false}
use Rattle.std.proofs.lemmas.List.{get_or-replicate, get_or_past, length-replicate}
use Rattle.std.proofs.lemmas.List.Elements.{All-contains, All-contains_itself, All-filter}
use Rattle.std.proofs.lemmas.List.Elements.{filter_passes, filter-append}
use Rattle.std.proofs.lemmas.List.FromFn.{length-range_with_len, get_or-range_with_len}
use Rattle.std.proofs.lemmas.List.Kept.{IsStrictlySortedBy-filter}
use Rattle.std.proofs.lemmas.Map.Keys.{sorted_from_strictly_increasing}
use Rattle.std.proofs.lemmas.Nat.{leading_length, one_shl, pow_pos}
use Rattle.std.proofs.lemmas.Nat.Bits.{bit_at_set_same, bit_at_set_other, bit_at-trailing_zeros}
use Rattle.std.proofs.lemmas.Nat.Bits.{bit_at_above, bit_at-zero, bit_at-lt, and_pow}
use Rattle.std.proofs.lemmas.Nat.Bits.{same_from_bits_below}
use Rattle.plex_num.proofs.Members.{later_is, in_filter}
use Rattle.fact_rows.specs.Numbers.{has_bit, numbers, AreNumbers, bit_number, bits_of}

-- ---- filters

pub from_filter : {X : Type 0} (p : X → Bool) (xs : List X) (x : X) → Contains (filter p xs) x → Contains xs x × (p x ≡ true)
from_filter p xs x c = (
  All-contains (Contains xs) (filter p xs) x
      (All-filter p (Contains xs) xs (All-contains_itself xs)) c,
  All-contains (λ y. p y ≡ true) (filter p xs) x
      (filter_passes p xs) c,
)

pub filter_alike : {X : Type 0} (p q : X → Bool) (xs : List X) → ((x : X) → Contains xs x → p x ≡ q x) → filter p xs ≡ filter q xs
filter_alike p q [] h = refl
filter_alike p q (x ∷ xs) h =
    let rest = filter_alike p q xs (λ y c. h y (later_is x y xs c)) in
    let here : p x ≡ q x = h x (0, omega arith, refl) in
    λ i. cond (here i) (x ∷ rest i) (rest i)

none_pass : {X : Type 0} (xs : List X) → filter (λ (x : X). false) xs ≡ []
none_pass [] = refl
none_pass (x ∷ xs) = none_pass xs

pub filter_none : {X : Type 0} (p : X → Bool) (xs : List X) → ((x : X) → Contains xs x → p x ≡ false) → filter p xs ≡ []
filter_none {X} p xs h = filter_alike p (λ (x : X). false) xs h ∙ none_pass xs

-- ---- ranges

range_two : (a m n k : ℕ) → m + n ≡ k → range_with_len a k ≡ range_with_len a m ++ range_with_len (a + m) n
range_two a zero n k e =
    let much : k ≡ n = omega arith in
    let from : a ≡ a + 0 = omega arith in
    λ i. range_with_len (from i) (much i)
range_two a (suc m) n zero e = absurd (omega arith)
range_two a (suc m) n (suc k) e =
    let from : a + 1 + m ≡ a + suc m = omega arith in
    ap (λ l. a ∷ l) (range_two (a + 1) m n k (omega arith) ∙ ap (λ b. range_with_len (a + 1) m ++ range_with_len b n) from)

range_first : (a n k : ℕ) → n + 1 ≡ k → range_with_len a k ≡ a ∷ range_with_len (a + 1) n
range_first a n zero e = absurd (omega arith)
range_first a n (suc k) e = (let much : k ≡ n = omega arith in ap (λ m. a ∷ range_with_len (a + 1) m) much)

pub in_range : (a n x : ℕ) → Contains (range_with_len a n) x → (a ≤ x) × (x < a + n)
in_range a n x c =
    let lt = c.1 in
    let within : c.0 < n = omega (arith, length-range_with_len a n) in
    let is : x ≡ a + c.0 = sym c.2 ∙ get_or-range_with_len a n c.0 x within in
    (omega arith, omega arith)

pub range_has : (a n x : ℕ) → a ≤ x → x < a + n → Contains (range_with_len a n) x
range_has a n x from upto =
    let within : x - a < n = omega arith in
    let is : a + (x - a) ≡ x = omega arith in
    (x - a, omega (arith, length-range_with_len a n), get_or-range_with_len a n (x - a) x within ∙ is)

pub range_rises : (a n : ℕ) → IsStrictlySortedBy nat_cmp (range_with_len a n)
range_rises a n = sorted_from_strictly_increasing (range_with_len a n) (λ k h.
    let long = length-range_with_len a n in
    omega (arith, get_or-range_with_len a n k 0 (omega arith), get_or-range_with_len a n (k + 1) 0 (omega arith)))

-- ---- the numbers of words

pub numbers_rise : (words : List ℕ) → IsStrictlySortedBy nat_cmp (numbers words)
unfolding numbers
numbers_rise words = IsStrictlySortedBy-filter nat_cmp (has_bit words) (range_with_len 0 (64 * length words)) (range_rises 0 (64 * length words))

pub number_there : (words : List ℕ) (n : ℕ) → n < 64 * length words → has_bit words n ≡ true → Contains (numbers words) n
unfolding numbers
number_there words n within e = in_filter (has_bit words) (range_with_len 0 (64 * length words)) n e
    (range_has 0 (64 * length words) n (omega arith) (omega arith))

pub number_set : (words : List ℕ) (n : ℕ) → Contains (numbers words) n → (n < 64 * length words) × (has_bit words n ≡ true)
unfolding numbers
number_set words n c =
    let both = from_filter (has_bit words) (range_with_len 0 (64 * length words)) n c in
    let inside = in_range 0 (64 * length words) n both.0 in
    (omega (arith, inside.1), both.1)

abbrev zeros : ℕ → List ℕ
zeros n = replicate n 0

zero_at : (n k : ℕ) → get_or (zeros n) k 0 ≡ 0
zero_at n k = elim (cases_lt k n) [
  | inl lt ↦ get_or-replicate n k 0 0 lt
  | inr past ↦ get_or_past (zeros n) k 0 (let long : length (zeros n) ≡ n = length-replicate n 0 in omega arith)
]

pub numbers_of_zero : (words : List ℕ) → ((k : ℕ) → get_or words k 0 ≡ 0) → numbers words ≡ []
unfolding numbers
numbers_of_zero words zero_words = filter_none (has_bit words) (range_with_len 0 (64 * length words))
    (λ k c. ap (λ w. eqb (bit_at w (k % 64)) 1) (zero_words (k / 64)) ∙ ap (λ b. eqb b 1) (bit_at-zero (k % 64)))

pub numbers_zero : (n : ℕ) → numbers (zeros n) ≡ []
numbers_zero n = numbers_of_zero (zeros n) (zero_at n)

-- ---- a number more

-- the test `word & bit == 0`
bit_clear : (word k : ℕ) → k < 64 → eqb (bit_and word (1 * 2 ^ k % 2 ^ 64)) 0 ≡ not (eqb (bit_at word k) 1)
bit_clear word k h =
    let e : bit_and word (1 * 2 ^ k % 2 ^ 64) ≡ bit_at word k * 2 ^ k = ap (bit_and word) (one_shl k 64 h) ∙ and_pow word k in
    let b : ℕ = bit_at word k in
    let small : b < 2 = omega arith in
    elim (cases_eq b 1) [
      | inl one ↦
          let big : 0 < bit_and word (1 * 2 ^ k % 2 ^ 64) = rw (e, one) (omega (arith, pow_pos k)) in
          ne_eqb _ 0 (omega arith) ∙ sym (ap not (eq-eqb b 1 one))
      | inr other ↦
          let none : b ≡ 0 = omega arith in
          eq-eqb _ 0 (rw (e, none) (omega arith)) ∙ sym (ap not (ne_eqb b 1 other))
    ]

split : (words : List ℕ) (i n : ℕ) → i + (n + 1) ≡ 64 * length words
    → numbers words ≡ filter (has_bit words) (range_with_len 0 i)
    ++ filter (has_bit words) (i ∷ range_with_len (i + 1) n)
unfolding numbers
split words i n e =
    let from : 0 + i ≡ i = omega arith in
    ap (filter (has_bit words)) (range_two 0 i (n + 1) (64 * length words) e
    ∙ ap (λ l. range_with_len 0 i ++ l) (ap (λ a. range_with_len a (n + 1)) from ∙ range_first i n (n + 1) refl))
    ∙ filter-append (has_bit words) (range_with_len 0 i) (i ∷ range_with_len (i + 1) n)

-- a list with one number put in, if it is not there
record IsPutIn (i : ℕ) (had : Bool) (old new : List ℕ) : Type 0 where
  front : List ℕ
  back : List ℕ
  before : old ≡ front ++ cond had (i ∷ back) back
  after : new ≡ front ++ i ∷ back

one_more : (i : ℕ) (had : Bool) (old new : List ℕ) → IsPutIn i had old new → MatchBool (not had) (length new ≡ length old + 1) (new ≡ old)
one_more i true old new p = p.after ∙ sym p.before
one_more i false old new p = omega (arith, ap length p.after, ap length p.before, length-append p.front (i ∷ p.back), length-append p.front p.back)

module _ (words : List ℕ) (i : ℕ) (within : i < 64 * length words) where
  abbrev place : ℕ
  place = i / 64

  abbrev word : ℕ
  word = get_or words place 0

  abbrev joined : ℕ
  joined = bit_or word (1 * 2 ^ (i % 64) % 2 ^ 64)

  abbrev new_words : List ℕ
  new_words = set words place joined

  as_long : length new_words ≡ length words
  as_long = length-set words place joined

  set_here : has_bit new_words i ≡ true
  set_here =
      let inside : place < length words = omega arith in
      ap (λ x. eqb (bit_at x (i % 64)) 1) (get_or-set_same words place joined 0 inside) ∙ eq-eqb _ 1 (bit_at_set_same w64 word (i % 64) (omega arith))

  set_other : (k : ℕ) → (k ≡ i → ⊥) → has_bit new_words k ≡ has_bit words k
  set_other k apart =
      elim (cases_eq (k / 64) place) as (λ _. has_bit new_words k ≡ has_bit words k) [
        | inl row ↦
            (let inside : place < length words = omega arith in
            ap (λ x. eqb (bit_at (get_or new_words x 0) (k % 64)) 1) row
            ∙ ap (λ x. eqb (bit_at x (k % 64)) 1) (get_or-set_same words place joined 0 inside)
            ∙ ap (λ x. eqb x 1) (bit_at_set_other w64 word (i % 64) (omega arith) (k % 64) (omega arith))
            ∙ ap (λ x. eqb (bit_at (get_or words x 0) (k % 64)) 1) (sym row))
        | inr far ↦ ap (λ x. eqb (bit_at x (k % 64)) 1) (get_or-set_other words place (k / 64) joined 0 far)
      ]

  put_in : IsPutIn i (has_bit words i) (numbers words) (numbers new_words)
  put_in =
      let n : ℕ = 64 * length words - (i + 1) in
      let all : i + (n + 1) ≡ 64 * length words = omega arith in
      let all_new : i + (n + 1) ≡ 64 * length new_words = all ∙ ap (λ l. 64 * l) (sym as_long) in
      let low : filter (has_bit new_words) (range_with_len 0 i)
      ≡ filter (has_bit words) (range_with_len 0 i) = filter_alike (has_bit new_words) (has_bit words)
      (range_with_len 0 i) (λ k c. set_other k (let lt = (in_range 0 i k c).1 in λ e. omega arith)) in
      let high : filter (has_bit new_words) (range_with_len (i + 1) n)
      ≡ filter (has_bit words) (range_with_len (i + 1) n) = filter_alike (has_bit new_words) (has_bit words)
      (range_with_len (i + 1) n) (λ k c. set_other k (let ge = (in_range (i + 1) n k c).0 in λ e. omega arith)) in
      record {
        front = filter (has_bit words) (range_with_len 0 i);
        back = filter (has_bit words) (range_with_len (i + 1) n);
        before = split words i n all;
        after = split new_words i n all_new ∙ (λ j. low j ++ cond (set_here j) (i ∷ high j) (high j));
      }

  fresh_is : eqb (bit_and word (1 * 2 ^ (i % 64) % 2 ^ 64)) 0 ≡ not (has_bit words i)
  fresh_is = bit_clear word (i % 64) (omega arith)

  pub set_counted : MatchBool (eqb (bit_and word (1 * 2 ^ (i % 64) % 2 ^ 64)) 0)
      (length (numbers new_words) ≡ length (numbers words) + 1) (numbers new_words ≡ numbers words)
  set_counted = subst (λ b. MatchBool b (length (numbers new_words) ≡ length (numbers words) + 1)
      (numbers new_words ≡ numbers words)) (sym fresh_is)
      (one_more i (has_bit words i) (numbers words) (numbers new_words) put_in)

  pub set_added : IsTrue (eqb (bit_and word (1 * 2 ^ (i % 64) % 2 ^ 64)) 0) ↔ (Contains (numbers words) i → ⊥)
  set_added = (
    λ t c. true≢false (sym (number_set words i c).1 ∙ not-true (has_bit words i) (sym fresh_is ∙ t)),
    λ apart. fresh_is ∙ absent (has_bit words i) (λ e. apart (number_there words i within e)),
  )
    where
      absent : (b : Bool) → (b ≡ true → ⊥) → not b ≡ true
      absent true h = absurd (h refl)
      absent false h = refl

  pub set_numbers : AreNumbers (λ n. (n ≡ i) ⊎ Contains (numbers words) n) (numbers new_words)
  set_numbers = record { rising = numbers_rise new_words; each = each_new; listed = listed_new }
    where
      each_new : (n : ℕ) → Contains (numbers new_words) n → (n ≡ i) ⊎ Contains (numbers words) n
      each_new n c = (let s = number_set new_words n c in
          elim (cases_eq n i) [
            | inl same ↦ inl same
            | inr apart ↦ inr (number_there words n (omega (arith, s.0, as_long)) (sym (set_other n apart) ∙ s.1))
          ])

      there : (n : ℕ) → n < 64 * length words → has_bit new_words n ≡ true → Contains (numbers new_words) n
      there n lt e = number_there new_words n (omega (arith, as_long)) e

      listed_new : (n : ℕ) → (n ≡ i) ⊎ Contains (numbers words) n → Contains (numbers new_words) n
      listed_new n (inl same) = subst (Contains (numbers new_words)) (sym same) (there i within set_here)
      listed_new n (inr old) = (let s = number_set words n old in
          elim (cases_eq n i) [
            | inl same ↦ subst (Contains (numbers new_words)) (sym same) (there i within set_here)
            | inr apart ↦ there n s.0 (set_other n apart ∙ s.1)
          ])

  pub set_long : length new_words ≡ length words
  set_long = as_long

-- ---- the same words

pub same_words : (words others : List ℕ) (r : Bool) → r ≡ pointwise nat_eq words others → IsTrue r → words ≡ others
same_words words others r is t = (bytes_eq-Decides words others).0 (sym is ∙ t)

-- ---- no number

all_zero_at : (words : List ℕ) → list_all (λ (w : ℕ). eqb w 0) words ≡ true → (k : ℕ) → get_or words k 0 ≡ 0
all_zero_at [] e k = refl
all_zero_at (w ∷ words) e zero = eqb-true w 0 (and_parts (eqb w 0) (list_all (λ (u : ℕ). eqb u 0) words) e).0
all_zero_at (w ∷ words) e (suc k) = all_zero_at words (and_parts (eqb w 0) (list_all (λ (u : ℕ). eqb u 0) words) e).1 k

each_zero : (words : List ℕ) → ((k : ℕ) → k < length words → get_or words k 0 ≡ 0) → list_all (λ (w : ℕ). eqb w 0) words ≡ true
each_zero [] h = refl
each_zero (w ∷ words) h = and_from (eqb w 0) (list_all (λ (u : ℕ). eqb u 0) words) (eq-eqb w 0 (h 0 (omega arith)))
    (each_zero words (λ k lt. h (suc k) (omega arith)))

pub at_row : (words : List ℕ) (k r : ℕ) → r < 64 → has_bit words (64 * k + r) ≡ eqb (bit_at (get_or words k 0) r) 1
at_row words k r lt =
    let row : (64 * k + r) / 64 ≡ k = omega arith in
    let column : (64 * k + r) % 64 ≡ r = omega arith in
    λ i. eqb (bit_at (get_or words (row i) 0) (column i)) 1

none_there : (words : List ℕ) → ((k : ℕ) → get_or words k 0 < 2 ^ 64) → numbers words ≡ [] → (k : ℕ) → k < length words → get_or words k 0 ≡ 0
none_there words fits none k lt =
    same_from_bits_below 64 (get_or words k 0) 0 (fits k) (omega arith) (λ r small.
    let b : ℕ = bit_at (get_or words k 0) r in
    elim (cases_eq b 1) as (λ _. b ≡ bit_at 0 r) [
      | inl one ↦ absurd (let c = subst (λ l. Contains l (64 * k + r)) none
          (number_there words (64 * k + r) (omega arith) (at_row words k r small ∙ eq-eqb b 1 one)) in let past =
          c.1 in omega arith)
      | inr other ↦ (let zero_bit : b ≡ 0 = omega (arith, bit_at-lt (get_or words k 0) r) in zero_bit ∙ sym (bit_at-zero r))
    ])

pub zero_exact : (words : List ℕ) (r : Bool) → ((k : ℕ) → get_or words k 0 < 2 ^ 64) → r ≡ list_all (λ (w : ℕ). eqb w 0) words → IsTrue r ↔ (numbers words ≡ [])
zero_exact words r fits is = (
  λ t. numbers_of_zero words (all_zero_at words (sym is ∙ t)),
  λ none. is ∙ each_zero words (none_there words fits none),
)

-- ---- the numbers in order

-- nothing stands below the lowest bit that is set
bits_below : (word first b : ℕ) → ((i : ℕ) → i < b → bit_at word i ≡ 0) → bits_of word first b ≡ []
unfolding bits_of
bits_below word first zero clear = refl
bits_below word first (suc b) clear =
    ap (λ l. l ++ bit_number word first b) (bits_below word first b (λ i lt. clear i (omega (arith, lt))))
    ∙ ap (λ t. cond (eqb t 1) ((first + b) ∷ []) []) (clear b (omega arith))

-- nor above the highest
bits_above : (word first m b : ℕ) → word < 2 ^ m → m ≤ b → bits_of word first b ≡ bits_of word first m
unfolding bits_of
bits_above word first m zero fits le = (let e : 0 ≡ m = omega arith in ap (bits_of word first) e)
bits_above word first m (suc b) fits le = elim (cases_lt b m) as (λ _. bits_of word first (suc b) ≡ bits_of word first m) [
  | inl lt ↦ (let e : suc b ≡ m = omega arith in ap (bits_of word first) e)
  | inr ge ↦
      (ap (λ t. bits_of word first b ++ cond (eqb t 1) ((first + b) ∷ []) []) (bit_at_above word m b fits ge)
      ∙ append-nil (bits_of word first b) ∙ bits_above word first m b fits ge)
]

some_word : (word : ℕ) → (word ≡ 0 → ⊥) → 0 < word
some_word zero h = absurd (h refl)
some_word (suc word) h = omega arith

pub bits_begin : (word first : ℕ) (old : List ℕ) → word < 2 ^ 64 → (word ≡ 0 → ⊥) → old ≡ old ++ bits_of word first (trailing_zeros w64 word)
bits_begin word first old fits some =
    sym (append-nil old) ∙ ap (λ l. old ++ l) (sym
    (bits_below word first (trailing_zeros w64 word) (bit_at-trailing_zeros w64 word (some_word word some) fits).2))

pub bits_end : (word first b : ℕ) (start now : List ℕ) → word < 2 ^ 64 → 64 - leading_zeros w64 word ≤ b
    → now ≡ start ++ bits_of word first b → now ≡ start ++ bits_of word first 64
bits_end word first b start now fits past h =
    let top = leading_length 64 word fits in
    let all = top.1 in
    h ∙ ap (λ l. start ++ l) (bits_above word first top.0 b top.2 (omega (arith, all, past)) ∙ sym (bits_above word first top.0 64 top.2 (omega (arith, all))))

pub bits_more : (word first b : ℕ) (start old new : List ℕ) → old ≡ start ++ bits_of word first b
    → new ≡ old ++ bit_number word first b → new ≡ start ++ bits_of word first (b + 1)
unfolding bits_of
bits_more word first b start old new before now =
    let next : b + 1 ≡ suc b = omega arith in
    now ∙ ap (λ l. l ++ bit_number word first b) before
    ∙ append_assoc start (bits_of word first b) (bit_number word first b)
    ∙ ap (λ n. start ++ bits_of word first n) (sym next)

pub bits_none : (word first n : ℕ) → word ≡ 0 → bits_of word first n ≡ []
unfolding bits_of
bits_none word first zero e = refl
bits_none word first (suc n) e =
    let none : eqb (bit_at word n) 1 ≡ false = ap (λ w. eqb (bit_at w n) 1) e ∙ ap (λ b. eqb b 1) (bit_at-zero n) in
    ap (λ l. l ++ bit_number word first n) (bits_none word first n e) ∙ ap (λ t. cond t ((first + n) ∷ []) []) none

-- the numbers below a word
unfoldable pub below : List ℕ → ℕ → List ℕ
below words place = filter (has_bit words) (range_with_len 0 (64 * place))

bits_in : (words : List ℕ) (place b : ℕ) → b ≤ 64 → bits_of (get_or words place 0) (64 * place) b ≡ filter (has_bit words) (range_with_len (64 * place) b)
unfolding bits_of
bits_in words place zero le = refl
bits_in words place (suc b) le =
    let here : has_bit words (64 * place + b) ≡ eqb (bit_at (get_or words place 0) b) 1 = at_row words place b (omega arith) in
    ap (λ l. l ++ bit_number (get_or words place 0) (64 * place) b) (bits_in words place b (omega arith))
    ∙ ap (λ t. filter (has_bit words) (range_with_len (64 * place) b) ++ cond t ((64 * place + b) ∷ []) []) (sym here)
    ∙ sym (filter-append (has_bit words) (range_with_len (64 * place) b) ((64 * place + b) ∷ []))
    ∙ ap (filter (has_bit words)) (sym (range_two (64 * place) b 1 (suc b) (omega arith)))

pub below_begin : (words : List ℕ) → [] ≡ below words 0
unfolding below
below_begin words = refl

pub below_more : (words : List ℕ) (place : ℕ) (old new : List ℕ) → old ≡ below words place
    → new ≡ old ++ bits_of (get_or words place 0) (64 * place) 64 → new ≡ below words (place + 1)
unfolding below
below_more words place old new before now =
    now
    ∙ (λ i. before i ++ bits_in words place 64 (omega arith) i)
    ∙ sym (filter-append (has_bit words) (range_with_len 0 (64 * place)) (range_with_len (64 * place) 64))
    ∙ ap (filter (has_bit words)) (sym (range_two 0 (64 * place) 64 (64 * (place + 1)) (omega arith)
    ∙ ap (λ a. range_with_len 0 (64 * place) ++ range_with_len a 64)
    (let from : 0 + 64 * place ≡ 64 * place = omega arith in from)))

pub below_none : (words : List ℕ) (place : ℕ) (list : List ℕ) → list ≡ below words place → get_or words place 0 ≡ 0 → list ≡ below words (place + 1)
below_none words place list before none =
    below_more words place list list before (sym (ap (λ l. list ++ l) (bits_none (get_or words place 0) (64 * place) 64 none) ∙ append-nil list))

pub below_all : (words : List ℕ) (place : ℕ) (list : List ℕ) → place ≡ length words → list ≡ below words place → list ≡ numbers words
unfolding below numbers
below_all words place list all is = is ∙ ap (λ n. filter (has_bit words) (range_with_len 0 (64 * n))) all
