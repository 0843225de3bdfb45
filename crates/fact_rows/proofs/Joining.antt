-- Words that get the bits of others, and a set that gets the numbers of another one.
use Rattle.std.proofs.Common.{◌≡◌, ◌⊎◌, inl, inr, ⊎_elim, ℕ, zero, suc, ◌+◌, ◌-◌, ◌*◌, ◌/◌, ◌%◌}
use Rattle.std.proofs.Common.{◌^◌, ◌<◌, ◌≤◌, ◌||◌, ◌↔◌, Bool, true, false, not, cond, eqb, List, []}
use Rattle.std.proofs.Common.{◌∷◌, length, get_or, set, Contains, refl, sym, subst, ap, ◌∙◌, arith}
use Rattle.std.proofs.Common.{length-set, get_or-set_same, get_or-set_other, eq-eqb, ne_eqb}
use Rattle.std.specs.Prelude.{bit_or, max, IsTrue}
use Rattle.std.specs.Bool.{MatchBool}
use Rattle.std.specs.Int.{bit_at}
use Rattle.std.specs.List.{All, filter, range_with_len}
use Rattle.std.specs.List.Sorted.{IsStrictlySortedBy}
use Rattle.std.specs.Ordering.{nat_cmp}
use Rattle.std.proofs.lemmas.Bool.{cases_eq, cases_lt, eqb-true, eqb-false, true≢false}
use Rattle.std.proofs.lemmas.List.{ext_get_or, set-get_or}
use Rattle.std.proofs.lemmas.List.Elements.{All-set}
use Rattle.std.proofs.lemmas.Nat.Bits.{bit_at_above, bit_at_or, bit_at-lt, same_from_bits}
use Rattle.plex_num.proofs.Members.{first_or_later, later_is, none_in}
use Rattle.fact_rows.specs.declared.sets.Sets.{Sets}
use Rattle.fact_rows.specs.declared.planes.Planes.{Planes}
use Rattle.fact_rows.specs.Numbers.{AreNumbers, has_bit, numbers}
use Rattle.fact_rows.specs.Grids.{IsJoinedAt}
use Rattle.fact_rows.specs.Spread.{IsAlike, IsSound, IsWordsOf, row_of, set_in, shown_at, KeepsRow}
use Rattle.fact_rows.proofs.Numbering.{at_row, in_range, number_there, number_set, numbers_rise}
use Rattle.fact_rows.proofs.Numbering.{range_has}
use Rattle.fact_rows.proofs.Spreading.{number_inside, row_at, row_changed, row_long, set_below}
use Rattle.fact_rows.proofs.Spreading.{set_there, shown_kept, shown_own, words_long}

-- ---- bits

or_one : (a b : ℕ) → a < 2 → b < 2 → max a b ≡ 1 → (b ≡ 1) ⊎ (a ≡ 1)
or_one (suc zero) b low few is = inr refl
or_one zero (suc zero) low few is = inl refl
or_one zero zero low few is = absurd (omega (arith, is))
or_one zero (suc (suc b)) low few is = absurd (omega (arith, few))
or_one (suc (suc a)) b low few is = absurd (omega (arith, low))

one_or : (a b : ℕ) → a < 2 → b < 2 → (b ≡ 1) ⊎ (a ≡ 1) → max a b ≡ 1
one_or zero (suc zero) low few is = refl
one_or (suc zero) zero low few is = refl
one_or (suc zero) (suc zero) low few is = refl
one_or zero zero low few (inl is) = absurd (omega (arith, is))
one_or zero zero low few (inr is) = absurd (omega (arith, is))
one_or a (suc (suc b)) low few is = absurd (omega (arith, few))
one_or (suc (suc a)) b low few is = absurd (omega (arith, low))

-- two words differ in a bit, or in none
differ : (n a b : ℕ) → ((r : ℕ) → r < n → bit_at a r ≡ bit_at b r) ⊎ ((r : ℕ) × (r < n) × (bit_at a r ≡ bit_at b r → ⊥))
differ zero a b = inl (λ r lt. absurd (omega (arith, lt)))
differ (suc n) a b =
    elim (cases_eq (bit_at a n) (bit_at b n)) [
      | inr apart ↦ inr (n, omega arith, apart)
      | inl same ↦
          ⊎_elim
          (λ all. inl (λ r lt. elim (cases_eq r n) as (λ _. bit_at a r ≡ bit_at b r)
          [ inl here ↦ subst (λ k. bit_at a k ≡ bit_at b k) (sym here) same | inr other ↦ all r (omega arith) ]))
          (λ found. inr (found.0, (let lt = found.1 in omega arith), found.2))
          (differ n a b)
    ]

-- some bit is set that was not
pub record HasMoreBits (old now : List ℕ) : Type 0 where
  pub place : ℕ
  pub bit : ℕ
  pub within : place < length old
  pub small : bit < 64
  pub clear : bit_at (get_or old place 0) bit ≡ 0
  pub set_now : bit_at (get_or now place 0) bit ≡ 1

-- the words before a place are joined
pub record JoinsWords (old others : List ℕ) (i : ℕ) (grown : Bool) (now : List ℕ) : Type 0 where
  pub long : length now ≡ length old
  pub done : (k : ℕ) → k < i → get_or now k 0 ≡ bit_or (get_or old k 0) (get_or others k 0)
  pub rest : (k : ℕ) → i ≤ k → get_or now k 0 ≡ get_or old k 0
  pub change : MatchBool grown (HasMoreBits old now) (now ≡ old)

pub joins_begin : (old others : List ℕ) → JoinsWords old others 0 false old
joins_begin old others = record { long = refl; done = λ k lt. absurd (omega (arith, lt)); rest = λ k le. refl; change = refl }

module _ (old others now : List ℕ) (i word other joined : ℕ) (lt : i < length now) (other_fits : other < 2 ^ 64)
    (word_is : word ≡ get_or now i 0) (other_is : other ≡ get_or others i 0) (joined_is : joined ≡ bit_or word other) where
  abbrev new_words : List ℕ
  new_words = set now i joined

  here : get_or new_words i 0 ≡ joined
  here = get_or-set_same now i joined 0 lt

  more_bits : (grown : Bool) → JoinsWords old others i grown now → (joined ≡ word → ⊥) → HasMoreBits old new_words
  more_bits grown g apart =
      ⊎_elim
      (λ all. absurd (apart (same_from_bits joined word (λ r. elim (cases_lt r 64) as (λ _. bit_at joined r ≡ bit_at word r) [
        | inl low ↦ all r low
        | inr high ↦ ap (λ w. bit_at w r) joined_is ∙ bit_at_or word other r
            ∙ ap (max (bit_at word r)) (bit_at_above other 64 r other_fits high)
            ∙ or_zero (bit_at word r) (bit_at-lt word r)
      ]))))
      (λ found.
      let r : ℕ = found.0 in
      let is : bit_at joined r ≡ max (bit_at word r) (bit_at other r) = ap (λ w. bit_at w r) joined_is ∙ bit_at_or word other r in
      let off : bit_at word r ≡ 0 = clear (bit_at word r) (bit_at other r) (bit_at-lt word r) (bit_at-lt other r) (λ e. found.2 (is ∙ e)) in
      let on : bit_at joined r ≡ 1 = (let low = bit_at-lt joined r in let differs : bit_at joined r ≡ 0
      → ⊥ = (λ e. found.2 (e ∙ sym off)) in omega (arith, low, differs)) in
      let long = g.long in
      record {
        place = i;
        bit = r;
        within = omega arith;
        small = found.1;
        clear = ap (λ w. bit_at w r) (sym (word_is ∙ g.rest i (omega arith))) ∙ off;
        set_now = ap (λ w. bit_at w r) here ∙ on;
      })
      (differ 64 joined word)
    where
      or_zero : (a : ℕ) → a < 2 → max a 0 ≡ a
      or_zero zero low = refl
      or_zero (suc zero) low = refl
      or_zero (suc (suc a)) low = absurd (omega (arith, low))

      clear : (a b : ℕ) → a < 2 → b < 2 → (max a b ≡ a → ⊥) → a ≡ 0
      clear zero b low few apart = refl
      clear (suc zero) zero low few apart = absurd (apart refl)
      clear (suc zero) (suc zero) low few apart = absurd (apart refl)
      clear (suc zero) (suc (suc b)) low few apart = absurd (omega (arith, few))
      clear (suc (suc a)) b low few apart = absurd (omega (arith, low))

  still_bits : HasMoreBits old now → ((k : ℕ) → i ≤ k → get_or now k 0 ≡ get_or old k 0) → HasMoreBits old new_words
  still_bits h rest =
      elim (cases_eq h.place i) [
        | inl same ↦
            absurd (let off = h.clear in let on = h.set_now in let was : bit_at (get_or now h.place 0) h.bit
            ≡ bit_at (get_or old h.place 0) h.bit = ap (λ w. bit_at w h.bit) (rest h.place (omega arith)) in omega
            (arith, off, on, was))
        | inr apart ↦ record {
          place = h.place;
          bit = h.bit;
          within = h.within;
          small = h.small;
          clear = h.clear;
          set_now = ap (λ w. bit_at w h.bit) (get_or-set_other now i h.place joined 0 apart) ∙ h.set_now;
        }
      ]

  changed : (grown : Bool) → JoinsWords old others i grown now → (t : Bool) → eqb joined word ≡ t
      → MatchBool (grown || not t) (HasMoreBits old new_words) (new_words ≡ old)
  changed true g true same = still_bits g.change g.rest
  changed true g false same = still_bits g.change g.rest
  changed false g true same = ap (set now i) (eqb-true joined word same ∙ word_is) ∙ set-get_or now i 0 ∙ g.change
  changed false g false apart = more_bits false g (eqb-false joined word apart)

  pub joins_more : (grown : Bool) → JoinsWords old others i grown now → JoinsWords old others (i + 1) (grown || not (eqb joined word)) new_words
  joins_more grown g = record {
    long = length-set now i joined ∙ g.long;
    done = λ k below. elim (cases_eq k i) as (λ _. get_or new_words k 0 ≡ bit_or (get_or old k 0) (get_or others k 0)) [
      | inl same ↦ subst (λ n. get_or new_words n 0 ≡ bit_or (get_or old n 0) (get_or others n 0)) (sym same)
          (here ∙ joined_is ∙ (λ j. bit_or ((word_is ∙ g.rest i (omega arith)) j) (other_is j)))
      | inr apart ↦ get_or-set_other now i k joined 0 apart ∙ g.done k (omega arith)
    ];
    rest = λ k le. get_or-set_other now i k joined 0 (λ e. omega (arith, e, le)) ∙ g.rest k (omega arith);
    change = changed grown g (eqb joined word) refl;
  }

-- ---- numbers

few_pass : (p q : ℕ → Bool) (xs : List ℕ) → ((x : ℕ) → Contains xs x → p x ≡ true → q x ≡ true) → length (filter p xs) ≤ length (filter q xs)
few_pass p q [] h = omega arith
few_pass p q (x ∷ xs) h = by (p x) (q x) (h x (0, omega arith, refl)) (few_pass p q xs (λ y c. h y (later_is x y xs c)))
  where
    by : (a b : Bool) → (a ≡ true → b ≡ true) → length (filter p xs) ≤ length (filter q xs)
        → length (cond a (x ∷ filter p xs) (filter p xs)) ≤ length (cond b (x ∷ filter q xs) (filter q xs))
    by true true f le = omega (arith, le)
    by true false f le = absurd (true≢false (sym (f refl)))
    by false true f le = omega (arith, le)
    by false false f le = le

fewer_pass : (p q : ℕ → Bool) (xs : List ℕ) → ((x : ℕ) → Contains xs x → p x ≡ true → q x ≡ true) → (y : ℕ)
    → Contains xs y → p y ≡ false → q y ≡ true → length (filter p xs) < length (filter q xs)
fewer_pass p q [] h y c off on = absurd (none_in y c)
fewer_pass p q (x ∷ xs) h y c off on =
    ⊎_elim
    (λ same. own (p x) (q x) (ap p same ∙ off) (ap q same ∙ on) (few_pass p q xs (λ z d. h z (later_is x z xs d))))
    (λ later. by (p x) (q x) (h x (0, omega arith, refl)) (fewer_pass p q xs (λ z d. h z (later_is x z xs d)) y later off on))
    (first_or_later x y xs c)
  where
    own : (a b : Bool) → a ≡ false → b ≡ true → length (filter p xs) ≤ length (filter q xs)
        → length (cond a (x ∷ filter p xs) (filter p xs)) < length (cond b (x ∷ filter q xs) (filter q xs))
    own false true e f le = omega (arith, le)
    own true b e f le = absurd (true≢false e)
    own false false e f le = absurd (true≢false (sym f))

    by : (a b : Bool) → (a ≡ true → b ≡ true) → length (filter p xs) < length (filter q xs)
        → length (cond a (x ∷ filter p xs) (filter p xs)) < length (cond b (x ∷ filter q xs) (filter q xs))
    by true true f le = omega (arith, le)
    by true false f le = absurd (true≢false (sym (f refl)))
    by false true f le = omega (arith, le)
    by false false f le = le

module _ (old others now : List ℕ) (i : ℕ) (grown : Bool) (g : JoinsWords old others i grown now)
    (past : length old ≤ i) (same_long : length others ≡ length old) where
  bit_is : (n : ℕ) → n < 64 * length old → bit_at (get_or now (n / 64) 0) (n % 64)
      ≡ max (bit_at (get_or old (n / 64) 0) (n % 64)) (bit_at (get_or others (n / 64) 0) (n % 64))
  bit_is n lt = ap (λ w. bit_at w (n % 64)) (g.done (n / 64) (omega arith)) ∙ bit_at_or (get_or old (n / 64) 0) (get_or others (n / 64) 0) (n % 64)

  still_set : (n : ℕ) → n < 64 * length old → has_bit old n ≡ true → has_bit now n ≡ true
  still_set n lt on = eq-eqb _ 1 (bit_is n lt ∙ one_or _ _ (bit_at-lt _ (n % 64)) (bit_at-lt _ (n % 64))
      (inr (eqb-true (bit_at (get_or old (n / 64) 0) (n % 64)) 1 on)))

  pub joined_numbers : AreNumbers (λ n. Contains (numbers others) n ⊎ Contains (numbers old) n) (numbers now)
  joined_numbers = record { rising = numbers_rise now; each = each; listed = listed }
    where
      each : (n : ℕ) → Contains (numbers now) n → Contains (numbers others) n ⊎ Contains (numbers old) n
      each n c =
          let s = number_set now n c in
          let lt : n < 64 * length old = (let within = s.0 in subst (λ l. n < 64 * l) g.long within) in
          ⊎_elim
          (λ on. inl (number_there others n (subst (λ l. n < 64 * l) (sym same_long) lt) (eq-eqb _ 1 on)))
          (λ on. inr (number_there old n lt (eq-eqb _ 1 on)))
          (or_one (bit_at (get_or old (n / 64) 0) (n % 64)) (bit_at (get_or others (n / 64) 0) (n % 64))
          (bit_at-lt _ (n % 64)) (bit_at-lt _ (n % 64))
          (sym (bit_is n lt) ∙ eqb-true (bit_at (get_or now (n / 64) 0) (n % 64)) 1 s.1))

      listed : (n : ℕ) → Contains (numbers others) n ⊎ Contains (numbers old) n → Contains (numbers now) n
      listed n (inl c) =
          let s = number_set others n c in
          let lt : n < 64 * length old = subst (λ l. n < 64 * l) same_long s.0 in
          number_there now n (subst (λ l. n < 64 * l) (sym g.long) lt)
          (eq-eqb _ 1 (bit_is n lt ∙ one_or _ _ (bit_at-lt _ (n % 64)) (bit_at-lt _ (n % 64))
          (inl (eqb-true (bit_at (get_or others (n / 64) 0) (n % 64)) 1 s.1))))
      listed n (inr c) =
          let s = number_set old n c in
          number_there now n (subst (λ l. n < 64 * l) (sym g.long) s.0) (still_set n s.0 s.1)

  pub joined_counted : MatchBool grown (length (numbers old) < length (numbers now)) (now ≡ old)
  unfolding numbers
  joined_counted = by grown g.change
    where
      by : (b : Bool) → MatchBool b (HasMoreBits old now) (now ≡ old) → MatchBool b (length (numbers old) < length (numbers now)) (now ≡ old)
      by false same = same
      by true h =
          let n : ℕ = 64 * h.place + h.bit in
          let small = h.small in
          let within = h.within in
          let lt : n < 64 * length old = omega arith in
          let all : length (filter (has_bit now) (range_with_len 0 (64 * length now)))
          ≡ length (filter (has_bit now) (range_with_len 0 (64 * length old))) =
          ap (λ l. length (filter (has_bit now) (range_with_len 0 (64 * l)))) g.long in
          let less = fewer_pass (has_bit old) (has_bit now) (range_with_len 0 (64 * length old))
          (λ x c. still_set x (let inside = (in_range 0 (64 * length old) x c).1 in omega (arith, inside)))
          n (range_has 0 (64 * length old) n (omega arith) (omega arith))
          (at_row old h.place h.bit small ∙ ne_eqb _ 1 (let off = h.clear in omega (arith, off)))
          (at_row now h.place h.bit small ∙ eq-eqb _ 1 h.set_now) in
          omega (arith, less, all)

-- ---- a set of a row that gets the numbers of another one

no_rise : IsStrictlySortedBy nat_cmp []
unfolding IsStrictlySortedBy
no_rise = tt

set_rises : (words : List ℕ) (first width n : ℕ) → IsStrictlySortedBy nat_cmp (set_in words first width n)
set_rises words first width n = elim (cases_lt n first) as (λ _. IsStrictlySortedBy nat_cmp (set_in words first width n)) [
  | inl lt ↦ subst (IsStrictlySortedBy nat_cmp) (sym (set_below words first width n lt)) no_rise
  | inr ge ↦ subst (IsStrictlySortedBy nat_cmp) (sym (set_there words first width n ge)) (numbers_rise _)
]

row_rises : (p : Planes) (i : ℕ) → i < length p.set_numbers → IsStrictlySortedBy nat_cmp (get_or (row_of p) i [])
row_rises p i lt = elim (cases_eq i p.own) as (λ _. IsStrictlySortedBy nat_cmp (get_or (row_of p) i [])) [
  | inl own ↦ subst (IsStrictlySortedBy nat_cmp) (sym (row_at p i lt ∙ shown_own p i own)) (numbers_rise p.laid.items)
  | inr apart ↦ subst (IsStrictlySortedBy nat_cmp) (sym (row_at p i lt ∙ shown_kept p i apart)) (set_rises _ _ _ _)
]

-- nothing comes to it
none_joined : (p : Planes) (from to : ℕ) → to < length p.set_numbers
    → ((n : ℕ) → Contains (get_or (row_of p) from []) n → Contains (get_or (row_of p) to []) n)
    → IsJoinedAt (row_of p) from to false (row_of p)
none_joined p from to lt all = record {
  within = (let whole = row_long p in omega (arith, whole, lt));
  list = get_or (row_of p) to [];
  is = sym (set-get_or (row_of p) to []);
  numbers = record { rising = row_rises p to lt; each = λ n c. inr c; listed = λ n c. ⊎_elim (all n) (λ own. own) c };
  counted = refl;
}

-- sets with the same number, where none is laid out
pub same_joined : (old p : Planes) (from to more own : ℕ) → IsAlike old p → length p.set_numbers ≤ p.own
    → from < length old.set_numbers → to < length old.set_numbers
    → more ≡ get_or p.set_numbers from 0 → own ≡ get_or p.set_numbers to 0 → own ≡ more → IsJoinedAt (row_of old) from to false (row_of p)
same_joined old p from to more own alike past from_in to_in more_is own_is same =
    let from_here : from < length p.set_numbers = omega (arith, from_in, alike.keeps.long) in
    let to_here : to < length p.set_numbers = omega (arith, to_in, alike.keeps.long) in
    let sets : get_or (row_of p) from [] ≡ get_or (row_of p) to [] =
    row_at p from from_here ∙ shown_kept p from (λ e. omega (arith, e, from_here, past))
    ∙ ap (set_in p.sets.words.items p.sets.first p.sets.width) (sym more_is ∙ sym same ∙ own_is)
    ∙ sym (row_at p to to_here ∙ shown_kept p to (λ e. omega (arith, e, to_here, past))) in
    subst (λ r. IsJoinedAt r from to false (row_of p)) alike.same (none_joined p from to to_here (λ n c. subst (λ l. Contains l n) sets c))

pub apart_numbers : (numbers : List ℕ) (from to more own : ℕ) → more ≡ get_or numbers from 0 → own ≡ get_or numbers to 0 → (own ≡ more → ⊥) → from ≡ to → ⊥
apart_numbers numbers from to more own more_is own_is apart same = apart (own_is ∙ ap (λ i. get_or numbers i 0) (sym same) ∙ sym more_is)

-- the set that is laid out gets those of another one, which has this number
module _ (old : Planes) (from n : ℕ) (from_in : from < length old.set_numbers)
    (own_in : old.own < length old.set_numbers) (apart : from ≡ old.own → ⊥)
    (is : n ≡ get_or old.set_numbers from 0) where
  from_set : get_or (row_of old) from [] ≡ set_in old.sets.words.items old.sets.first old.sets.width n
  from_set = row_at old from from_in ∙ shown_kept old from apart ∙ ap (set_in old.sets.words.items old.sets.first old.sets.width) (sym is)

  pub none_laid : n < old.sets.first → IsJoinedAt (row_of old) from old.own false (row_of old)
  none_laid below = none_joined old from old.own own_in
      (λ m c. absurd (none_in m (subst (λ l. Contains l m)
      (from_set ∙ set_below old.sets.words.items old.sets.first old.sets.width n below) c)))

  pub some_laid : (new : Planes) (grown : Bool) (others seen words : List ℕ) → new.sets ≡ old.sets
      → new.set_numbers ≡ old.set_numbers → new.own ≡ old.own
      → IsWordsOf old.sets.words.items old.sets.first old.sets.width n others
      → seen ≡ old.laid.items → new.laid.items ≡ words → AreNumbers (λ m. Contains (numbers others) m ⊎ Contains (numbers seen) m) (numbers words)
      → MatchBool grown (length (numbers seen) < length (numbers words)) (words ≡ seen) → IsJoinedAt (row_of old) from old.own grown (row_of new)
  some_laid new grown others seen words sets_so numbers_so own_so h seen_so words_so are counted = record {
    within = (let whole = row_long old in omega (arith, whole, own_in));
    list = numbers words;
    is = row_changed old new old.own words refl sets_so numbers_so own_so words_so own_in;
    numbers = subst (λ l. AreNumbers (λ m. Contains l m ⊎ Contains (get_or (row_of old) old.own []) m) (numbers words))
        from_was (subst (λ l. AreNumbers (λ m. Contains (numbers others) m ⊎ Contains l m) (numbers words)) was are);
    counted = by grown counted;
  }
    where
      was : numbers seen ≡ get_or (row_of old) old.own []
      was = ap numbers seen_so ∙ sym (row_at old old.own own_in ∙ shown_own old old.own refl)

      from_was : numbers others ≡ get_or (row_of old) from []
      from_was = ap numbers h.is ∙ sym (from_set ∙ set_there old.sets.words.items old.sets.first old.sets.width n h.from)

      by : (b : Bool) → MatchBool b (length (numbers seen) < length (numbers words)) (words ≡ seen)
          → MatchBool b (length (get_or (row_of old) old.own []) < length (numbers words))
          (numbers words ≡ get_or (row_of old) old.own [])
      by true less = subst (λ l. length l < length (numbers words)) was less
      by false same = ap numbers same ∙ was

  pub same_long : (others : List ℕ) → IsSound old
      → IsWordsOf old.sets.words.items old.sets.first old.sets.width n others → length others ≡ length old.laid.items
  same_long others sound h =
      let from_first = h.from in
      let inside = number_inside old from n sound from_in is in
      ap length h.is ∙ words_long old.sets.words.items old.sets.width (n - old.sets.first) (omega (arith, from_first, inside)) ∙ sym sound.laid_so

-- ---- a set that is none of those that are kept gets the number of another one

some_long : (ns : List ℕ) → (ns ≡ [] → ⊥) → 0 < length ns
some_long [] some = absurd (some refl)
some_long (n ∷ ns) some = omega arith

module _ (old : Planes) (from to : ℕ) (past : length old.set_numbers ≤ old.own) (to_in : to < length old.set_numbers) where
  pub none_shared : (blank : Bool) → (IsTrue blank ↔ (get_or (row_of old) from [] ≡ [])) → blank ≡ true → IsJoinedAt (row_of old) from to false (row_of old)
  none_shared blank tells is = none_joined old from to to_in (λ n c. absurd (none_in n (subst (λ l. Contains l n) (tells.0 is) c)))

  module _ (new : Planes) (n : ℕ) (from_in : from < length old.set_numbers) (is : n ≡ get_or old.set_numbers from 0)
      (sets_so : new.sets ≡ old.sets) (own_so : new.own ≡ old.own) (numbers_so : new.set_numbers ≡ set old.set_numbers to n) where
    abbrev given : List ℕ
    given = get_or (row_of old) from []

    as_many : length new.set_numbers ≡ length old.set_numbers
    as_many = ap length numbers_so ∙ length-set old.set_numbers to n

    out : (i : ℕ) → i < length old.set_numbers → shown_at old i ≡ set_in old.sets.words.items old.sets.first old.sets.width (get_or old.set_numbers i 0)
    out i lt = shown_kept old i (λ e. omega (arith, e, lt, past))

    out_new : (i : ℕ) → i < length old.set_numbers
        → shown_at new i ≡ set_in old.sets.words.items old.sets.first old.sets.width
        (get_or (set old.set_numbers to n) i 0)
    out_new i lt = shown_kept new i (λ e. omega (arith, e, lt, past, own_so))
        ∙ (λ k. set_in (sets_so k).words.items (sets_so k).first (sets_so k).width (get_or (numbers_so k) i 0))

    row_shared : row_of new ≡ set (row_of old) to given
    row_shared = ext_get_or [] (row_of new) (set (row_of old) to given) (row_long new ∙ as_many ∙ sym (length-set (row_of old) to given ∙ row_long old)) each
      where
        each : (i : ℕ) → i < length (row_of new) → get_or (row_of new) i [] ≡ get_or (set (row_of old) to given) i []
        each i below =
            let whole = row_long new in
            let in_new : i < length new.set_numbers = omega (arith, whole, below) in
            let in_old : i < length old.set_numbers = omega (arith, in_new, as_many) in
            let in_row : to < length (row_of old) = (let all = row_long old in omega (arith, all, to_in)) in
            elim (cases_eq i to) as (λ _. get_or (row_of new) i [] ≡ get_or (set (row_of old) to given) i []) [
              | inl here ↦
                  (row_at new i in_new ∙ out_new i in_old
                  ∙ ap (set_in old.sets.words.items old.sets.first old.sets.width)
                  (ap (λ k. get_or (set old.set_numbers to n) k 0) here
                  ∙ get_or-set_same old.set_numbers to n 0 to_in ∙ is)
                  ∙ sym (row_at old from from_in ∙ out from from_in)
                  ∙ sym (ap (λ k. get_or (set (row_of old) to given) k []) here ∙ get_or-set_same (row_of old) to given [] in_row))
              | inr apart ↦
                  (row_at new i in_new ∙ out_new i in_old
                  ∙ ap (set_in old.sets.words.items old.sets.first old.sets.width) (get_or-set_other old.set_numbers to i n 0 apart)
                  ∙ sym (row_at old i in_old ∙ out i in_old) ∙ sym (get_or-set_other (row_of old) to i given [] apart))
            ]

    pub some_shared : (blank : Bool) → (IsTrue blank ↔ (given ≡ [])) → blank ≡ false
        → get_or old.set_numbers to 0 < old.sets.first → IsJoinedAt (row_of old) from to true (row_of new)
    some_shared blank tells filled below = record {
      within = (let whole = row_long old in omega (arith, whole, to_in));
      list = given;
      is = row_shared;
      numbers = record {
        rising = row_rises old from from_in;
        each = λ m c. inl c;
        listed = λ m c. ⊎_elim (λ there. there) (λ own. absurd (none_in m (subst (λ l. Contains l m) none own))) c;
      };
      counted = omega (arith, ap length none, some_long given (λ e. true≢false (sym (tells.1 e) ∙ filled)));
    }
      where
        none : get_or (row_of old) to [] ≡ []
        none = row_at old to to_in ∙ out to to_in ∙ set_below old.sets.words.items old.sets.first old.sets.width (get_or old.set_numbers to 0) below

    pub shared_keeps : IsSound old → new.laid.items ≡ old.laid.items → KeepsRow old new
    shared_keeps sound laid_so = record {
      sound = record {
        wide = subst (λ (s : Sets). 0 < s.width) (sym sets_so) sound.wide;
        fits = subst (λ (s : Sets). 64 * s.width ≤ 2 ^ 32) (sym sets_so) sound.fits;
        laid_so = ap length laid_so ∙ sound.laid_so ∙ sym (ap (λ (s : Sets). s.width) sets_so);
        within = subst (λ l. All (λ m. m + new.sets.width ≤ new.sets.first + length new.sets.words.items) l)
            (sym numbers_so) (subst (λ (s : Sets). All (λ m. m + s.width ≤ s.first + length s.words.items)
            (set old.set_numbers to n)) (sym sets_so)
            (All-set (λ m. m + old.sets.width ≤ old.sets.first + length old.sets.words.items) old.set_numbers to n
            (number_inside old from n sound from_in is) sound.within));
      };
      long = as_many;
      width = ap (λ (s : Sets). s.width) sets_so;
    }
