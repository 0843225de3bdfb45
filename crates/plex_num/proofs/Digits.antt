-- Reading digits from the front.
use Rattle.std.proofs.Common.{◌≡◌, ℕ, Bool, true, false, ◌&&◌, ◌+◌, ◌*◌, ◌-◌, ◌^◌, ◌<◌, ◌≤◌, List}
use Rattle.std.proofs.Common.{◌∷◌, length, drop, get_or, Option, Some, None, refl, sym, ◌∙◌, arith}
use Rattle.std.proofs.Common.{add-one, if◌then◌else◌}
use Rattle.std.proofs.lemmas.List.{drop_more, drop_all}
use Rattle.std.proofs.lemmas.Bool.{lt-ltb, lt-leb, le-leb, ltb-true}
use Rattle.std.proofs.lemmas.Option.{none-some, same_Some}
use Rattle.std.specs.Prelude.{nat_le, nat_lt}
use Rattle.std.proofs.Math.Nat.{pow-suc}
use Rattle.std.proofs.Math.Nat.{pow-le-pow_right}
use Rattle.std.specs.Char.{is_ascii_digit}
use Rattle.plex_num.specs.Number.{digits_from, number_of, below_2_32}

-- what the digits from a byte on say
digits_cons : (n b : ℕ) (rest : List ℕ) → digits_from n (b ∷ rest) ≡ (if is_ascii_digit b then digits_from (n * 10 + (b - 48)) rest else None)
unfolding digits_from
digits_cons n b rest = refl

-- a digit more
pub digits_step : (text : List ℕ) (i n b m : ℕ) (o : Option ℕ) → i < length text → b ≡ get_or text i 0
    → is_ascii_digit b ≡ true → m ≡ n * 10 + (b - 48) → digits_from n (drop i text) ≡ o
    → digits_from m (drop (i + 1) text) ≡ o
digits_step text i n b m o lt is digit make e =
    let more : digits_from n (drop i text) ≡ digits_from m (drop (i + 1) text) = rw (drop_more text i 0 lt, ← is, digits_cons, digit, make) refl in
    sym more ∙ e

-- a byte that is no digit
pub digits_stop : (text : List ℕ) (i n b : ℕ) (o : Option ℕ) → i < length text → b ≡ get_or text i 0
    → is_ascii_digit b ≡ false → digits_from n (drop i text) ≡ o → None ≡ o
digits_stop text i n b o lt is digit e =
    let more : digits_from n (drop i text) ≡ None = rw (drop_more text i 0 lt, ← is, digits_cons, digit) refl in
    sym more ∙ e

-- after the last byte
pub digits_end : (text : List ℕ) (i n : ℕ) (o : Option ℕ) → length text ≤ i → digits_from n (drop i text) ≡ o → Some n ≡ o
unfolding digits_from
digits_end text i n o le e = let here : digits_from n (drop i text) ≡ Some n = rw (drop_all i text le) refl in sym here ∙ e

-- the bound goes on
pub small_step : (n i d m : ℕ) → n < 10 ^ i → d ≤ 9 → m ≡ n * 10 + d → m < 10 ^ (i + 1)
small_step n i d m lt le make = let p : 10 ^ (i + 1) ≡ 10 ^ i * 10 = rw (add-one i) (pow-suc 10 i) in omega (arith, p)

-- ten digits fit
pub small_fits : (n i : ℕ) → n < 10 ^ i → i ≤ 10 → n < 10 ^ 10
small_fits n i lt le = let l : 10 ^ i ≤ 10 ^ 10 = pow-le-pow_right (omega arith) le in omega arith

pub number_of_digits : (text : List ℕ) (o : Option ℕ) → 0 < length text → length text ≤ 10 → o ≡ digits_from 0 text → number_of text ≡ below_2_32 o
unfolding number_of
number_of_digits text o some few e = rw (lt-ltb 0 (length text) some, le-leb (length text) 10 few, ← e) refl

pub number_of_empty : (text : List ℕ) → length text ≡ 0 → number_of text ≡ None
unfolding number_of
number_of_empty text e = rw e refl

pub number_of_long : (text : List ℕ) → 10 < length text → number_of text ≡ None
unfolding number_of
number_of_long text e = let some : 0 < length text = omega arith in rw (lt-ltb 0 (length text) some, lt-leb (length text) 10 e) refl

-- what a text says is a number of 32 bits

below : (b : Bool) (k n : ℕ) → nat_lt k (2 ^ 32) ≡ b → (if b then Some k else None) ≡ Some n → n < 2 ^ 32
below true k n lt e = let same : k ≡ n = same_Some k n e in let under = ltb-true k (2 ^ 32) lt in omega (arith, same, under)
below false k n lt e = absurd (none-some n e)

pub below_small : (o : Option ℕ) (n : ℕ) → below_2_32 o ≡ Some n → n < 2 ^ 32
below_small None n e = absurd (none-some n e)
below_small (Some k) n e = below (nat_lt k (2 ^ 32)) k n refl e

tested : (b : Bool) (o : Option ℕ) (n : ℕ) → (if b then below_2_32 o else None) ≡ Some n → n < 2 ^ 32
tested true o n e = below_small o n e
tested false o n e = absurd (none-some n e)

pub number_small : (text : List ℕ) (n : ℕ) → number_of text ≡ Some n → n < 2 ^ 32
unfolding number_of
number_small text n e = tested (nat_lt 0 (length text) && nat_le (length text) 10) (digits_from 0 text) n e

-- what a loop over the digits uses, and what a choice by the length does
pub ruleset digits_read = (digits_step, digits_stop, digits_end, small_step)

pub ruleset numbers_told = (number_of_digits, number_of_empty, number_of_long)
