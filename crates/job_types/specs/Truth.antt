-- Numbers as tests: 0 is no, and every other number is yes.
use Rattle.std.specs.Prelude.{ℕ, zero, suc, Bool, true, false}

-- 1 where it is so, else 0
abbrev pub one_if : Bool → ℕ
one_if true = 1
one_if false = 0

abbrev pub is_set : ℕ → Bool
is_set zero = false
is_set (suc n) = true

-- one of two, by whether the number is 0
abbrev pub at_zero : {A : Type 0} → ℕ → A → A → A
at_zero zero a b = a
at_zero (suc n) a b = b
