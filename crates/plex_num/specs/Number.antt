-- Numbers as text.
use Rattle.std.specs.Prelude.{ℕ, ◌+◌, ◌*◌, ◌-◌, ◌^◌, ◌&&◌, nat_le, nat_lt, List, [], ◌∷◌, length}
use Rattle.std.specs.Prelude.{Option, Some, None, if◌then◌else◌}
use Rattle.std.specs.Char.{is_ascii_digit}

-- the number that the digits of n and these make, nothing where a byte is no digit
unfoldable pub digits_from : ℕ → List ℕ → Option ℕ
digits_from n [] = Some n
digits_from n (b ∷ rest) = (if is_ascii_digit b then digits_from (n * 10 + (b - 48)) rest else None)

-- the value, where it is below 2^32
abbrev pub below_2_32 : Option ℕ → Option ℕ
below_2_32 None = None
below_2_32 (Some n) = (if nat_lt n (2 ^ 32) then Some n else None)

-- what a text of 1 to 10 digits with a value below 2^32 says
unfoldable pub number_of : List ℕ → Option ℕ
number_of text =
    (if nat_lt 0 (length text) && nat_le (length text) 10
    then below_2_32 (digits_from 0 text)
    else None)
