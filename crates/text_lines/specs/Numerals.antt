-- Numerals: decimal digits with no leading zero.
use Rattle.std.specs.Prelude.{ℕ, Bool, true, false, not, ◌&&◌, nat_eq, List, [], ◌∷◌}
use Rattle.std.specs.Char.{is_ascii_digit}
use Rattle.std.specs.List.{list_all}

-- the first digit is 0 only where it is the only one
abbrev pub begins_rightly : List ℕ → Bool
begins_rightly [] = false
begins_rightly (b ∷ []) = true
begins_rightly (b ∷ c ∷ rest) = not (nat_eq b 48)

-- digits with no leading zero
unfoldable pub is_numeral : List ℕ → Bool
is_numeral word = begins_rightly word && list_all is_ascii_digit word
