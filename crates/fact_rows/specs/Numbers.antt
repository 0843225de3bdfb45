-- Numbers kept as bits of words, 64 to a word.
use Rattle.std.specs.Prelude.{◌≡◌, ℕ, zero, suc, ◌+◌, ◌*◌, ◌/◌, ◌%◌, ◌^◌, ◌≤◌, Bool, List, [], ◌∷◌}
use Rattle.std.specs.Prelude.{◌++◌, length, ◌==◌, slice_index, if◌then◌else◌}
use Rattle.std.specs.List.{Contains, filter, range_with_len}
use Rattle.std.specs.List.Sorted.{IsStrictlySortedBy}
use Rattle.std.specs.Ordering.{nat_cmp}
use Rattle.std.specs.Int.{bit_at}

-- the bit of a number, counted from the lowest bit of the first word
abbrev pub has_bit : List ℕ → ℕ → Bool
has_bit words n = bit_at (slice_index words (n / 64)) (n % 64) == 1

-- the numbers whose bits are set, rising
unfoldable pub numbers : List ℕ → List ℕ
numbers words = filter (has_bit words) (range_with_len 0 (64 * length words))

-- exactly these numbers, rising
pub record AreNumbers (P : ℕ → Type 0) (list : List ℕ) : Type 0 where
  pub rising : IsStrictlySortedBy nat_cmp list
  pub each : (n : ℕ) → Contains list n → P n
  pub listed : (n : ℕ) → P n → Contains list n

-- words in which the bits of exactly these numbers are set, few enough for numbers of 32 bits
pub record AreWordsOf (ns words : List ℕ) : Type 0 where
  pub is : numbers words ≡ ns
  pub few : 64 * length words ≤ 2 ^ 32

-- the number of a bit of a word, if it is set, where the lowest bit has this number
abbrev pub bit_number : ℕ → ℕ → ℕ → List ℕ
bit_number word first b = (if bit_at word b == 1 then (first + b) ∷ [] else [])

-- those of the bits below a bit
unfoldable pub bits_of : ℕ → ℕ → ℕ → List ℕ
bits_of word first zero = []
bits_of word first (suc b) = bits_of word first b ++ bit_number word first b
