-- Products of numbers of 32 bits.
use Rattle.std.proofs.Common.{ℕ, ◌+◌, ◌*◌, ◌<◌, ◌≤◌, ◌^◌, arith}
use Rattle.std.proofs.lemmas.Nat.{mul-le}

-- a number of 32 bits can be added to a product of two
pub product_small : (a b : ℕ) → a < 2 ^ 32 → b < 2 ^ 32 → a * b + 2 ^ 32 ≤ 2 ^ 64
product_small a b a_small b_small = let le = mul-le a b 4294967295 4294967295 (omega arith) (omega arith) in omega (arith, le)
