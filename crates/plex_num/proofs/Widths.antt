-- Widths of 32 bits and more hold every number.
use Rattle.std.proofs.Common.{◌<◌, ◌≤◌, ◌^◌, ℕ, arith}
use Rattle.std.proofs.Math.Nat.{pow-le-pow_right}

pub below_wide : (value width : ℕ) → value < 2 ^ 32 → 32 ≤ width → value < 2 ^ width
below_wide value width below wide =
    let more : 2 ^ 32 ≤ 2 ^ width = pow-le-pow_right (omega arith) wide in omega (arith, below, more)
