-- A number of 32 bits has any width of 32 bits or more.
use Rattle.std.proofs.Common.{◌≡◌, ℕ, ◌<◌, ◌≤◌, false, arith}
use Rattle.std.specs.Prelude.{◌^◌, not, nat_lt}
use Rattle.std.proofs.Math.Pow.{pow_mono}

pub fits_wide : (value bits : ℕ) → value < 2 ^ 32 → 32 ≤ bits → false ≡ not (nat_lt value (2 ^ bits))
fits_wide value bits small wide =
    let most : 2 ^ 32 ≤ 2 ^ bits = pow_mono wide in
    let below : value < 2 ^ bits = omega arith in
    grind arith
