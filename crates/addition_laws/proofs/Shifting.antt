-- Sums and differences modulo a number, with an amount more.
use Rattle.std.proofs.Common.{◌≡◌, ℕ, ◌+◌, ◌-◌, ◌*◌, ◌%◌, ◌≤◌, sym, ap, ◌∙◌, arith}
use Rattle.std.proofs.Math.Nat.{add-mod-mod, mod-add-mod}

module _ (m k : ℕ) where
  -- what is added comes after the amount or before it
  pub more_added : (sum v : ℕ) → ((sum + k) % m + v) % m ≡ ((sum + v) % m + k) % m
  more_added sum v =
      let turned : sum + k + v ≡ sum + v + k = omega arith in
      mod-add-mod (sum + k) m v ∙ ap (λ n. n % m) turned ∙ sym (mod-add-mod (sum + v) m k)

  -- and so is what is taken away, where it is no more than the modulus
  pub more_taken : (sum v : ℕ) → v ≤ m → ((sum + k) % m + m - v) % m ≡ ((sum + m - v) % m + k) % m
  more_taken sum v le =
      let left : (sum + k) % m + m - v ≡ (sum + k) % m + (m - v) = omega (arith, le) in
      let right : sum + m - v ≡ sum + (m - v) = omega (arith, le) in
      ap (λ n. n % m) left ∙ more_added sum (m - v) ∙ ap (λ n. (n % m + k) % m) (sym right)

  -- the amount comes with the number that is added
  pub more_itself : (sum c : ℕ) → (sum + (1 * ((c + k) % m)) % m) % m ≡ ((sum + (1 * c) % m) % m + k) % m
  more_itself sum c =
      let one : 1 * ((c + k) % m) ≡ (c + k) % m = omega arith in
      let own : 1 * c ≡ c = omega arith in
      let turned : sum + (c + k) ≡ sum + k + c = omega arith in
      let last : sum + k + c % m ≡ sum + c % m + k = omega arith in
      add-mod-mod sum (1 * ((c + k) % m)) m ∙ ap (λ n. (sum + n) % m) one ∙ add-mod-mod sum (c + k) m
      ∙ ap (λ n. n % m) turned ∙ sym (add-mod-mod (sum + k) c m) ∙ ap (λ n. n % m) last
      ∙ sym (mod-add-mod (sum + c % m) m k) ∙ ap (λ n. ((sum + n % m) % m + k) % m) (sym own)
