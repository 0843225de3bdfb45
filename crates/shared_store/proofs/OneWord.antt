-- The span of one word holds that word, and no other.
use Rattle.std.proofs.Common.{◌≡◌, ℕ, ◌+◌, ◌*◌, true, subst, arith, lit<}
use Rattle.machine_code.specs.Permits.{spans}
use Rattle.machine_code.proofs.Spanned.{spans_in, spans_out}
use Rattle.shared_store.specs.OneWord.{one_word}

pub one_word_in : (w : ℕ) → spans (one_word w) w ≡ true
one_word_in w = let e : w + 0 * 1 ≡ w = omega arith in subst (λ (u : ℕ). spans (one_word w) u ≡ true) e (spans_in (one_word w) 0 (lit< tt))

pub one_word_out : (w u : ℕ) → spans (one_word w) u ≡ true → w ≡ u
one_word_out w u e = let o = spans_out (one_word w) u e in omega (arith, o.1, o.2)
