-- Numbers and orders: what comparing them tells.
use Rattle.std.proofs.Common.{◌≡◌, ℕ, ◌≤◌, true, refl, sym, arith}
use Rattle.std.specs.Ordering.{is_lt, nat_cmp}
use Rattle.std.specs.declared.cmp.Ordering.{Ordering}
use Rattle.std.specs.declared.cmp.Ordering.TheVariants.{Less, Equal, Greater}
use Rattle.std.proofs.lemmas.Cmp.{ranked}

pub is_less : (o : Ordering) → is_lt o ≡ true → o ≡ Less
is_less Less e = refl
is_less Equal e = cc
is_less Greater e = cc

pub nat_same : (a b : ℕ) → nat_cmp a b ≡ Equal → a ≡ b
nat_same a b e = ranked a b Equal (sym e)

-- what is no more than what is no more than a limit
pub few_enough : (most limit choices tokens text : ℕ) → limit ≤ most → choices ≤ tokens → tokens ≤ text → text ≤ limit → choices ≤ most
few_enough most limit choices tokens text a b c d = omega arith
