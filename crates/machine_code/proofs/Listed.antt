-- Words of a list that is no longer than a store.
use Rattle.std.proofs.Common.{◌≡◌, ℕ, ◌<◌, ◌≤◌, ◌^◌, true, nat_lt, List, length, arith}
use Rattle.std.proofs.lemmas.Bool.{and_from}
use Rattle.std.proofs.lemmas.Bool.Decides.{nat_tests}
use Rattle.machine_code.specs.Listed.{is_word_of}

pub word_of : (vs : List ℕ) (cells w : ℕ) → length vs ≡ cells → cells ≤ 1000000 → w < cells → is_word_of vs w ≡ true
word_of vs cells w whole few lt = and_from (nat_lt w (length vs)) (nat_lt w (2 ^ 32)) (grind (arith, nat_tests, whole, lt)) (grind (arith, nat_tests, few, lt))
