-- Words that lie in a list.
use Rattle.std.specs.Prelude.{◌≡◌, ℕ, ◌<◌, ◌^◌, Bool, true, ◌&&◌, nat_lt, List, length}
use Rattle.std.proofs.lemmas.Bool.{and_parts, ltb-true}

-- w is a place in the list, and a number that an instruction can hold
abbrev pub is_word_of : List ℕ → ℕ → Bool
is_word_of vs w = nat_lt w (length vs) && nat_lt w (2 ^ 32)

pub word_within : (vs : List ℕ) (w : ℕ) → is_word_of vs w ≡ true → w < length vs
word_within vs w e = ltb-true w (length vs) (and_parts (nat_lt w (length vs)) (nat_lt w (2 ^ 32))
    e).0

pub word_fits : (vs : List ℕ) (w : ℕ) → is_word_of vs w ≡ true → w < 2 ^ 32
word_fits vs w e = ltb-true w (2 ^ 32) (and_parts (nat_lt w (length vs)) (nat_lt w (2 ^ 32)) e).1
