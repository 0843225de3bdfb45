-- Two families of languages with the same sentences have the same faults.
use Rattle.std.proofs.Common.{ℕ, zero, suc, ◌+◌, ◌-◌, Bool, true, false, List, ◌++◌, length, take}
use Rattle.plex_lexer.specs.declared.token.Token.{Token}
use Rattle.token_grammar.specs.Language.{Lang}
use Rattle.token_grammar.specs.Faults.{Begun, Within, First}
use Rattle.token_grammar.proofs.Whole.{Told}

module _ {X Y : Type 0} (L : ℕ → ℕ → X → Lang) (M : ℕ → ℕ → Y → Lang)
    (to : (b s : ℕ) (x : X) (u : List Token) → L b s x u → (y : Y) × M b s y u)
    (from : (b s : ℕ) (y : Y) (u : List Token) → M b s y u → (x : X) × L b s x u) where
  begun_to : (b s : ℕ) (p : List Token) → Begun (L b s) p → Begun (M b s) p
  begun_to b s p h = let k = to b s h.0 (p ++ h.1) h.2 in (k.0, h.1, k.1)

  begun_from : (b s : ℕ) (p : List Token) → Begun (M b s) p → Begun (L b s) p
  begun_from b s p h = let k = from b s h.0 (p ++ h.1) h.2 in (k.0, h.1, k.1)

  within_to : (p : List Token) → Begun (Within L) p → Begun (Within M) p
  within_to p h = let k = to h.2.0 h.2.1 h.0 (p ++ h.1) h.2.2 in (k.0, h.1, (h.2.0, h.2.1, k.1))

  within_from : (p : List Token) → Begun (Within M) p → Begun (Within L) p
  within_from p h = let k = from h.2.0 h.2.1 h.0 (p ++ h.1) h.2.2 in (k.0, h.1, (h.2.0, h.2.1, k.1))

  first_to : (b s : ℕ) (w : List Token) (i : ℕ) → First (L b s) w i → First (M b s) w i
  first_to b s w i h = record { inside = h.inside; front = begun_to b s (take i w) h.front; past = λ k. h.past (begun_from b s (take (i + 1) w) k) }

  pub told_same : (b s : ℕ) (w : List Token) (left : ℕ) (deep : Bool) → Told L b s w left deep → Told M b s w left deep
  told_same b s w zero deep h = record { front = begun_to b s w h.front; none = λ y k. let o = from b s y w k in h.none o.0 o.1 }
  told_same b s w (suc n) true h = record { first = first_to b s w (length w - suc n) h.first; allowed = within_to (take (length w - suc n + 1) w) h.allowed }
  told_same b s w (suc n) false h = record {
    first = first_to b s w (length w - suc n) h.first;
    never = λ k. h.never (within_from (take (length w - suc n + 1) w) k);
  }
