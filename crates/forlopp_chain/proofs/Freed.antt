-- Where a record stands in a chain, and the chain without it.
use Rattle.std.proofs.Common.{◌≡◌, ℕ, zero, suc, ◌+◌, ◌<◌, ◌≤◌, Bool, true, false, cond, not, ltb}
use Rattle.std.proofs.Common.{List, [], ◌∷◌, length, get_or, Some, None, refl, sym, ap, arith}
use Rattle.std.specs.List.{position, position_or_len, remove}
use Rattle.std.proofs.lemmas.Bool.{ltb-false, or_left, or_right, or_from}
use Rattle.std.proofs.lemmas.List.Quantifiers.{position-Some}
use Rattle.job_types.specs.declared.chain.Held.{Held}
use Rattle.job_types.specs.Chain.{holds, is_record, without}

-- a search that finds nothing has met nothing
nowhere : {X : Type 0} (p : X → Bool) (xs : List X) → length xs ≤ position_or_len p xs → (k : ℕ) (d : X) → k < length xs → p (get_or xs k d) ≡ false
nowhere p [] le k d lt = absurd (omega arith)
nowhere {X} p (x ∷ xs) le k d lt = at (p x) refl le (nowhere p xs) k lt
  where
    at : (b : Bool) → p x ≡ b → suc (length xs) ≤ cond (not b) (1 + position_or_len p xs) 0
        → (length xs ≤ position_or_len p xs → (k : ℕ) (d : X) → k < length xs → p (get_or xs k d) ≡ false) → (k : ℕ)
        → k < suc (length xs) → p (get_or (x ∷ xs) k d) ≡ false
    at true e le rest k lt = absurd (omega arith)
    at false e le rest zero lt = e
    at false e le rest (suc k) lt = rest (omega arith) k d (omega arith)

position_none : {X : Type 0} (p : X → Bool) (xs : List X) → position p xs ≡ None → length xs ≤ position_or_len p xs
position_none p xs none = at (ltb (position_or_len p xs) (length xs)) refl none
  where
    at : (b : Bool) → ltb (position_or_len p xs) (length xs) ≡ b → cond b (Some (position_or_len p xs)) None ≡ None → length xs ≤ position_or_len p xs
    at true e some = absurd (cc)
    at false e some = ltb-false _ _ e

module _ (file number : ℕ) where
  -- the chain without the record that stands first at i
  without_at : (chain : List Held) (i : ℕ) → i < length chain
      → ((d : Held) → is_record file number (get_or chain i d) ≡ true)
      → ((k : ℕ) (d : Held) → k < i → is_record file number (get_or chain k d) ≡ false)
      → without chain file number ≡ remove chain i
  without_at [] i lt here before = absurd (omega arith)
  without_at (h ∷ chain) zero lt here before = rw (here h) refl
  without_at (h ∷ chain) (suc i) lt here before =
      rw (before 0 h (omega arith)) (ap (λ c. h ∷ c) (without_at chain i (omega arith) here (λ k d below. before (suc k) d (omega arith))))

  holds_at : (chain : List Held) (i : ℕ) → i < length chain → ((d : Held) → is_record file number (get_or chain i d) ≡ true) → holds chain file number ≡ true
  holds_at [] i lt here = absurd (omega arith)
  holds_at (h ∷ chain) zero lt here = or_left (is_record file number h) _ (here h)
  holds_at (h ∷ chain) (suc i) lt here = or_right (is_record file number h) _ (holds_at chain i (omega arith) here)

  -- a record that stands nowhere
  without_none : (chain : List Held) → ((k : ℕ) (d : Held) → k < length chain
      → is_record file number (get_or chain k d) ≡ false) → without chain file number ≡ chain
  without_none [] none = refl
  without_none (h ∷ chain) none =
      rw (none 0 h (omega arith)) (ap (λ c. h ∷ c) (without_none chain (λ k d lt. none (suc k) d (omega arith))))

  holds_none : (chain : List Held) → ((k : ℕ) (d : Held) → k < length chain
      → is_record file number (get_or chain k d) ≡ false) → holds chain file number ≡ false
  holds_none [] none = refl
  holds_none (h ∷ chain) none = or_from (is_record file number h) _ (none 0 h (omega arith)) (holds_none chain (λ k d lt. none (suc k) d (omega arith)))

  -- what a search for the record says of the chain
  pub freed-Some : (chain : List Held) (i : ℕ) → Some i ≡ position (is_record file number) chain
      → (remove chain i ≡ without chain file number) × (true ≡ holds chain file number)
  freed-Some chain i found =
      let at = λ (d : Held). position-Some (is_record file number) chain i d (sym found) in
      let lt = (at (record { file = file; number = number })).0 in
      (sym (without_at chain i lt (λ d. (at d).1) (λ k d below. (at d).2 k below)), sym (holds_at chain i lt (λ d. (at d).1)))

  pub freed-None : (chain : List Held) → None ≡ position (is_record file number) chain → (chain ≡ without chain file number) × (false ≡ holds chain file number)
  freed-None chain absent =
      let none = nowhere (is_record file number) chain (position_none (is_record file number) chain (sym absent)) in
      (sym (without_none chain none), sym (holds_none chain none))
