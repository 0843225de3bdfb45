-- What a chain is without a record, by the place at which the record stands.
use Rattle.std.proofs.Common.{◌≡◌, ℕ, suc, ◌+◌, ◌≤◌, Bool, true, false, cond, not, ltb, List, []}
use Rattle.std.proofs.Common.{◌∷◌, ◌++◌, length, drop, Some, None, refl, ap, ◌∙◌, arith}
use Rattle.std.specs.Prelude.{◌&&◌, nat_eq, position, remove, if◌then◌else◌}
use Rattle.std.specs.List.{prefix_len}
use Rattle.std.proofs.lemmas.List.{take_all, drop_all, append-nil}
use Rattle.std.proofs.lemmas.Bool.Decides.{nat_tests}
use Rattle.plex_num.proofs.Options.{not_chosen}
use Rattle.job_types.specs.declared.chain.Held.{Held}
use Rattle.job_types.specs.Chain.{without}

-- it is the record of this file with this number
abbrev pub is_held : ℕ → ℕ → Held → Bool
is_held file number h = nat_eq h.file file && nat_eq h.number number

-- how many records stand before it
abbrev before : List Held → ℕ → ℕ → ℕ
before hs file number = prefix_len (λ h. not (is_held file number h)) hs

without_split : (hs : List Held) (file number : ℕ) → without hs file number ≡ remove hs (before hs file number)
without_split [] file number = refl
without_split (h ∷ hs) file number = by_test (is_held file number h) (without_split hs file number)
  where
    by_test : (b : Bool) → without hs file number ≡ remove hs (before hs file number)
        → (if b then hs else h ∷ without hs file number) ≡ remove (h ∷ hs) (cond (not b) (1 + before hs file number) 0)
    by_test true ih = refl
    by_test false ih =
        let e : 1 + before hs file number ≡ suc (before hs file number) = omega arith in
        rw e (ap (λ l. h ∷ l) ih)

chosen : (b : Bool) (k i : ℕ) → cond b (Some k) None ≡ Some i → k ≡ i
chosen true k i e = cc
chosen false k i e = cc

pub without_found : (hs : List Held) (file number i : ℕ) → position (λ h. is_held file number h) hs ≡ Some i → without hs file number ≡ remove hs i
without_found hs file number i e =
    without_split hs file number ∙ ap (λ k. remove hs k) (chosen (ltb (before hs file number) (length hs)) (before hs file number) i e)

pub without_none : (hs : List Held) (file number : ℕ) → position (λ h. is_held file number h) hs ≡ None → without hs file number ≡ hs
without_none hs file number e =
    let k = before hs file number in
    let past : ltb k (length hs) ≡ false = not_chosen (ltb k (length hs)) k e in
    let long : length hs ≤ k = grind (arith, nat_tests) in
    without_split hs file number ∙ ap (λ l. l ++ drop (suc k) hs) (take_all k hs long) ∙ ap (λ l. hs ++ l) (drop_all (suc k) hs (omega arith)) ∙ append-nil hs
