-- Files of an exchange keep their limits, and a search is told record by record.
use Rattle.std.proofs.Common.{◌≡◌, ℕ, zero, suc, ◌+◌, Bool, true, false, not, List, [], ◌∷◌, map}
use Rattle.std.proofs.Common.{Option, Some, None, refl, sym, ap, ◌∙◌, arith, cond, if◌then◌else◌}
use Rattle.std.specs.Prelude.{slice_get, nat_lt}
use Rattle.std.specs.List.{prefix_len, range_with_len}
use Rattle.std.proofs.Math.Dec.{leb-suc-suc}
use Rattle.std.proofs.lemmas.Bool.{lt-ltb}
use Rattle.std.proofs.lemmas.List.FromFn.{length-range_with_len}
use Rattle.job_types.specs.declared.touch.Touch.{Touch}
use Rattle.exchange_model.specs.declared.exchange.Exchange.{Exchange}
use Rattle.exchange_model.specs.Cells.{Placed}
use Rattle.exchange_model.specs.Kept.{IsExchange, FileFits}
use Rattle.exchange_model.proofs.Facts.{file_kept}
use Rattle.source_meaning.specs.Value.{load_of}
use Rattle.source_meaning.specs.Config.{files_of}
use Rattle.source_meaning.specs.Changes.{least_record, looked_at, record_loads}

-- a file of the exchange keeps the limits of files
pub placed_fits : (x : Exchange) (file : ℕ) (p : Placed) → IsExchange x → slice_get (files_of x) file ≡ Some p → FileFits p.file
unfolding files_of
placed_fits x file p kept there = file_kept x kept file p there

-- the first of k records from i on at which the test holds
abbrev pub found_from : (ℕ → Bool) → ℕ → ℕ → Option ℕ
found_from test i zero = None
found_from test i (suc k) = (if test i then Some i else found_from test (i + 1) k)

-- the loads up to it
abbrev pub loads_from : (ℕ → Bool) → (ℕ → Touch) → ℕ → ℕ → List Touch
loads_from test load i zero = []
loads_from test load i (suc k) = load i ∷ (if test i then [] else loads_from test load (i + 1) k)

abbrev fails_at : (ℕ → Bool) → ℕ → Bool
fails_at test i = not (test i)

-- how many fail before it
abbrev before : (ℕ → Bool) → ℕ → ℕ → ℕ
before test i k = prefix_len (fails_at test) (range_with_len i k)

one_lower : (n k : ℕ) → nat_lt (1 + n) (suc k) ≡ nat_lt n k
one_lower n k = let e : 1 + n ≡ suc n = omega arith in ap (λ m. nat_lt m (suc k)) e ∙ leb-suc-suc (suc n) k

first_lower : (k : ℕ) → nat_lt 0 (suc k) ≡ true
first_lower k = lt-ltb 0 (suc k) (omega arith)

found_is : (test : ℕ → Bool) (i k : ℕ) → found_from test i k ≡ cond (nat_lt (before test i k) k) (Some (i + before test i k)) None
found_is test i zero = refl
found_is test i (suc k) = by_test (test i) (found_is test (i + 1) k)
  where
    n : ℕ
    n = before test (i + 1) k

    by_test : (b : Bool) → found_from test (i + 1) k ≡ cond (nat_lt n k) (Some (i + 1 + n)) None
        → (if b then Some i else found_from test (i + 1) k)
        ≡ cond (nat_lt (cond (not b) (1 + n) 0) (suc k)) (Some (i + cond (not b) (1 + n) 0)) None
    by_test true later = let e : i ≡ i + 0 = omega arith in ap Some e ∙ ap (λ b. cond b (Some (i + 0)) None) (sym (first_lower k))
    by_test false later =
        let e : i + 1 + n ≡ i + (1 + n) = omega arith in
        later ∙ ap (λ b. cond b (Some (i + 1 + n)) None) (sym (one_lower n k)) ∙ ap (λ j. cond (nat_lt (1 + n) (suc k)) (Some j) None) e

pub least_is : (test : ℕ → Bool) (size : ℕ) → least_record test size ≡ found_from test 0 size
least_is test size =
    let n = before test 0 size in
    let e : n ≡ 0 + n = omega arith in
    ap (λ k. cond (nat_lt n k) (Some n) None) (length-range_with_len 0 size) ∙ ap (λ j. cond (nat_lt n size) (Some j) None) e ∙ sym (found_is test 0 size)

looked_is : (b : Bool) (n size : ℕ) → looked_at (cond b (Some n) None) size ≡ cond b (n + 1) size
looked_is true n size = refl
looked_is false n size = refl

module _ (test : ℕ → Bool) (load : ℕ → Touch) where
  loads_is : (i k : ℕ) → loads_from test load i k ≡ map load (range_with_len i (cond (nat_lt (before test i k) k) (before test i k + 1) k))
  loads_is i zero = refl
  loads_is i (suc k) = by_test (test i) (loads_is (i + 1) k)
    where
      n : ℕ
      n = before test (i + 1) k

      more : (b : Bool) → load i ∷ map load (range_with_len (i + 1) (cond b (n + 1) k)) ≡ map load (range_with_len i (cond b (1 + n + 1) (suc k)))
      more true = let e : suc (n + 1) ≡ 1 + n + 1 = omega arith in ap (λ m. map load (range_with_len i m)) e
      more false = refl

      by_test : (b : Bool) → loads_from test load (i + 1) k
          ≡ map load (range_with_len (i + 1) (cond (nat_lt n k) (n + 1) k))
          → load i ∷ (if b then [] else loads_from test load (i + 1) k)
          ≡ map load (range_with_len i (cond (nat_lt (cond (not b) (1 + n) 0) (suc k)) (cond (not b) (1 + n) 0 + 1)
          (suc k)))
      by_test true later = ap (λ b. map load (range_with_len i (cond b 1 (suc k)))) (sym (first_lower k))
      by_test false later = ap (λ l. load i ∷ l) later ∙ more (nat_lt n k)
          ∙ ap (λ b. map load (range_with_len i (cond b (1 + n + 1) (suc k)))) (sym (one_lower n k))

pub record_loads_are : (test : ℕ → Bool) (cell_of : ℕ → ℕ) (size : ℕ) (store : List ℕ)
    → record_loads cell_of (looked_at (least_record test size) size) store
    ≡ loads_from test (λ i. load_of store (cell_of i)) 0 size
record_loads_are test cell_of size store =
    let load : ℕ → Touch = λ i. load_of store (cell_of i) in
    let n = before test 0 size in
    ap (λ k. map load (range_with_len 0 (looked_at (cond (nat_lt n k) (Some n) None) size))) (length-range_with_len 0 size)
    ∙ ap (λ k. map load (range_with_len 0 k)) (looked_is (nat_lt n size) n size) ∙ sym (loads_is test load 0 size)
