-- A search looks at records of the file alone, and finds one of them.
use Rattle.std.proofs.Common.{◌≡◌, ℕ, zero, suc, ◌+◌, ◌<◌, ◌≤◌, Bool, true, List, map, get_or}
use Rattle.std.proofs.Common.{Option, Some, None, refl, subst, arith}
use Rattle.std.proofs.lemmas.List.FromFn.{length-range_with_len, get_or-range_with_len}
use Rattle.std.proofs.lemmas.List.Quantifiers.{position-Some}
use Rattle.std.specs.List.{AllByRecursion, range_with_len}
use Rattle.job_types.specs.declared.touch.Touch.{Touch}
use Rattle.source_meaning.specs.Value.{load_of}
use Rattle.source_meaning.specs.Changes.{least_record, looked_at, record_loads}

pub record IsFound (test : ℕ → Bool) (size number : ℕ) : Type 0 where
  pub within : number < size
  pub passes : test number ≡ true

pub found_within : (test : ℕ → Bool) (size number : ℕ) → least_record test size ≡ Some number → IsFound test size number
found_within test size number is =
    let h = position-Some test (range_with_len 0 size) number 0 is in
    let lt : number < size = omega (arith, h.0, length-range_with_len 0 size) in
    let at : get_or (range_with_len 0 size) number 0 ≡ number = omega (arith, get_or-range_with_len 0 size number 0 lt) in
    record { within = lt; passes = subst (λ n. test n ≡ true) at h.1 }

looked_few : (test : ℕ → Bool) (size : ℕ) (found : Option ℕ) → least_record test size ≡ found → looked_at found size ≤ size
looked_few test size None is = omega arith
looked_few test size (Some n) is = let lt = (found_within test size n is).within in omega arith

-- what holds of the load of each record holds of each load
loads_each : (Q : Touch → Type 0) (cell_of : ℕ → ℕ) (store : List ℕ) (size from n : ℕ) → from + n ≤ size
    → ((k : ℕ) → k < size → Q (load_of store (cell_of k)))
    → AllByRecursion Q (map (λ k. load_of store (cell_of k)) (range_with_len from n))
loads_each Q cell_of store size from zero few each = tt
loads_each Q cell_of store size from (suc n) few each = (each from (omega arith), loads_each Q cell_of store size (from + 1) n (omega arith) each)

pub search_loads : (Q : Touch → Type 0) (cell_of : ℕ → ℕ) (test : ℕ → Bool) (store : List ℕ) (size : ℕ)
    → ((k : ℕ) → k < size → Q (load_of store (cell_of k)))
    → AllByRecursion Q (record_loads cell_of (looked_at (least_record test size) size) store)
search_loads Q cell_of test store size each = loads_each Q cell_of store size 0
    (looked_at (least_record test size) size) (let few = looked_few test size (least_record test size) refl in omega
    arith) each
