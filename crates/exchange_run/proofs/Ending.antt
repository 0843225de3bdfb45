-- The first number of jobs after which the run is over, and the numbers before it.
use Rattle.std.proofs.Common.{◌≡◌, ℕ, ◌+◌, ◌<◌, ◌≤◌, Bool, true, false, get_or, length, Option}
use Rattle.std.proofs.Common.{Some, None, refl, sym, ap, ◌∙◌, arith, if◌then◌else◌}
use Rattle.std.specs.Prelude.{is_some, nat_lt, unwrap_or}
use Rattle.std.specs.List.{position_or_len, range_with_len}
use Rattle.std.proofs.lemmas.Bool.{lt-ltb}
use Rattle.std.proofs.lemmas.Bool.Decides.{nat_tests}
use Rattle.std.proofs.lemmas.List.Sums.{fails_before_first, position_or_len_is}
use Rattle.std.proofs.lemmas.List.FromFn.{get_or-range_with_len, length-range_with_len}
use Rattle.exchange_model.specs.declared.exchange.Exchange.{Exchange}
use Rattle.source_meaning.specs.SingleRun.{Ending, after, ending_at, jobs_at_end}
use Rattle.source_meaning.specs.State.{State}

first_is : (p : ℕ → Bool) (n m : ℕ) → n ≤ m → ((k : ℕ) → k < n → p k ≡ false) → p n ≡ true → position_or_len p (range_with_len 0 (m + 1)) ≡ n
first_is p n m le none some =
    let long = length-range_with_len 0 (m + 1) in
    position_or_len_is p (range_with_len 0 (m + 1)) n 0 (omega (arith, long, le))
    (λ k lt. ap p (at k (omega (arith, le, lt))) ∙ none k lt)
    (λ lt. ap p (at n (omega (arith, le))) ∙ some)
  where
    at : (k : ℕ) → k < m + 1 → get_or (range_with_len 0 (m + 1)) k 0 ≡ k
    at k lt = let g = get_or-range_with_len 0 (m + 1) k 0 lt in omega (arith, g)

pub ends_at : (x : Exchange) (s : State) (limit n : ℕ) (e : Ending) → n ≤ limit
    → ((m : ℕ) → m < n → ending_at limit (after x s m) ≡ None) → ending_at limit (after x s n) ≡ Some e
    → jobs_at_end x limit s ≡ n
unfolding jobs_at_end
ends_at x s limit n e le none some =
    let p : ℕ → Bool = λ k. is_some (ending_at limit (after x s k)) in
    let first = first_is p n limit le (λ k lt. ap is_some (none k lt)) (ap is_some some) in
    let long = length-range_with_len 0 (limit + 1) in
    let within : nat_lt (position_or_len p (range_with_len 0 (limit + 1))) (length (range_with_len 0 (limit + 1)))
    ≡ true = lt-ltb (position_or_len p (range_with_len 0 (limit + 1))) (length (range_with_len 0 (limit + 1)))
    (omega (arith, first, long, le)) in
    ap (λ b. unwrap_or (if b then Some (position_or_len p (range_with_len 0 (limit + 1))) else None) limit) within ∙ first

-- before that number it goes on

is_none_of : (o : Option Ending) → is_some o ≡ false → o ≡ None
is_none_of None e = refl
is_none_of (Some e) some = cc

-- a number below the first one that passes, or below the limit, is below both that one and what
-- follows the limit
below_first : (p : ℕ → Bool) (limit m : ℕ) → m
    < unwrap_or (if nat_lt (position_or_len p (range_with_len 0 (limit + 1))) (length (range_with_len 0 (limit + 1)))
    then Some (position_or_len p (range_with_len 0 (limit + 1))) else None) limit
    → (m < position_or_len p (range_with_len 0 (limit + 1))) × (m < limit + 1)
below_first p limit m lt = by (nat_lt (position_or_len p (range_with_len 0 (limit + 1))) (length (range_with_len 0 (limit + 1)))) refl lt
  where
    by : (b : Bool) → nat_lt (position_or_len p (range_with_len 0 (limit + 1))) (length (range_with_len 0 (limit + 1)))
        ≡ b → m < unwrap_or (if b then Some (position_or_len p (range_with_len 0 (limit + 1))) else None) limit
        → (m < position_or_len p (range_with_len 0 (limit + 1))) × (m < limit + 1)
    by true is less =
        let long = length-range_with_len 0 (limit + 1) in
        let short : position_or_len p (range_with_len 0 (limit + 1)) < length (range_with_len 0 (limit + 1)) = grind (arith, nat_tests) in
        (less, omega (arith, long, short, less))
    by false is less =
        let long = length-range_with_len 0 (limit + 1) in
        let past : length (range_with_len 0 (limit + 1)) ≤ position_or_len p (range_with_len 0 (limit + 1)) = grind (arith, nat_tests) in
        (omega (arith, long, past, less), omega (arith, less))

pub before_end : (x : Exchange) (s : State) (limit m : ℕ) → m < jobs_at_end x limit s → ending_at limit (after x s m) ≡ None
unfolding jobs_at_end
before_end x s limit m lt =
    let p : ℕ → Bool = λ k. is_some (ending_at limit (after x s k)) in
    let both = below_first p limit m lt in
    let fails = fails_before_first p (range_with_len 0 (limit + 1)) m 0 both.0 in
    let at : get_or (range_with_len 0 (limit + 1)) m 0 ≡ m = let g = get_or-range_with_len 0 (limit + 1) m 0 both.1 in omega (arith, g) in
    is_none_of (ending_at limit (after x s m)) (ap p (sym at) ∙ fails)
