-- Each value that has a number comes back from it, and larger numbers are of larger values.
use Rattle.std.proofs.Common.{◌≡◌, inl, inr, ℕ, ◌+◌, ◌-◌, ◌<◌, ◌≤◌, refl, ap, ◌∙◌, arith}
use Rattle.std.specs.Prelude.{nat_lt, if◌then◌else◌}
use Rattle.std.proofs.lemmas.Bool.{cases_lt, cond-true, cond-false, lt-ltb, le-ltb}
use Rattle.plex_limits.specs.declared.limits.TheConstants.{MOST_VALUES}
use Rattle.flow_points.specs.declared.fact.Slot.{Slot}
use Rattle.flow_points.specs.declared.fact.Slot.TheVariants.{Temp, Given, Answered, Depth, Awaits}
use Rattle.flow_points.specs.declared.fact.Value.{Value}
use Rattle.flow_points.specs.declared.fact.Value.TheVariants.{Arg, Const, Any}
use Rattle.fact_rows.specs.declared.value.TheConstants.{ANY_NUMBER}
use Rattle.fact_rows.specs.Values.{IsAwaited, IsNumbered, HasNumber, awaited_number, value_number}
use Rattle.fact_rows.specs.Values.{number_in, numbered_value, value_in, numbers_of}

abbrev past_args : ℕ → Value
past_args n = (if nat_lt n ANY_NUMBER then Const (n - MOST_VALUES) else Any)

pub arg_is : (n : ℕ) → n < MOST_VALUES → numbered_value n ≡ Arg n
arg_is n lt = cond-true (nat_lt n MOST_VALUES) (Arg n) (past_args n) (lt-ltb n MOST_VALUES lt)

pub const_is : (n : ℕ) → MOST_VALUES ≤ n → n < ANY_NUMBER → numbered_value n ≡ Const (n - MOST_VALUES)
const_is n le lt = cond-false (nat_lt n MOST_VALUES) (Arg n) (past_args n) (le-ltb n MOST_VALUES le)
    ∙ cond-true (nat_lt n ANY_NUMBER) (Const (n - MOST_VALUES)) Any (lt-ltb n ANY_NUMBER lt)

pub any_is : (n : ℕ) → ANY_NUMBER ≤ n → numbered_value n ≡ Any
any_is n le = cond-false (nat_lt n MOST_VALUES) (Arg n) (past_args n) (le-ltb n MOST_VALUES (omega arith))
    ∙ cond-false (nat_lt n ANY_NUMBER) (Const (n - MOST_VALUES)) Any (le-ltb n ANY_NUMBER le)

numbered_back : (v : Value) → IsNumbered v → numbered_value (value_number v) ≡ v
numbered_back (Arg k) lt = arg_is k lt
numbered_back (Const c) lt =
    let own : MOST_VALUES + c - MOST_VALUES ≡ c = omega arith in
    const_is (MOST_VALUES + c) (omega arith) (omega arith) ∙ ap Const own
numbered_back Any u = any_is ANY_NUMBER (omega arith)

awaited_back : (v : Value) → IsAwaited v → Const (awaited_number v) ≡ v
awaited_back (Arg k) h = absurd h
awaited_back (Const c) h = refl
awaited_back Any h = absurd h

pub value_back : (s : Slot) (v : Value) → HasNumber s v → value_in s (number_in s v) ≡ v
value_back (Temp t) v h = numbered_back v h
value_back (Given k) v h = numbered_back v h
value_back (Answered k) v h = numbered_back v h
value_back Depth v h = numbered_back v h
value_back Awaits v h = awaited_back v h

number_back : (n : ℕ) → n < ANY_NUMBER + 1 → value_number (numbered_value n) ≡ n
number_back n lt = elim (cases_lt n MOST_VALUES) as (λ _. value_number (numbered_value n) ≡ n) [
  | inl few ↦ ap value_number (arg_is n few)
  | inr more ↦ elim (cases_lt n ANY_NUMBER) as (λ _. value_number (numbered_value n) ≡ n) [
    | inl small ↦ (let own : MOST_VALUES + (n - MOST_VALUES) ≡ n = omega arith in ap value_number (const_is n more small) ∙ own)
    | inr last ↦ (let own : ANY_NUMBER ≡ n = omega arith in ap value_number (any_is n last) ∙ own)
  ]
]

-- each number of a slot is that of its value
pub number_same : (s : Slot) (n : ℕ) → n < numbers_of s → number_in s (value_in s n) ≡ n
number_same (Temp t) n lt = number_back n lt
number_same (Given k) n lt = number_back n lt
number_same (Answered k) n lt = number_back n lt
number_same Depth n lt = number_back n lt
number_same Awaits n lt = refl
