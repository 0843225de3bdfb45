-- How many forlopps hold records, and how many records they hold.
use Rattle.std.proofs.Common.{◌≡◌, ℕ, zero, suc, ◌+◌, ◌-◌, ◌*◌, ◌<◌, ◌≤◌, ◌^◌, Bool, true, false}
use Rattle.std.proofs.Common.{cond, List, [], ◌∷◌, flat_map, length, sym, ap, ◌∙◌, arith}
use Rattle.std.proofs.Common.{length-append}
use Rattle.std.proofs.lemmas.List.{length-map}
use Rattle.std.specs.Cmp.{nat_cmp_total}
use Rattle.std.specs.FinMap as fin
use Rattle.plex_limits.specs.declared.limits.TheConstants.{MOST_CELLS, MOST_HELD, MOST_JOBS}
use Rattle.job_types.specs.declared.chain.Held.{Held}
use Rattle.job_types.specs.Forlopps.{ChainMap, Dead, all_records, chain_at, with_chain}
use Rattle.job_types.proofs.ChainMaps.{by_number}
use Rattle.forlopp_chain.specs.Chains.{IsSound}
use Rattle.run_books.specs.Retired.{chain_kept}

one_in : (b : Bool) (n : ℕ) → cond b n (n + 1) ≤ n + 1
one_in true n = omega arith
one_in false n = omega arith

one_out : (b : Bool) (n : ℕ) → cond b (n - 1) n ≤ n
one_out true n = omega arith
one_out false n = omega arith

-- a forlopp more, or the same ones
pub len-with_chain : (m : ChainMap) (n : ℕ) (chain : List Held) → fin.len (with_chain m n chain) ≤ fin.len m + 1
len-with_chain m n [] =
    let less = one_out (fin.contains_key m n) (fin.len m) in
    let is = fin.len-remove nat_cmp_total m n in
    omega (arith, less, is)
len-with_chain m n (h ∷ chain) =
    let more = one_in (fin.contains_key m n) (fin.len m) in
    let is = fin.len-insert nat_cmp_total m n (h ∷ chain) in
    omega (arith, more, is)

pub len-without : (m : ChainMap) (n : ℕ) → fin.len (with_chain m n []) ≤ fin.len m
len-without m n =
    let less = one_out (fin.contains_key m n) (fin.len m) in
    let is = fin.len-remove nat_cmp_total m n in
    omega (arith, less, is)

pub len-kept : (f : ℕ) (chain : List Held) (m : ChainMap) → fin.len (chain_kept f chain m) ≤ fin.len m + 1
len-kept zero chain m = omega arith
len-kept (suc n) chain m = len-with_chain m (suc n) chain

-- each of them holds at most 64
joined_few : (chains : ℕ → List Held) (ns : List ℕ) → ((n : ℕ) → length (chains n) ≤ MOST_HELD) → length (flat_map chains ns) ≤ MOST_HELD * length ns
joined_few chains [] few = omega arith
joined_few chains (n ∷ ns) few =
    let here = few n in
    let rest = joined_few chains ns few in
    omega (arith, here, rest, length-append (chains n) (flat_map chains ns))

pub records_few : (m : ChainMap) (dead : Dead) → IsSound m dead → fin.len m ≤ MOST_CELLS + MOST_JOBS → length (all_records m) < 2 ^ 32
records_few m dead sound few =
    let all = joined_few (chain_at m) (fin.keys m) sound.few in
    let as_many : length (fin.keys m) ≡ fin.len m = length-map (fin.entries m) (λ e. e.0) ∙ sym (fin.len-entries m) in
    omega (arith, few, all, as_many, ap length (by_number m))
