-- By what proofs tell records, maps of chains and dead numbers apart.
use Rattle.std.specs.Prelude.{ℕ, refl}
use Rattle.std.specs.Coded.{Coded, code_by, coded_ℕ, coded_list, coded×}
use Rattle.std.specs.Ordering.{nat_cmp}
use Rattle.std.specs.FinMap as map
use Rattle.std.specs.FinSet as set
use Rattle.job_types.specs.declared.chain.Held.{Held}
use Rattle.job_types.specs.Forlopps.{ChainMap, Dead}

-- a record is told by its file and its own number
abbrev pub held_code : Coded Held
held_code = code_by (ℕ × ℕ) (coded× coded_ℕ coded_ℕ)
    (λ h. (h.file, h.number)) (λ p. record { file = p.0; number = p.1 }) (λ _. refl)

-- a map by its numbers and chains in order
abbrev pub chains_code : Coded ChainMap
chains_code = map.code coded_ℕ (coded_list held_code)

-- dead numbers by the bound, and by the others in order
abbrev pub dead_code : Coded Dead
dead_code = code_by (ℕ × set.FinSet nat_cmp) (coded× coded_ℕ (set.code coded_ℕ))
    (λ d. (d.below, d.others)) (λ p. record { below = p.0; others = p.1 }) (λ _. refl)
