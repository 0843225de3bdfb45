-- The map and the dead numbers that tables stand for, after each change of a table.
use Rattle.std.proofs.Common.{◌≡◌, ◌≢◌, ℕ, Bool, true, false, cond, ◌||◌, eqb, List, [], ◌∷◌, None}
use Rattle.std.proofs.Common.{Some, unwrap_or, refl, sym, ap, ◌∙◌}
use Rattle.std.specs.Ordering.{nat_cmp, eq_by_cmp}
use Rattle.std.specs.Cmp.{nat_cmp_total, unsigned_tied, nat_eq_equiv}
use Rattle.std.specs.FinMap as map
use Rattle.std.specs.FinMap.{nat_cmp-IsAntisymmetric}
use Rattle.std.specs.FinSet as set
use Rattle.std.specs.List.{list_any}
use Rattle.std.specs.Map.{lookup}
use Rattle.job_types.specs.declared.chain.Held.{Held}
use Rattle.job_types.specs.Forlopps.{chain_at, with_chain, with_dead}
use Rattle.forlopp_chain.specs.Kept.{chains_of, dead_of}

-- the order of numbers tells the same of two as the test for equality
tied : (k q : ℕ) → eq_by_cmp nat_cmp q k ≡ eqb k q
tied k q = unsigned_tied q k ∙ nat_eq_equiv.symm q k

found_in : (es : List (ℕ × List Held)) (q : ℕ) → map.find nat_cmp q es ≡ lookup (eqb q) es
found_in [] q = refl
found_in (e ∷ es) q = λ i. cond (unsigned_tied q e.0 i) (Some e.1) (found_in es q i)

-- the map has at a number what a look into the table finds
pub get-chains_of : (es : List (ℕ × List Held)) (q : ℕ) → map.get (chains_of es) q ≡ lookup (eqb q) es
get-chains_of es q = map.get-from_entries nat_cmp_total es q ∙ found_in es q

pub chain_at-chains_of : (es : List (ℕ × List Held)) (q : ℕ) → chain_at (chains_of es) q ≡ unwrap_or (lookup (eqb q) es) []
chain_at-chains_of es q = ap (λ o. unwrap_or o []) (get-chains_of es q)

-- two tables in which a look finds the same stand for one map
pub same_chains : (es fs : List (ℕ × List Held)) → ((q : ℕ) → lookup (eqb q) fs ≡ lookup (eqb q) es) → chains_of fs ≡ chains_of es
same_chains es fs same = map.same_map nat_cmp_total nat_cmp-IsAntisymmetric _ _ (λ q. get-chains_of fs q ∙ same q ∙ sym (get-chains_of es q))

-- a number got a chain that has records
pub chains_put : (es fs : List (ℕ × List Held)) (n : ℕ) (chain : List Held) → chain ≢ []
    → ((q : ℕ) → lookup (eqb q) fs ≡ cond (eqb n q) (Some chain) (lookup (eqb q) es))
    → chains_of fs ≡ with_chain (chains_of es) n chain
chains_put es fs n [] some put = absurd (some refl)
chains_put es fs n (h ∷ chain) some put = map.same_map nat_cmp_total nat_cmp-IsAntisymmetric _ _ (λ q.
    get-chains_of fs q ∙ put q
    ∙ sym (map.get-insert nat_cmp_total (chains_of es) n (h ∷ chain) q ∙ (λ i. cond (tied n q i) (Some (h ∷ chain)) (get-chains_of es q i))))

-- the chain of a number went
pub chains_without : (es fs : List (ℕ × List Held)) (n : ℕ) (chain : List Held) → chain ≡ []
    → ((q : ℕ) → lookup (eqb q) fs ≡ cond (eqb n q) None (lookup (eqb q) es))
    → chains_of fs ≡ with_chain (chains_of es) n chain
chains_without es fs n (h ∷ chain) none went = absurd (cc)
chains_without es fs n [] none went = map.same_map nat_cmp_total nat_cmp-IsAntisymmetric _ _ (λ q.
    get-chains_of fs q ∙ went q
    ∙ sym (map.get-remove nat_cmp_total (chains_of es) n q ∙ (λ i. cond (tied n q i) None (get-chains_of es q i))))

any_in : (ns : List ℕ) (q : ℕ) → list_any (eq_by_cmp nat_cmp q) ns ≡ list_any (eqb q) ns
any_in [] q = refl
any_in (n ∷ ns) q = λ i. unsigned_tied q n i || any_in ns q i

-- the set has the numbers that a look into the table finds
pub contains-from_table : (ns : List ℕ) (q : ℕ) → set.contains (set.from_list {R = nat_cmp} ns) q ≡ list_any (eqb q) ns
contains-from_table ns q = set.contains-from_list nat_cmp_total ns q ∙ any_in ns q

chosen : (b x : Bool) → cond b true x ≡ (b || x)
chosen true x = refl
chosen false x = refl

-- a table in which a look finds the same
pub same_dead : (below : ℕ) (ns ms : List ℕ) → ((q : ℕ) → list_any (eqb q) ms ≡ list_any (eqb q) ns) → dead_of below ms ≡ dead_of below ns
same_dead below ns ms same = ap (λ (s : set.FinSet nat_cmp). record { below = below; others = s })
    (set.same_set nat_cmp_total nat_cmp-IsAntisymmetric _ _ (λ q. contains-from_table ms q ∙ same q ∙ sym (contains-from_table ns q)))

-- a table got a number
pub dead_added : (below : ℕ) (ns ms : List ℕ) (n : ℕ)
    → ((q : ℕ) → list_any (eqb q) ms ≡ cond (eqb n q) true (list_any (eqb q) ns))
    → dead_of below ms ≡ with_dead (dead_of below ns) n
dead_added below ns ms n added = ap (λ (s : set.FinSet nat_cmp). record { below = below; others = s })
    (set.same_set nat_cmp_total nat_cmp-IsAntisymmetric _ _ (λ q.
    contains-from_table ms q ∙ added q ∙ chosen (eqb n q) (list_any (eqb q) ns)
    ∙ sym (set.contains-insert nat_cmp_total (set.from_list ns) n q ∙ (λ i. tied n q i || contains-from_table ns q i))))
