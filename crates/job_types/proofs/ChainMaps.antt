-- What a map of chains has at each number, after each change, and the records of all chains.
use Rattle.std.proofs.Common.{◌≡◌, ◌≢◌, ℕ, Bool, true, false, cond, eqb, ltb, List, [], ◌∷◌, ◌++◌}
use Rattle.std.proofs.Common.{flat_map, Option, None, Some, unwrap_or, refl, sym, ap, subst, ◌∙◌}
use Rattle.std.proofs.Common.{arith}
use lib.Dec.{T}
use Rattle.std.specs.declared.cmp.Ordering.TheVariants.{Less, Equal, Greater}
use Rattle.std.specs.Ordering.{nat_cmp, is_lt}
use Rattle.std.specs.Cmp.{nat_cmp_total, unsigned_tied}
use Rattle.std.specs.FinMap as map
use Rattle.std.specs.FinMap.Entries.{below_all, is_sorted, find}
use Rattle.std.specs.List.{AllByRecursion}
use Rattle.std.specs.Map.{keys_of, values_of}
use Rattle.std.proofs.lemmas.Bool.{ltb-true, ne_eqb, eq-eqb}
use Rattle.plex_num.proofs.Options.{split}
use Rattle.job_types.specs.declared.chain.Held.{Held}
use Rattle.job_types.specs.Forlopps.{ChainMap, all_records, chain_at, with_chain}

-- no number has a chain
pub chain_at-empty : (n : ℕ) → chain_at map.empty n ≡ []
chain_at-empty n = ap (λ o. unwrap_or o []) (map.get-empty nat_cmp n)

-- what the map has at a number after a number got a chain
pub get-with_chain : (m : ChainMap) (n : ℕ) (h : Held) (chain : List Held) (q : ℕ)
    → map.get (with_chain m n (h ∷ chain)) q ≡ cond (eqb q n) (Some (h ∷ chain)) (map.get m q)
get-with_chain m n h chain q = map.get-insert nat_cmp_total m n (h ∷ chain) q ∙ ap (λ b. cond b (Some (h ∷ chain)) (map.get m q)) (unsigned_tied q n)

pub get-with_none : (m : ChainMap) (n q : ℕ) → map.get (with_chain m n []) q ≡ cond (eqb q n) None (map.get m q)
get-with_none m n q = map.get-remove nat_cmp_total m n q ∙ ap (λ b. cond b None (map.get m q)) (unsigned_tied q n)

pub chain_at-with_chain : (m : ChainMap) (n : ℕ) (chain : List Held) (q : ℕ) → chain_at (with_chain m n chain) q ≡ cond (eqb q n) chain (chain_at m q)
chain_at-with_chain m n [] q = ap (λ o. unwrap_or o []) (get-with_none m n q) ∙ at (eqb q n)
  where
    at : (b : Bool) → unwrap_or (cond b None (map.get m q)) [] ≡ cond b [] (chain_at m q)
    at true = refl
    at false = refl
chain_at-with_chain m n (h ∷ chain) q = ap (λ o. unwrap_or o []) (get-with_chain m n h chain q) ∙ at (eqb q n)
  where
    at : (b : Bool) → unwrap_or (cond b (Some (h ∷ chain)) (map.get m q)) [] ≡ cond b (h ∷ chain) (chain_at m q)
    at true = refl
    at false = refl

-- the number itself, and any other
pub chain_same : (m : ChainMap) (n : ℕ) (chain : List Held) → chain_at (with_chain m n chain) n ≡ chain
chain_same m n chain = chain_at-with_chain m n chain n ∙ ap (λ b. cond b chain (chain_at m n)) (eq-eqb n n refl)

pub chain_other : (m : ChainMap) (n k : ℕ) (chain : List Held) → k ≢ n → chain_at (with_chain m n chain) k ≡ chain_at m k
chain_other m n k chain other = chain_at-with_chain m n chain k ∙ ap (λ b. cond b chain (chain_at m k)) (ne_eqb k n other)

-- ---- the chains of all numbers, as the numbers rise

HasItsOwn : (ℕ → Option (List Held)) → List (ℕ × List Held) → Type 0
HasItsOwn f es = AllByRecursion (λ (e : ℕ × List Held). f e.0 ≡ Some e.1) es

not_again : (n m : ℕ) → T (is_lt (nat_cmp n m)) → eqb m n ≡ false
not_again n m lt = at (ltb n m) refl lt
  where
    at : (b : Bool) → ltb n m ≡ b → T (is_lt (cond b Less (cond (eqb n m) Equal Greater))) → eqb m n ≡ false
    at true e lt = let less = ltb-true n m e in ne_eqb m n (λ is. absurd (omega arith))
    at false e lt = absurd (at_eq (eqb n m) lt)
      where
        at_eq : (b : Bool) → T (is_lt (cond b Equal Greater)) → ⊥
        at_eq true lt = lt
        at_eq false lt = lt

-- a first entry hides none behind it
behind : (e : ℕ × List Held) (es fs : List (ℕ × List Held)) → T (below_all nat_cmp e.0 fs)
    → HasItsOwn (λ q. find nat_cmp q es) fs → HasItsOwn (λ q. find nat_cmp q (e ∷ es)) fs
unfolding HasItsOwn
behind e es [] below own = tt
behind e es (f ∷ fs) below own =
    let lt = split _ _ below in
    (ap (λ b. cond b (Some e.1) (find nat_cmp f.0 es)) (unsigned_tied f.0 e.0 ∙ not_again e.0 f.0 lt.0) ∙ own.0, behind e es fs lt.1 own.1)

each_own : (es : List (ℕ × List Held)) → T (is_sorted nat_cmp es) → HasItsOwn (λ q. find nat_cmp q es) es
unfolding HasItsOwn
each_own [] up = tt
each_own (e ∷ es) up =
    let rest = split _ _ up in
    (ap (λ b. cond b (Some e.1) (find nat_cmp e.0 es)) (unsigned_tied e.0 e.0 ∙ eq-eqb e.0 e.0 refl), behind e es es rest.0 (each_own es rest.1))

chained : (f : ℕ → Option (List Held)) (es : List (ℕ × List Held)) → HasItsOwn f es
    → flat_map (λ (chain : List Held). chain) (values_of es) ≡ flat_map (λ (n : ℕ). unwrap_or (f n) []) (keys_of es)
unfolding HasItsOwn
chained f [] own = refl
chained f (e ∷ es) own = λ i. unwrap_or (sym own.0 i) [] ++ chained f es own.1 i

pub by_number : (m : ChainMap) → all_records m ≡ flat_map (chain_at m) (map.keys m)
by_number m = chained (map.get m) (map.entries m)
    (subst (λ (f : ℕ → Option (List Held)). HasItsOwn f (map.entries m)) (λ i q. sym (map.get-entries m q) i)
    (each_own (map.entries m) (map.entries_sorted m)))
