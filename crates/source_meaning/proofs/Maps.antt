-- The records of all chains of a map are those of its chains.
use Rattle.std.proofs.Common.{◌≡◌, ◌⊎◌, inl, inr, ℕ, Bool, true, false, cond, List, [], ◌∷◌, ◌++◌}
use Rattle.std.proofs.Common.{map, Some, None, refl, sym, ap, ◌∙◌, subst}
use Rattle.std.proofs.lemmas.Bool.{eq-eqb, eqb-true, cases_Bool}
use lib.Dec.{T}
use Rattle.std.specs.Prelude.{◌||◌, flat_map, unwrap_or}
use Rattle.std.specs.List.{AllByRecursion}
use Rattle.std.specs.Cmp.{unsigned_tied}
use Rattle.std.specs.Ordering.{nat_cmp, eq_by_cmp, is_eq, is_lt}
use Rattle.std.specs.declared.cmp.Ordering.{Ordering}
use Rattle.std.specs.declared.cmp.Ordering.TheVariants.{Less, Equal, Greater}
use Rattle.std.specs.FinMap as fin
use Rattle.std.specs.FinMap.Entries.{below_all, is_sorted, find}
use Rattle.job_types.specs.declared.chain.Held.{Held}
use Rattle.job_types.specs.Chain.{holds}
use Rattle.job_types.specs.Forlopps.{ChainMap, all_records, chain_at}
use Rattle.plex_num.proofs.Lists.{all_append}
use Rattle.plex_num.proofs.Options.{split}

not_tied : (r : Ordering) → T (is_lt r) → (q k : ℕ) → nat_cmp q k ≡ r → eq_by_cmp nat_cmp q k ≡ false
not_tied Less p q k is = ap is_eq is
not_tied Equal p q k is = absurd p
not_tied Greater p q k is = absurd p

-- a key below all others is none of them
below_none : {X : Type 0} (q : ℕ) (es : List (ℕ × X)) → T (below_all nat_cmp q es) → find nat_cmp q es ≡ None
below_none q [] h = refl
below_none q (e ∷ es) h =
    let parts = split (is_lt (nat_cmp q e.0)) (below_all nat_cmp q es) h in
    ap (λ b. cond b (Some e.1) (find nat_cmp q es)) (not_tied (nat_cmp q e.0) parts.0 q e.0 refl) ∙ below_none q es parts.1

-- what holds of the value of each key holds of each value
values_all : {X : Type 0} (P : X → Type 0) (es : List (ℕ × X)) → T (is_sorted nat_cmp es)
    → ((k : ℕ) (v : X) → find nat_cmp k es ≡ Some v → P v) → AllByRecursion P (map (λ e. e.1) es)
values_all P [] h each = tt
values_all {X} P (e ∷ es) h each =
    let parts = split (below_all nat_cmp e.0 es) (is_sorted nat_cmp es) h in (
      each e.0 e.1 (ap (λ b. cond b (Some e.1) (find nat_cmp e.0 es)) (unsigned_tied e.0 e.0 ∙ eq-eqb e.0 e.0 refl)),
      values_all P es parts.1 (λ k v at. each k v (later k v at parts.0 (cases_Bool (eq_by_cmp nat_cmp k e.0)))),
    )
  where
    later : (k : ℕ) (v : X) → find nat_cmp k es ≡ Some v → T (below_all nat_cmp e.0 es)
        → (eq_by_cmp nat_cmp k e.0 ≡ true) ⊎ (eq_by_cmp nat_cmp k e.0 ≡ false) → find nat_cmp k (e ∷ es) ≡ Some v
    later k v at below (inl tie) =
        let same : k ≡ e.0 = eqb-true k e.0 (sym (unsigned_tied k e.0) ∙ tie) in
        let none : find nat_cmp k es ≡ None = subst (λ n. find nat_cmp n es ≡ None) (sym same) (below_none e.0 es below) in
        cc
    later k v at below (inr other) = ap (λ b. cond b (Some e.1) (find nat_cmp k es)) other ∙ at

joined_all : (P : Held → Type 0) (chains : List (List Held))
    → AllByRecursion (λ (c : List Held). AllByRecursion P c) chains
    → AllByRecursion P (flat_map (λ (c : List Held). c) chains)
joined_all P [] all = tt
joined_all P (c ∷ chains) all = all_append P c (flat_map (λ (c : List Held). c) chains) all.0 (joined_all P chains all.1)

-- each record of all chains is one of a chain
pub all_records_fit : (P : Held → Type 0) (m : ChainMap) → ((n : ℕ) → AllByRecursion P (chain_at m n)) → AllByRecursion P (all_records m)
all_records_fit P m each =
    joined_all P (fin.values m) (values_all (λ (c : List Held). AllByRecursion P c) (fin.entries m) (fin.entries_sorted m)
    (λ k v at. subst (AllByRecursion P) (ap (λ o. unwrap_or o []) (fin.get-entries m k ∙ at)) (each k)))

-- a chain's records are among all

holds_left : (a b : List Held) (f n : ℕ) → holds a f n ≡ true → holds (a ++ b) f n ≡ true
holds_left [] b f n h = cc
holds_left (g ∷ a) b f n h = by _ h (holds_left a b f n)
  where
    by : (e : Bool) → (e || holds a f n) ≡ true → (holds a f n ≡ true → holds (a ++ b) f n ≡ true) → (e || holds (a ++ b) f n) ≡ true
    by true h more = refl
    by false h more = more h

holds_right : (a b : List Held) (f n : ℕ) → holds b f n ≡ true → holds (a ++ b) f n ≡ true
holds_right [] b f n h = h
holds_right (g ∷ a) b f n h = by _ (holds_right a b f n h)
  where
    by : (e : Bool) → holds (a ++ b) f n ≡ true → (e || holds (a ++ b) f n) ≡ true
    by true more = refl
    by false more = more

found_in : (es : List (ℕ × List Held)) (k f n : ℕ) → holds (unwrap_or (find nat_cmp k es) []) f n ≡ true
    → holds (flat_map (λ (c : List Held). c) (map (λ e. e.1) es)) f n ≡ true
found_in [] k f n h = cc
found_in (e ∷ es) k f n h = by (eq_by_cmp nat_cmp k e.0) h (found_in es k f n)
  where
    by : (t : Bool) → holds (unwrap_or (cond t (Some e.1) (find nat_cmp k es)) []) f n ≡ true
        → (holds (unwrap_or (find nat_cmp k es) []) f n ≡ true
        → holds (flat_map (λ (c : List Held). c) (map (λ e. e.1) es)) f n ≡ true)
        → holds (e.1 ++ flat_map (λ (c : List Held). c) (map (λ e. e.1) es)) f n ≡ true
    by true h more = holds_left e.1 (flat_map (λ (c : List Held). c) (map (λ e. e.1) es)) f n h
    by false h more = holds_right e.1 (flat_map (λ (c : List Held). c) (map (λ e. e.1) es)) f n (more h)

pub held_among_all : (m : ChainMap) (k f n : ℕ) → holds (chain_at m k) f n ≡ true → holds (all_records m) f n ≡ true
held_among_all m k f n h = found_in (fin.entries m) k f n (subst (λ o. holds (unwrap_or o []) f n ≡ true) (fin.get-entries m k) h)
