-- The numbers that hold records, in their order, and the chains of these.
use Rattle.std.proofs.Common.{◌≡◌, ℕ, Bool, true, false, eqb, ◌&&◌, List, [], ◌∷◌, map, Option}
use Rattle.std.proofs.Common.{None, Some, is_some, refl, sym, ap, subst, ◌∙◌}
use lib.Dec.{T}
use Rattle.std.specs.declared.cmp.Ordering.TheVariants.{Less}
use Rattle.std.specs.Ordering.{nat_cmp, eq_by_cmp, is_lt}
use Rattle.std.specs.Cmp.{nat_cmp_total, nat_eq_equiv}
use Rattle.std.specs.FinMap as fin
use Rattle.std.specs.FinMap.{nat_cmp-IsAntisymmetric}
use Rattle.std.specs.FinMap.Entries.{below_all, is_sorted, find, is_some-find, same_entries}
use Rattle.std.specs.List.{AllByRecursion, IsDistinct, list_any}
use Rattle.std.specs.List.Sorted.{IsPermutation, IsSorted, IsStrictlySortedBy}
use Rattle.std.specs.Map.{keys_of}
use Rattle.std.proofs.lemmas.List.Sorted.{IsNonDecreasingBy-from_sort, list_any-IsPermutation}
use Rattle.std.proofs.lemmas.Map.Keys.{IsDistinct-IsPermutation, IsStrictlyIncreasing-from_distinct}
use Rattle.std.proofs.lemmas.Map.Keys.{sorted_from_strictly_increasing, sorted_head, sorted_tail}
use Rattle.job_types.specs.declared.chain.Held.{Held}
use Rattle.forlopp_chain.specs.Kept.{chains_of}

joined : (a b : Bool) → T a → T b → T (a && b)
joined true b p q = q
joined false b p q = absurd p

-- ---- two lists of numbers that rise and have the same members

marked : List ℕ → List (ℕ × Unit {0})
marked ns = map (λ n. (n, tt)) ns

keys-marked : (ns : List ℕ) → keys_of (marked ns) ≡ ns
unfolding marked
keys-marked [] = refl
keys-marked (n ∷ ns) = ap (λ ks. n ∷ ks) (keys-marked ns)

below-marked : (n : ℕ) (ns : List ℕ) → AllByRecursion (λ m. nat_cmp n m ≡ Less) ns → T (below_all nat_cmp n (marked ns))
unfolding marked
below-marked n [] all = tt
below-marked n (m ∷ ns) all = joined _ _ (subst (λ r. T (is_lt r)) (sym all.0) tt) (below-marked n ns all.1)

rises : (ns : List ℕ) → IsStrictlySortedBy nat_cmp ns → T (is_sorted nat_cmp (marked ns))
unfolding marked
rises [] up = tt
rises (n ∷ ns) up = joined _ _ (below-marked n ns (sorted_head nat_cmp n ns up)) (rises ns (sorted_tail nat_cmp n ns up))

below-keys : {X : Type 0} (n : ℕ) (es : List (ℕ × X)) → below_all nat_cmp n (marked (keys_of es)) ≡ below_all nat_cmp n es
unfolding marked
below-keys n [] = refl
below-keys n (e ∷ es) = ap (λ b. is_lt (nat_cmp n e.0) && b) (below-keys n es)

sorted-keys : {X : Type 0} (es : List (ℕ × X)) → is_sorted nat_cmp (marked (keys_of es)) ≡ is_sorted nat_cmp es
unfolding marked
sorted-keys [] = refl
sorted-keys (e ∷ es) = λ i. below-keys e.0 es i && sorted-keys es i

one_mark : (x y : Option (Unit {0})) → is_some x ≡ is_some y → x ≡ y
one_mark None None is = refl
one_mark None (Some u) is = absurd (cc)
one_mark (Some u) None is = absurd (cc)
one_mark (Some u) (Some v) is = refl

same_members : (ns ms : List ℕ) → T (is_sorted nat_cmp (marked ns)) → T (is_sorted nat_cmp (marked ms))
    → ((q : ℕ) → list_any (eq_by_cmp nat_cmp q) ns ≡ list_any (eq_by_cmp nat_cmp q) ms) → ns ≡ ms
same_members ns ms up_n up_m same =
    let found : (q : ℕ) (ks : List ℕ) → is_some (find nat_cmp q (marked ks))
    ≡ list_any (eq_by_cmp nat_cmp q) ks = λ q ks. is_some-find nat_cmp q (marked ks)
    ∙ ap (list_any (eq_by_cmp nat_cmp q)) (keys-marked ks) in
    sym (keys-marked ns)
    ∙ ap keys_of (same_entries nat_cmp nat_cmp_total nat_cmp-IsAntisymmetric (marked ns) (marked ms) up_n up_m
    (λ q. one_mark _ _ (found q ns ∙ same q ∙ sym (found q ms))))
    ∙ keys-marked ms

-- ---- the keys of a table, sorted

in_map : (es : List (ℕ × List Held)) (q : ℕ) → list_any (eq_by_cmp nat_cmp q) (fin.keys (chains_of es)) ≡ list_any (eq_by_cmp nat_cmp q) (keys_of es)
in_map es q = sym (fin.contains_key-keys (chains_of es) q) ∙ ap is_some (fin.get-from_entries nat_cmp_total es q) ∙ is_some-find nat_cmp q es

pub sorted_numbers : (es : List (ℕ × List Held)) (ns : List ℕ) → IsDistinct eqb (keys_of es)
    → IsPermutation (keys_of es) ns → IsSorted nat_cmp ns → ns ≡ fin.keys (chains_of es)
sorted_numbers es ns distinct moved sorted =
    let differ = IsDistinct-IsPermutation eqb (λ x y. nat_eq_equiv.symm x y) (keys_of es) ns moved distinct in
    let up = sorted_from_strictly_increasing ns (IsStrictlyIncreasing-from_distinct ns (IsNonDecreasingBy-from_sort (λ (n : ℕ). n) ns sorted) differ) in
    same_members ns (fin.keys (chains_of es)) (rises ns up)
    (subst T (sym (sorted-keys (fin.entries (chains_of es)))) (fin.entries_sorted (chains_of es)))
    (λ q. sym (list_any-IsPermutation (eq_by_cmp nat_cmp q) (keys_of es) ns moved) ∙ sym (in_map es q))
