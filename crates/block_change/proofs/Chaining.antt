-- The chains are carried over, number by number.
use Rattle.std.proofs.Common.{◌≡◌, ◌≢◌, ℕ, zero, suc, ◌+◌, ◌<◌, ◌≤◌, Bool, true, false, ◌||◌}
use Rattle.std.proofs.Common.{nat_eq, cond, List, [], ◌∷◌, ◌++◌, length, take, map, get_or, Option}
use Rattle.std.proofs.Common.{Some, None, unwrap_or, refl, sym, ap, ◌∙◌, subst, arith}
use lib.Dec.{T}
use Rattle.std.specs.Prelude.{is_some}
use Rattle.std.specs.Cmp.{nat_cmp_total, unsigned_tied}
use Rattle.std.specs.Ordering.{nat_cmp, eq_by_cmp, is_lt}
use Rattle.std.specs.FinMap as fin
use Rattle.std.specs.FinMap.{nat_cmp-IsAntisymmetric}
use Rattle.std.specs.FinMap.Entries.{below_all, is_sorted, find}
use Rattle.std.specs.List.{AllByRecursion, IsDistinct, list_any}
use Rattle.std.specs.Option.{option_map}
use Rattle.std.proofs.lemmas.Bool.{eq-eqb, eqb-true, ne_eqb, both_ways, or_parts}
use Rattle.std.proofs.lemmas.List.{take_all, take_more}
use Rattle.std.proofs.lemmas.List.Folds.{list_any-append}
use Rattle.plex_num.proofs.Options.{split}
use Rattle.exchange_model.specs.declared.exchange.Exchange.{Exchange}
use Rattle.job_types.specs.declared.chain.Held.{Held}
use Rattle.job_types.specs.Forlopps.{ChainMap, chain_at, is_dead, with_chain}
use Rattle.job_types.proofs.ChainMaps.{get-with_chain}
use Rattle.forlopp_chain.specs.Chains.{Forlopps, IsSound, NoneEmpty}
use Rattle.run_books.proofs.Parted.{not_equal}
use Rattle.block_change.specs.Carried.{carried_chain, carried_chains}

-- ## Keys

-- a key below all others is none of them
none_same : {X : Type 0} (q : ℕ) (es : List (ℕ × X)) → T (below_all nat_cmp q es) → AllByRecursion (λ k. nat_eq q k ≡ false) (map (λ e. e.0) es)
none_same q [] below = tt
none_same q (e ∷ es) below =
    let parts = split (is_lt (nat_cmp q e.0)) (below_all nat_cmp q es) below in
    (sym (unsigned_tied q e.0) ∙ not_equal (nat_cmp q e.0) parts.0, none_same q es parts.1)

keys_of_sorted : {X : Type 0} (es : List (ℕ × X)) → T (is_sorted nat_cmp es) → IsDistinct nat_eq (map (λ e. e.0) es)
unfolding IsDistinct
keys_of_sorted [] sorted = tt
keys_of_sorted (e ∷ es) sorted =
    let parts = split (below_all nat_cmp e.0 es) (is_sorted nat_cmp es) sorted in
    (none_same e.0 es parts.0, keys_of_sorted es parts.1)

keys_apart : (m : ChainMap) → IsDistinct nat_eq (fin.keys m)
keys_apart m = keys_of_sorted (fin.entries m) (fin.entries_sorted m)

apart_at : (k n i : ℕ) (ns : List ℕ) → AllByRecursion (λ l. nat_eq k l ≡ false) ns → i < length ns → n ≡ get_or ns i n → nat_eq n k ≡ false
apart_at k n i [] all inside is = absurd (omega arith)
apart_at k n zero (l ∷ ns) all inside is = ne_eqb n k (λ same. both_ways (nat_eq k l) all.0 (eq-eqb k l (sym same ∙ is)))
apart_at k n (suc i) (l ∷ ns) all inside is = apart_at k n i ns all.1 (omega (arith, inside)) is

new_number : (n i : ℕ) (ns : List ℕ) → IsDistinct nat_eq ns → i < length ns → n ≡ get_or ns i n → list_any (nat_eq n) (take i ns) ≡ false
unfolding IsDistinct
new_number n i [] apart inside is = absurd (omega arith)
new_number n zero (k ∷ ns) apart inside is = refl
new_number n (suc i) (k ∷ ns) apart inside is =
    ap (λ b. b || list_any (nat_eq n) (take i ns)) (apart_at k n i ns apart.0 (omega (arith, inside)) is) ∙ new_number n i ns apart.1 (omega (arith, inside)) is

member_at : (n i : ℕ) (ns : List ℕ) → i < length ns → n ≡ get_or ns i n → list_any (nat_eq n) ns ≡ true
member_at n i [] inside is = absurd (omega arith)
member_at n zero (k ∷ ns) inside is = ap (λ b. b || list_any (nat_eq n) ns) (eq-eqb n k is)
member_at n (suc i) (k ∷ ns) inside is = by (nat_eq n k) (member_at n i ns (omega (arith, inside)) is)
  where
    by : (b : Bool) → list_any (nat_eq n) ns ≡ true → (b || list_any (nat_eq n) ns) ≡ true
    by true more = refl
    by false more = more

any_tied : (q : ℕ) (ns : List ℕ) → list_any (eq_by_cmp nat_cmp q) ns ≡ list_any (nat_eq q) ns
any_tied q [] = refl
any_tied q (n ∷ ns) = λ i. unsigned_tied q n i || any_tied q ns i

member_is : (m : ChainMap) (q : ℕ) → list_any (nat_eq q) (fin.keys m) ≡ is_some (fin.get m q)
member_is m q = sym (fin.contains_key-keys m q ∙ any_tied q (fin.keys m))

-- ## The chain of one number more

-- the chains of these numbers are carried over, and all others are as they were
pub record ChainsGo (x y : Exchange) (old new : Forlopps) (numbers : List ℕ) (i : ℕ) : Type 0 where
  pub dead : new.dead ≡ old.dead
  pub done : (n : ℕ) → list_any (nat_eq n) (take i numbers) ≡ true → fin.get new.chains n ≡ Some (carried_chain x y (chain_at old.chains n))
  pub left : (n : ℕ) → list_any (nat_eq n) (take i numbers) ≡ false → fin.get new.chains n ≡ fin.get old.chains n

-- the number is one that holds records
is_held : (m : ChainMap) (n : ℕ) → NoneEmpty m → is_some (fin.get m n) ≡ true → chain_at m n ≢ []
is_held m n some is = by (fin.get m n) refl is
  where
    by : (o : Option (List Held)) → fin.get m n ≡ o → is_some o ≡ true → unwrap_or (fin.get m n) [] ≢ []
    by None at is = absurd (cc)
    by (Some c) at is = λ none. some n (at ∙ ap Some (sym (ap (λ o. unwrap_or o []) at) ∙ none))

pub record IsNext (x y : Exchange) (old now : Forlopps) (n : ℕ) : Type 0 where
  pub same : fin.get now.chains n ≡ fin.get old.chains n
  pub held : chain_at now.chains n ≢ []

pub is_next : (x y : Exchange) (old now : Forlopps) (numbers : List ℕ) (i n : ℕ) → numbers ≡ fin.keys old.chains
    → i < length numbers → n ≡ get_or numbers i n → IsSound now.chains now.dead → ChainsGo x y old now numbers i
    → IsNext x y old now n
is_next x y old now numbers i n all inside is sound before =
    let apart : IsDistinct nat_eq numbers = subst (IsDistinct nat_eq) (sym all) (keys_apart old.chains) in
    let same = before.left n (new_number n i numbers apart inside is) in
    let there : is_some (fin.get now.chains n) ≡ true = ap is_some same ∙ sym (member_is old.chains n)
    ∙ ap (list_any (nat_eq n)) (sym all) ∙ member_at n i numbers inside is in
    record { same = same; held = is_held now.chains n sound.some there }

pub next_some : (x y : Exchange) (old now : Forlopps) (numbers : List ℕ) (i n : ℕ) → numbers ≡ fin.keys old.chains
    → i < length numbers → n ≡ get_or numbers i n → IsSound now.chains now.dead → ChainsGo x y old now numbers i → n ≢ 0
next_some x y old now numbers i n all inside is sound before = (sound.live n (is_next x y old now numbers i n all inside is sound before).held).0

pub next_live : (x y : Exchange) (old now ready : Forlopps) (numbers : List ℕ) (i n : ℕ) → numbers ≡ fin.keys old.chains
    → i < length numbers → n ≡ get_or numbers i n → IsSound now.chains now.dead → ready.dead ≡ now.dead
    → ChainsGo x y old now numbers i → is_dead ready.dead n ≡ false
next_live x y old now ready numbers i n all inside is sound dead before = ap (λ d. is_dead d n) dead
    ∙ (sound.live n (is_next x y old now numbers i n all inside is sound before).held).1

get_put : (m : ChainMap) (n q : ℕ) (chain : List Held) → chain ≢ [] → fin.get (with_chain m n chain) q ≡ cond (nat_eq q n) (Some chain) (fin.get m q)
get_put m n q [] some = absurd (some refl)
get_put m n q (h ∷ chain) some = get-with_chain m n h chain q

still_some : (x y : Exchange) (chain : List Held) → chain ≢ [] → carried_chain x y chain ≢ []
still_some x y [] some none = absurd (some refl)
still_some x y (h ∷ chain) some none = absurd (cc)

any_last : (q n : ℕ) (ns : List ℕ) → list_any (nat_eq q) (ns ++ n ∷ []) ≡ (list_any (nat_eq q) ns || (nat_eq q n || false))
any_last q n ns = list_any-append (nat_eq q) ns (n ∷ [])

pub chains_more : (x y : Exchange) (old now ready new : Forlopps) (numbers : List ℕ) (i n : ℕ) (chain : List Held)
    → numbers ≡ fin.keys old.chains → i < length numbers → n ≡ get_or numbers i n → IsSound now.chains now.dead
    → chain ≡ carried_chain x y (chain_at now.chains n) → ready.chains ≡ now.chains → ready.dead ≡ now.dead
    → new.chains ≡ with_chain ready.chains n chain → new.dead ≡ ready.dead
    → ChainsGo x y old now numbers i → ChainsGo x y old new numbers (i + 1)
chains_more x y old now ready new numbers i n chain all inside is sound made ready_chains ready_dead put put_dead before = record {
  dead = put_dead ∙ ready_dead ∙ before.dead;
  done = λ q there. by_done q (nat_eq q n) refl (sym (any_last q n (take i numbers)) ∙ ap (list_any (nat_eq q)) (sym next_is) ∙ there);
  left = λ q there. by_left q (sym (any_last q n (take i numbers)) ∙ ap (list_any (nat_eq q)) (sym next_is) ∙ there);
}
  where
    next : IsNext x y old now n
    next = is_next x y old now numbers i n all inside is sound before

    next_is : take (i + 1) numbers ≡ take i numbers ++ n ∷ []
    next_is = take_more numbers i n inside ∙ ap (λ k. take i numbers ++ k ∷ []) (sym is)

    some : chain ≢ []
    some none = still_some x y (chain_at now.chains n) next.held (sym made ∙ none)

    got : (q : ℕ) → fin.get new.chains q ≡ cond (nat_eq q n) (Some chain) (fin.get now.chains q)
    got q = ap (λ m. fin.get m q) (put ∙ ap (λ m. with_chain m n chain) ready_chains) ∙ get_put now.chains n q chain some

    as_old : chain ≡ carried_chain x y (chain_at old.chains n)
    as_old = made ∙ ap (λ o. carried_chain x y (unwrap_or o [])) next.same

    or_none : (a : Bool) → (a || (false || false)) ≡ true → a ≡ true
    or_none true h = refl
    or_none false h = h

    by_done : (q : ℕ) (b : Bool) → nat_eq q n ≡ b
        → (list_any (nat_eq q) (take i numbers) || (nat_eq q n || false)) ≡ true
        → fin.get new.chains q ≡ Some (carried_chain x y (chain_at old.chains q))
    by_done q true at there =
        got q ∙ ap (λ b. cond b (Some chain) (fin.get now.chains q)) at
        ∙ ap Some (as_old ∙ ap (λ k. carried_chain x y (chain_at old.chains k)) (sym (eqb-true q n at)))
    by_done q false at there =
        got q ∙ ap (λ b. cond b (Some chain) (fin.get now.chains q)) at
        ∙ before.done q (or_none (list_any (nat_eq q) (take i numbers)) (ap (λ b. list_any (nat_eq q) (take i numbers) || (b || false)) (sym at) ∙ there))

    by_left : (q : ℕ) → (list_any (nat_eq q) (take i numbers) || (nat_eq q n || false)) ≡ false → fin.get new.chains q ≡ fin.get old.chains q
    by_left q none =
        let parts = or_parts (list_any (nat_eq q) (take i numbers)) (nat_eq q n || false) none in
        let other = (or_parts (nat_eq q n) false parts.1).0 in
        got q ∙ ap (λ b. cond b (Some chain) (fin.get now.chains q)) other ∙ before.left q parts.0

-- ## All

found_mapped : (f : List Held → List Held) (q : ℕ) (es : List (ℕ × List Held))
    → find nat_cmp q (map (λ (e : ℕ × List Held). (e.0, f e.1)) es) ≡ option_map f (find nat_cmp q es)
found_mapped f q [] = refl
found_mapped f q (e ∷ es) = by (eq_by_cmp nat_cmp q e.0) (found_mapped f q es)
  where
    by : (b : Bool) → find nat_cmp q (map (λ (e : ℕ × List Held). (e.0, f e.1)) es) ≡ option_map f (find nat_cmp q es)
        → cond b (Some (f e.1)) (find nat_cmp q (map (λ (e : ℕ × List Held). (e.0, f e.1)) es)) ≡ option_map f (cond b (Some e.1) (find nat_cmp q es))
    by true more = refl
    by false more = more

pub get-carried : (x y : Exchange) (m : ChainMap) (q : ℕ) → fin.get (carried_chains x y m) q ≡ option_map (carried_chain x y) (fin.get m q)
unfolding carried_chains
get-carried x y m q =
    fin.get-from_entries nat_cmp_total (map (λ (e : ℕ × List Held). (e.0, carried_chain x y e.1)) (fin.entries m)) q
    ∙ found_mapped (carried_chain x y) q (fin.entries m)
    ∙ ap (option_map (carried_chain x y)) (sym (fin.get-entries m q))

pub chain_at-carried : (x y : Exchange) (m : ChainMap) (q : ℕ) → chain_at (carried_chains x y m) q ≡ carried_chain x y (chain_at m q)
chain_at-carried x y m q = ap (λ o. unwrap_or o []) (get-carried x y m q) ∙ by (fin.get m q)
  where
    by : (o : Option (List Held)) → unwrap_or (option_map (carried_chain x y) o) [] ≡ carried_chain x y (unwrap_or o [])
    by None = refl
    by (Some c) = refl

pub chains_end : (x y : Exchange) (old new : Forlopps) (numbers : List ℕ) (i : ℕ) → numbers ≡ fin.keys old.chains
    → length numbers ≤ i → ChainsGo x y old new numbers i → new.chains ≡ carried_chains x y old.chains
chains_end x y old new numbers i all past upto = fin.same_map nat_cmp_total nat_cmp-IsAntisymmetric _ _
    (λ q. by q (fin.get old.chains q) refl ∙ sym (get-carried x y old.chains q))
  where
    whole : take i numbers ≡ fin.keys old.chains
    whole = take_all i numbers past ∙ all

    member : (q : ℕ) → list_any (nat_eq q) (take i numbers) ≡ is_some (fin.get old.chains q)
    member q = ap (list_any (nat_eq q)) whole ∙ member_is old.chains q

    by : (q : ℕ) (o : Option (List Held)) → fin.get old.chains q ≡ o → fin.get new.chains q ≡ option_map (carried_chain x y) (fin.get old.chains q)
    by q None at = upto.left q (member q ∙ ap is_some at) ∙ at ∙ sym (ap (option_map (carried_chain x y)) at)
    by q (Some c) at = upto.done q (member q ∙ ap is_some at) ∙ ap (λ o. Some (carried_chain x y (unwrap_or o []))) at
        ∙ sym (ap (option_map (carried_chain x y)) at)
