-- The accesses of one number stand side by side in a list in order.
use Rattle.std.proofs.Common.{◌≡◌, ◌⊎◌, inl, inr, ⊎_elim, ℕ, ◌+◌, ◌-◌, ◌<◌, ◌≤◌, Bool, true, false}
use Rattle.std.proofs.Common.{◌&&◌, ◌||◌, ◌≢◌, not, nat_eq, List, length, take, drop, get_or}
use Rattle.std.proofs.Common.{Option, Some, None, refl, sym, ap, ◌∙◌, subst, arith}
use Rattle.std.specs.declared.cmp.Ordering.{Ordering}
use Rattle.std.specs.declared.cmp.Ordering.TheVariants.{Less, Equal, Greater}
use Rattle.std.specs.Cmp.{IsTotalOrder, nat_cmp_total}
use Rattle.std.specs.Ordering.{nat_cmp, is_lt, is_le}
use Rattle.std.specs.Prelude.{if◌then◌else◌, IsTrue, slice_get}
use Rattle.std.specs.Bool.{MatchBool}
use Rattle.std.specs.List.{Contains}
use Rattle.std.specs.List.Sorted.{IsPartitionedBy, IsStrictlySortedBy}
use Rattle.std.proofs.lemmas.Bool.{cases_lt, eqb-true, not-true, and_parts, both_ways}
use Rattle.std.proofs.lemmas.Bool.Decides.{nat_tests}
use Rattle.std.proofs.lemmas.Cmp.{tied_itself, alike_right}
use Rattle.std.proofs.lemmas.List.Elements.{AllWithin-none}
use Rattle.std.proofs.lemmas.List.{get_or-take, get_or-drop, length-take, length-drop}
use Rattle.std.proofs.lemmas.Map.Keys.{Less-from_sorted}
use Rattle.std.proofs.lemmas.Option.{get_or_from_slice_get, none-some}
use Rattle.plex_num.proofs.Numbers.{is_less}
use Rattle.flow_points.specs.declared.fact.Value.{Value}
use Rattle.flow_points.specs.declared.fact.Value.TheVariants.{Arg, Const, Any}
use Rattle.entry_summary.specs.declared.summary.Access.{Access}
use Rattle.entry_summary.specs.declared.summary.Access.TheVariants.{Variable, Field, Own, Seizes}
use Rattle.entry_summary.specs.declared.summary.Access.TheVariants.{Frees}
use Rattle.entry_summary.specs.contracts.summary.AccessOrd.TheImpl.Laws.{total-law}
use Rattle.entry_summary.specs.Orders.{access_order, value_order}
use Rattle.pair_tests.specs.declared.pair.Conflict.{Conflict}
use Rattle.pair_tests.specs.declared.pair.Test.{Test}
use Rattle.pair_tests.specs.declared.pair.Conflict.TheVariants as conflict
use Rattle.pair_tests.specs.Clashes.{share, meet, clash_of, ClashesWith, IsLeastConflict, IsSooner}
use Rattle.pair_tests.specs.Asked.{asked_of, selector_test}
use Rattle.pair_tests.specs.declared.near.Bound.{Bound}
use Rattle.pair_tests.specs.declared.near.Bound.TheVariants.{Below, UpTo}
use Rattle.pair_tests.specs.Nearby.{file_access, lowest, highest, passes_reads, within, IsNear}
use Rattle.pair_tests.specs.Nearby.{AreCounted, AreNear, ArePast, AreWithin}
use Rattle.pair_tests.proofs.Leasts.{least_joined, least_same}
use Rattle.pair_tests.proofs.Conflicting.{shared, chosen}

pub accesses_total : IsTotalOrder access_order
accesses_total = total-law

-- what stands below in order passes a bound that is passed above

up_to_at : (x y high : Access) (o : Ordering) → access_order x y ≡ Less → access_order y high ≡ o → is_le o ≡ true → access_order x high ≡ Less
up_to_at x y high Less below e le = accesses_total.trans x y high below e
up_to_at x y high Equal below e le = sym (alike_right accesses_total y high x e) ∙ below
up_to_at x y high Greater below e le = cc

up_to : (x y high : Access) → access_order x y ≡ Less → is_le (access_order y high) ≡ true → access_order x high ≡ Less
up_to x y high below le = up_to_at x y high (access_order y high) below refl le

pub below_parted : (xs : List Access) (low : Access) → IsStrictlySortedBy access_order xs → IsPartitionedBy (λ a. is_lt (access_order a low)) xs
below_parted xs low up i j d le lt passes =
    ⊎_elim
    (λ before. ap is_lt (accesses_total.trans (get_or xs i d) (get_or xs j d) low
    (Less-from_sorted access_order xs i j d up before lt) (is_less (access_order (get_or xs j d) low) passes)))
    (λ past. (let e : i ≡ j = omega arith in subst (λ k. is_lt (access_order (get_or xs k d) low) ≡ true) (sym e) passes))
    (cases_lt i j)

pub up_to_parted : (xs : List Access) (high : Access) → IsStrictlySortedBy access_order xs → IsPartitionedBy (λ a. is_le (access_order a high)) xs
up_to_parted xs high up i j d le lt passes =
    ⊎_elim
    (λ before. ap is_le (up_to (get_or xs i d) (get_or xs j d) high (Less-from_sorted access_order xs i j d up before lt) passes))
    (λ past. (let e : i ≡ j = omega arith in subst (λ k. is_le (access_order (get_or xs k d) high) ≡ true) (sym e) passes))
    (cases_lt i j)

pub parted : (b : Bound) (xs : List Access) → IsStrictlySortedBy access_order xs → IsPartitionedBy (within b) xs
parted (Below low) xs up = below_parted xs low up
parted (UpTo high) xs up = up_to_parted xs high up

-- so many are within a bound, and none is from there on

pub none_within : (b : Bound) (xs : List Access) (count : ℕ) → count ≡ 0 → AreWithin b xs count
none_within b xs count e = subst (AreWithin b xs) (sym e) (record { there = omega arith; each = AllWithin-none (λ a. within b a ≡ true) xs 0 })

pub first_within : (b : Bound) (xs : List Access) (count : ℕ) (a : Access) (r : Bool) → IsStrictlySortedBy access_order xs → count ≢ 0 → count ≤ length xs
    → slice_get xs (count - 1) ≡ Some a → r ≡ within b a → IsTrue r → AreWithin b xs count
first_within b xs count a r up some there at is h = record {
  there = there;
  each = λ k d low high.
      (let le : k ≤ count - 1 = omega (arith, high) in
      let lt : count - 1 < length xs = omega (arith, there, high) in
      parted b xs up k (count - 1) d le lt (ap (within b) (get_or_from_slice_get xs (count - 1) a d at) ∙ sym is ∙ h));
}

pub all_past : (b : Bound) (xs : List Access) (place : ℕ) → length xs ≤ place → ArePast b xs place
all_past b xs place past = record { each = λ k d low high. absurd (omega (arith, past, low, high)) }

pub one_within : (b : Bound) (xs : List Access) (place : ℕ) (a : Access) (r : Bool) → IsStrictlySortedBy access_order xs → place < length xs
    → slice_get xs place ≡ Some a → r ≡ within b a → MatchBool (not r) (ArePast b xs place) (AreWithin b xs (place + 1))
one_within b xs place a true up lt at is = record {
  there = omega (arith, lt);
  each = λ k d low high.
      (let le : k ≤ place = omega (arith, high) in
      parted b xs up k place d le lt (ap (within b) (get_or_from_slice_get xs place a d at) ∙ sym is));
}
one_within b xs place a false up lt at is = record { each = λ k d low high. no_longer k d low high (within b (get_or xs k d)) refl }
  where
    no_longer : (k : ℕ) (d : Access) → place ≤ k → k < length xs → (t : Bool) → within b (get_or xs k d) ≡ t → t ≡ false
    no_longer k d low high false e = refl
    no_longer k d low high true e = sym (parted b xs up place k d low high e) ∙ ap (within b) (get_or_from_slice_get xs place a d at) ∙ sym is

pub counted : (b : Bound) (xs : List Access) (count : ℕ) → AreWithin b xs count → ArePast b xs count → AreCounted b xs count
counted b xs count front past = record { there = front.there; parts = (front.each, past.each) }

-- what is near stands between the two bounds

pub itself : (x : Access) → access_order x x ≡ Equal
itself x = tied_itself accesses_total x

field_order : (v : Bool) (n : ℕ) (u z : Value) → access_order (Field v n u) (Field v n z) ≡ value_order u z
field_order true n u z = rw (tied_itself nat_cmp_total n)
field_order false n u z = rw (tied_itself nat_cmp_total n)

not_below_zero : (k : ℕ) → is_lt (nat_cmp k 0) ≡ false
not_below_zero k = grind (arith, nat_tests)

pub not_below_arg : (z : Value) → is_lt (value_order z (Arg 0)) ≡ false
not_below_arg (Arg k) = not_below_zero k
not_below_arg (Const c) = refl
not_below_arg Any = refl

up_to_any : (z : Value) → is_le (value_order z Any) ≡ true
up_to_any (Arg k) = refl
up_to_any (Const c) = refl
up_to_any Any = refl

not_below : (x : Access) → is_lt (access_order x x) ≡ false
not_below x = ap is_lt (itself x)

not_above : (x : Access) → is_le (access_order x x) ≡ true
not_above x = ap is_le (itself x)

near_low : (one : Access) (v : Bool) (b : Access) → IsNear one v b → is_lt (access_order b (lowest one v)) ≡ false
near_low (Variable w n) v b e = subst (λ x. is_lt (access_order x (Variable v n)) ≡ false) (sym e) (not_below (Variable v n))
near_low (Field w n u) v b e = subst (λ x. is_lt (access_order x (Field v n (Arg 0))) ≡ false) (sym e.1)
    (ap is_lt (field_order v n e.0 (Arg 0)) ∙ not_below_arg e.0)
near_low (Own w n) v b e = subst (λ x. is_lt (access_order x (Own v n)) ≡ false) (sym e) (not_below (Own v n))
near_low (Seizes f) v b e = subst (λ x. is_lt (access_order x (file_access f v)) ≡ false) (sym e) (not_below (file_access f v))
near_low (Frees f) v b e = subst (λ x. is_lt (access_order x (file_access f v)) ≡ false) (sym e) (not_below (file_access f v))

near_high : (one : Access) (v : Bool) (b : Access) → IsNear one v b → is_le (access_order b (highest one v)) ≡ true
near_high (Variable w n) v b e = subst (λ x. is_le (access_order x (Variable v n)) ≡ true) (sym e) (not_above (Variable v n))
near_high (Field w n u) v b e = subst (λ x. is_le (access_order x (Field v n Any)) ≡ true) (sym e.1) (ap is_le (field_order v n e.0 Any) ∙ up_to_any e.0)
near_high (Own w n) v b e = subst (λ x. is_le (access_order x (Own v n)) ≡ true) (sym e) (not_above (Own v n))
near_high (Seizes f) v b e = subst (λ x. is_le (access_order x (file_access f v)) ≡ true) (sym e) (not_above (file_access f v))
near_high (Frees f) v b e = subst (λ x. is_le (access_order x (file_access f v)) ≡ true) (sym e) (not_above (file_access f v))

-- what stands in a part of a list

part_from : (xs : List Access) (from to : ℕ) (b : Access) → Contains (drop from (take to xs)) b → Contains xs b
part_from xs from to b (k, lt, is) =
    let long = length-drop from (take to xs) in
    let most = length-take to xs in
    let within : from + k < length (take to xs) = omega arith in
    let below : from + k < to = omega arith in
    let there : from + k < length xs = omega arith in
    (from + k, there, sym (get_or-take to xs (from + k) b below) ∙ sym (get_or-drop from (take to xs) k b) ∙ is)

part_has : (xs : List Access) (from to : ℕ) (k : ℕ) (b : Access) → to ≤ length xs → from ≤ k → k < to → get_or xs k b ≡ b → Contains (drop from (take to xs)) b
part_has xs from to k b bound low high is =
    let long = length-drop from (take to xs) in
    let most = length-take to xs in
    let lt : k - from < length (drop from (take to xs)) = omega arith in
    let same : from + (k - from) ≡ k = omega arith in
    (k - from, lt, get_or-drop from (take to xs) (k - from) b ∙ ap (λ i. get_or (take to xs) i b) same ∙ get_or-take to xs k b high ∙ is)

pub near_part : (one : Access) (v : Bool) (low high : Access) (xs some : List Access) (from to : ℕ)
    → low ≡ lowest one v → high ≡ highest one v → AreCounted (Below low) xs from → AreCounted (UpTo high) xs to
    → some ≡ drop from (take to xs) → AreNear one v xs some
near_part one v low high xs some from to is_low is_high begins ends is =
    subst (AreNear one v xs) (sym is)
    (record {
      each = part_from xs from to;
      near = λ b at near. placed b at.0 at.1 at.2
          (subst (λ x. is_lt (access_order b x) ≡ false) (sym is_low) (near_low one v b near))
          (subst (λ x. is_le (access_order b x) ≡ true) (sym is_high) (near_high one v b near));
    })
  where
    placed : (b : Access) (k : ℕ) → k < length xs → get_or xs k b ≡ b → is_lt (access_order b low) ≡ false
        → is_le (access_order b high) ≡ true → Contains (drop from (take to xs)) b
    placed b k lt at l h =
        let above : from ≤ k = ⊎_elim
        (λ past. absurd (both_ways (is_lt (access_order b low)) l (subst (λ x. is_lt (access_order x low) ≡ true) at (begins.parts.0 k b (omega arith) past))))
        (λ up. up)
        (cases_lt k from) in
        let under : k < to = ⊎_elim
        (λ up. up)
        (λ past. absurd (both_ways (is_le (access_order b high)) (subst (λ x. is_le (access_order x high) ≡ false) at (ends.parts.1 k b past lt)) h))
        (cases_lt k to) in
        part_has xs from to k b ends.there above under at

-- what clashes with an access, or asks for a test, is near

same_variable : (v : Bool) (n m : ℕ) → n ≡ m → Variable v m ≡ Variable v n
same_variable v n m e = ap (Variable v) (sym e)

same_field : (v : Bool) (n m : ℕ) (z : Value) → n ≡ m → (y : Value) × (Field v m z ≡ Field v n y)
same_field v n m z e = (z, ap (λ k. Field v k z) (sym e))

by_write : (one : Access) (v : Bool) (b : Access) → IsNear one v b → IsNear one false b ⊎ IsNear one true b
by_write one true b near = inr near
by_write one false b near = inl near

pub clash_near : (one b : Access) (c : Conflict) → clash_of one b ≡ Some c → IsNear one false b ⊎ IsNear one true b
clash_near (Variable w n) (Variable v m) c e = by_write (Variable w n) v (Variable v m)
    (same_variable v n m (shared n m w v (chosen (share n m w v) (conflict.Variable n) c e).0).number)
clash_near (Field w n u) (Field v m z) c e =
    by_write (Field w n u) v (Field v m z) (same_field v n m z
    (shared n m w v (and_parts (share n m w v) (meet u z)
    (chosen (share n m w v && meet u z) (conflict.Field n u z) c e).0).0).number)
clash_near (Seizes f) (Seizes g) c e = inl (ap Seizes (sym (eqb-true f g (chosen (nat_eq f g) (conflict.Seizing f) c e).0)))
clash_near (Seizes f) (Frees g) c e = inr (ap Frees (sym (eqb-true f g (chosen (nat_eq f g) (conflict.Seizing f) c e).0)))
clash_near (Frees f) (Seizes g) c e = inl (ap Seizes (sym (eqb-true f g (chosen (nat_eq f g) (conflict.Seizing f) c e).0)))
clash_near _ _ c e = absurd (none-some c e)

pub asks : (b : Bool) (o : Option Test) (t : Test) → (if b then o else None) ≡ Some t → (b ≡ true) × (o ≡ Some t)
asks true o t e = (refl, e)
asks false o t e = absurd (none-some t e)

pub asked_near : (one b : Access) (t : Test) → asked_of one b ≡ Some t → IsNear one false b ⊎ IsNear one true b
asked_near (Field w n u) (Field v m z) t e = by_write (Field w n u) v (Field v m z)
    (same_field v n m z (shared n m w v (asks (share n m w v) (selector_test u z) t e).0).number)
asked_near _ _ t e = absurd (none-some t e)

-- what an access that reads has to do with an access, that one writes

with_writing : (v : Bool) → (false || v) ≡ true → v ≡ true
with_writing v e = e

one_writing : (w v : Bool) → not w ≡ true → (w || v) ≡ true → v ≡ true
one_writing w v reads e = subst (λ u. (u || v) ≡ true) (not-true w reads) e

pub clash_writes : (one b : Access) (c : Conflict) → passes_reads one ≡ true → clash_of one b ≡ Some c → IsNear one true b
clash_writes (Variable w n) (Variable v m) c reads e =
    let s = shared n m w v (chosen (share n m w v) (conflict.Variable n) c e).0 in
    subst (λ u. Variable v m ≡ Variable u n) (one_writing w v reads s.writes) (same_variable v n m s.number)
clash_writes (Field w n u) (Field v m z) c reads e =
    let s = shared n m w v (and_parts (share n m w v) (meet u z) (chosen (share n m w v && meet u z) (conflict.Field n u z) c e).0).0 in
    subst (λ t. (y : Value) × (Field v m z ≡ Field t n y)) (one_writing w v reads s.writes) (same_field v n m z s.number)
clash_writes (Seizes f) b c reads e = cc
clash_writes (Frees f) b c reads e = cc
clash_writes _ _ c reads e = absurd (none-some c e)

pub asked_writes : (one b : Access) (t : Test) → passes_reads one ≡ true → asked_of one b ≡ Some t → IsNear one true b
asked_writes (Field w n u) (Field v m z) t reads e =
    let s = shared n m w v (asks (share n m w v) (selector_test u z) t e).0 in
    subst (λ i. (y : Value) × (Field v m z ≡ Field i n y)) (one_writing w v reads s.writes) (same_field v n m z s.number)
asked_writes _ _ t reads e = absurd (none-some t e)

-- the first of the conflicts with those that are near
pub least_writes : (one : Access) (all some : List Access) (writes : Option Conflict) → passes_reads one ≡ true → AreNear one true all some
    → IsLeastConflict (ClashesWith one some) writes → IsLeastConflict (ClashesWith one all) writes
least_writes one all some writes reads w first =
    least_same (ClashesWith one some) (ClashesWith one all)
    (λ c h. record { other = h.other; there = w.each h.other h.there; clash = h.clash })
    (λ c h. record { other = h.other; there = w.near h.other h.there (clash_writes one h.other c reads h.clash); clash = h.clash })
    writes first

pub least_near : (one : Access) (all some_reads some_writes : List Access) (reads writes result : Option Conflict)
    → AreNear one false all some_reads → AreNear one true all some_writes
    → IsLeastConflict (ClashesWith one some_reads) reads → IsLeastConflict (ClashesWith one some_writes) writes
    → IsSooner reads writes result → IsLeastConflict (ClashesWith one all) result
least_near one all some_reads some_writes reads writes result r w first second is =
    least_joined (ClashesWith one some_reads) (ClashesWith one some_writes) (ClashesWith one all)
    (λ c h. record { other = h.other; there = r.each h.other h.there; clash = h.clash })
    (λ c h. record { other = h.other; there = w.each h.other h.there; clash = h.clash })
    (λ c h. ⊎_elim
    (λ n. inl (record { other = h.other; there = r.near h.other h.there n; clash = h.clash }))
    (λ n. inr (record { other = h.other; there = w.near h.other h.there n; clash = h.clash }))
    (clash_near one h.other c h.clash))
    reads writes result first second is
