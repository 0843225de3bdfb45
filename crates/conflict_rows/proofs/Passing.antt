-- Accesses that none of another list is near give no row.
use Rattle.std.proofs.Common.{◌≡◌, ⊎_elim, ℕ, ◌<◌, ◌≤◌, Bool, true, false, ◌&&◌, ◌||◌, nat_eq}
use Rattle.std.proofs.Common.{List, get_or, Some, slice_get, refl, sym, ap, ◌∙◌, subst, arith}
use Rattle.std.specs.declared.cmp.Ordering.{Ordering}
use Rattle.std.specs.declared.cmp.Ordering.TheVariants.{Less, Equal, Greater}
use Rattle.std.specs.Ordering.{is_lt, nat_cmp, ordering_then}
use Rattle.std.proofs.lemmas.Bool.{and_from, and_parts, both_ways, eq-eqb, eqb-true, true≢false}
use Rattle.std.proofs.lemmas.Bool.Decides.{nat_tests}
use Rattle.std.proofs.lemmas.Option.{get_or_from_slice_get, none-some}
use Rattle.flow_points.specs.declared.fact.Value.{Value}
use Rattle.flow_points.specs.declared.fact.Value.TheVariants.{Arg, Const, Any}
use Rattle.entry_summary.specs.declared.summary.Access.{Access}
use Rattle.entry_summary.specs.declared.summary.Access.TheVariants.{Variable, Field, Own, Seizes}
use Rattle.entry_summary.specs.declared.summary.Access.TheVariants.{Frees}
use Rattle.entry_summary.specs.Orders.{access_order, value_order}
use Rattle.entry_accesses.specs.Adding.{Adds}
use Rattle.pair_tests.specs.declared.pair.Conflict.{Conflict}
use Rattle.pair_tests.specs.declared.pair.Conflict.TheVariants as conflict
use Rattle.pair_tests.specs.Asked.{asks}
use Rattle.pair_tests.specs.Clashes.{clash_of, meet, only_if, share}
use Rattle.pair_tests.specs.Idle.{AreSo, IsIdle}
use Rattle.pair_tests.specs.Nearby.{near_access}
use Rattle.pair_tests.proofs.Conflicting.{chosen, shared}
use Rattle.pair_tests.proofs.Nearing.{not_below_arg}
use Rattle.pair_tests.proofs.Skipping.{so_less}
use Rattle.conflicts_meaning.specs.declared.rows.ClashRow.{ClashRow}
use Rattle.conflict_rows.specs.Near.{IsOfFirst, IsOfLater, NearLater, selector_of}
use Rattle.conflict_rows.proofs.Covering.{some_of}
use Rattle.conflict_rows.proofs.Finding.{contained}
use Rattle.conflict_rows.proofs.Loops.{GivenBelow, items_passed}

-- what conflicts with an access, the access conflicts with

or_back : (w v : Bool) → (w || v) ≡ true → (v || w) ≡ true
or_back true true e = refl
or_back true false e = refl
or_back false true e = refl
or_back false false e = cc

share_back : (n m : ℕ) (w v : Bool) → share n m w v ≡ true → share m n v w ≡ true
share_back n m w v e = (let s = shared n m w v e in and_from (nat_eq m n) (v || w) (eq-eqb m n (sym s.number)) (or_back w v s.writes))

meet_back : (u z : Value) → meet u z ≡ true → meet z u ≡ true
meet_back Any Any e = refl
meet_back Any (Arg k) e = refl
meet_back Any (Const c) e = refl
meet_back (Arg k) Any e = refl
meet_back (Arg k) (Arg l) e = cc
meet_back (Arg k) (Const d) e = cc
meet_back (Const c) Any e = refl
meet_back (Const c) (Arg l) e = cc
meet_back (Const c) (Const d) e = eq-eqb d c (sym (eqb-true c d e))

only : (b : Bool) (x : Conflict) → b ≡ true → only_if b x ≡ Some x
only true x e = refl
only false x e = cc

seizing_back : (f g : ℕ) (c : Conflict) → only_if (nat_eq f g) (conflict.Seizing f) ≡ Some c
    → (d : Conflict) × (only_if (nat_eq g f) (conflict.Seizing g) ≡ Some d)
seizing_back f g c e =
    let same = eqb-true f g (chosen (nat_eq f g) (conflict.Seizing f) c e).0 in
    (conflict.Seizing g, only (nat_eq g f) (conflict.Seizing g) (eq-eqb g f (sym same)))

clash_back : (a b : Access) (c : Conflict) → clash_of a b ≡ Some c → (d : Conflict) × (clash_of b a ≡ Some d)
clash_back (Variable w n) (Variable v m) c e =
    (conflict.Variable m, only (share m n v w) (conflict.Variable m) (share_back n m w v (chosen (share n m w v) (conflict.Variable n) c e).0))
clash_back (Field w n u) (Field v m z) c e =
    let h = and_parts (share n m w v) (meet u z) (chosen (share n m w v && meet u z) (conflict.Field n u z) c e).0 in (
      conflict.Field m z u,
      only (share m n v w && meet z u) (conflict.Field m z u)
          (and_from (share m n v w) (meet z u) (share_back n m w v h.0) (meet_back u z h.1)),
    )
clash_back (Seizes f) (Seizes g) c e = seizing_back f g c e
clash_back (Seizes f) (Frees g) c e = seizing_back f g c e
clash_back (Frees f) (Seizes g) c e = seizing_back f g c e
clash_back _ _ c e = absurd (none-some c e)

-- no row is found by such an access

idle_near : (others : List Access) (one : Access) (selector : Value) (place : ℕ) (r : ClashRow) → IsIdle others one
    → NearLater others selector place one r → ⊥
idle_near others one selector place r idle n =
    let other = near_access one n.write selector in
    let s = some_of (clash_of one other) r.clash n.clashes.clash in
    idle.apart s.0 (record { other = other; there = contained others r.later other n.clashes.there; clash = s.1 })

idle_first : (others : List Access) (one : Access) (place : ℕ) (r : ClashRow) → IsIdle others one → IsOfFirst others place one r → ⊥
idle_first others one place r idle h =
    ⊎_elim (λ n. idle_near others one Any place r idle n) (λ n. idle_near others one (selector_of one) place r idle n) h

idle_later : (ones : List Access) (other : Access) (place : ℕ) (r : ClashRow) → IsIdle ones other → IsOfLater ones place other r → ⊥
idle_later ones other place r idle h =
    let n = h.near in
    let one = near_access other n.write Any in
    let s = some_of (clash_of one other) r.clash n.clashes.clash in
    let b = clash_back one other s.0 s.1 in
    idle.apart b.0 (record { other = one; there = contained ones r.first one n.clashes.there; clash = b.1 })

-- accesses of variables ask for nothing

none_less : (o p : Ordering) → is_lt o ≡ false → is_lt p ≡ false → ordering_then o p ≡ Less → ⊥
none_less Less p first second e = both_ways true first refl
none_less Equal p first second e = both_ways (is_lt p) second (ap is_lt e)
none_less Greater p first second e = cc

no_number_below : (n : ℕ) → is_lt (nat_cmp n 0) ≡ false
no_number_below n = (let low : 0 ≤ n = omega arith in grind (arith, nat_tests, low))

no_field_below : (n : ℕ) (u : Value) → ordering_then (nat_cmp n 0) (value_order u (Arg 0)) ≡ Less → ⊥
no_field_below n u e = none_less (nat_cmp n 0) (value_order u (Arg 0)) (no_number_below n) (not_below_arg u) e

none_asked : (a : Access) → access_order a (Field false 0 (Arg 0)) ≡ Less → asks a ≡ false
none_asked (Variable w n) e = refl
none_asked (Field true n u) e = cc
none_asked (Field false n u) e = absurd (no_field_below n u e)
none_asked (Own w n) e = refl
none_asked (Seizes f) e = refl
none_asked (Frees f) e = refl

pub before_fields : (accesses : List Access) (goal : Access) (to : ℕ) → goal ≡ Field false 0 (Arg 0)
    → AreSo (λ a. access_order a goal ≡ Less) accesses 0 to → AreSo (λ a. asks a ≡ false) accesses 0 to
before_fields accesses goal to is so =
    so_less (λ a. access_order a goal ≡ Less) (λ a. asks a ≡ false) accesses 0 to
    (λ k d low lt less. none_asked (get_or accesses k d) (subst (λ b. access_order (get_or accesses k d) b ≡ Less) is less))
    so

pub variables_passed : (ones others : List Access) (n : ℕ) (old now : List ClashRow) → AreSo (λ a. asks a ≡ false) others 0 n
    → Adds old now (GivenBelow (IsOfLater ones) others 0) → Adds old now (GivenBelow (IsOfLater ones) others n)
variables_passed ones others n old now so =
    items_passed (IsOfLater ones) others 0 n old now so.up
    (λ k other r low high at h.
    true≢false (sym h.field ∙ ap asks (sym (get_or_from_slice_get others k other other at)) ∙ so.each k other low high))

-- such accesses are passed

here : (others ones : List Access) (n m k : ℕ) (one : Access) → AreSo (IsIdle others) ones n m → n ≤ k → k < m
    → slice_get ones k ≡ Some one → IsIdle others one
here others ones n m k one so low high at = subst (IsIdle others) (get_or_from_slice_get ones k one one at) (so.each k one low high)

pub first_passed : (others ones : List Access) (n m : ℕ) (old now : List ClashRow) → AreSo (IsIdle others) ones n m
    → Adds old now (GivenBelow (IsOfFirst others) ones n) → Adds old now (GivenBelow (IsOfFirst others) ones m)
first_passed others ones n m old now so =
    items_passed (IsOfFirst others) ones n m old now so.up
    (λ k one r low high at. idle_first others one k r (here others ones n m k one so low high at))

pub later_passed : (ones others : List Access) (n m : ℕ) (old now : List ClashRow) → AreSo (IsIdle ones) others n m
    → Adds old now (GivenBelow (IsOfLater ones) others n) → Adds old now (GivenBelow (IsOfLater ones) others m)
later_passed ones others n m old now so =
    items_passed (IsOfLater ones) others n m old now so.up
    (λ k other r low high at. idle_later ones other k r (here ones others n m k other so low high at))
