-- Accesses of one kind stand side by side, by their numbers, so that those which nothing is near
-- are passed at once.
use Rattle.std.proofs.Common.{◌≡◌, ◌⊎◌, inl, inr, ⊎_elim, ℕ, ◌+◌, ◌<◌, ◌≤◌, Bool, true, false, ◌&&◌}
use Rattle.std.proofs.Common.{List, length, take, get_or, Option, Some, None, refl, sym, ap, ◌∙◌}
use Rattle.std.proofs.Common.{subst, arith}
use Rattle.std.specs.declared.cmp.Ordering.{Ordering}
use Rattle.std.specs.declared.cmp.Ordering.TheVariants.{Less, Equal, Greater}
use Rattle.std.specs.Ordering.{nat_cmp, ordering_then, is_lt}
use Rattle.std.specs.Prelude.{◌↔◌, IsTrue, slice_get}
use Rattle.std.specs.List.{Contains}
use Rattle.std.specs.List.Sorted.{IsStrictlySortedBy}
use Rattle.std.proofs.lemmas.Bool.{cases_lt, both_ways, ltb-true}
use Rattle.std.proofs.lemmas.Bool.Decides.{nat_tests}
use Rattle.std.proofs.lemmas.List.{get_or-take, length-take, take_all}
use Rattle.std.proofs.lemmas.Map.Keys.{Less-from_sorted}
use Rattle.std.proofs.lemmas.Option.{get_or_from_slice_get, none-some, slice_get-get_or}
use Rattle.std.proofs.lemmas.Option.{slice_get_within}
use Rattle.plex_num.proofs.Numbers.{is_less, nat_same}
use Rattle.flow_points.specs.declared.fact.Value.{Value}
use Rattle.flow_points.specs.declared.fact.Value.TheVariants.{Arg}
use Rattle.entry_summary.specs.declared.summary.Access.{Access}
use Rattle.entry_summary.specs.declared.summary.Access.TheVariants.{Variable, Field, Own, Seizes}
use Rattle.entry_summary.specs.declared.summary.Access.TheVariants.{Frees}
use Rattle.entry_summary.specs.Orders.{access_order, value_order}
use Rattle.pair_tests.specs.declared.near.Bound.TheVariants.{Below}
use Rattle.pair_tests.specs.declared.pair.Conflict.{Conflict}
use Rattle.pair_tests.specs.declared.pair.Conflict.TheVariants as conflict
use Rattle.pair_tests.specs.declared.pair.Test.{Test}
use Rattle.job_types.specs.declared.job.JobStart.{JobStart}
use Rattle.pair_tests.specs.Asked.{asked_of, AddsTests, AllHold, Asked, AskedWith}
use Rattle.pair_tests.specs.Clashes.{share, meet, clash_of, Clashes, ClashesWith, IsLeastConflict}
use Rattle.pair_tests.specs.Clashes.{IsSooner}
use Rattle.pair_tests.specs.Idle.{behind, next_met, comes_late, variables, fields, owns, AreSo}
use Rattle.pair_tests.specs.Idle.{Follows, IsApart, IsIdle, IsLate, IsPassed}
use Rattle.pair_tests.specs.Nearby.{lowest, passes_reads, AreCounted}
use Rattle.pair_tests.specs.Orders.{Precedes}
use Rattle.pair_tests.proofs.Conflicting.{chosen}
use Rattle.pair_tests.proofs.Holding.{all_fails, all_more as all_hold_more}
use Rattle.pair_tests.proofs.Leasts.{of_more}
use Rattle.pair_tests.proofs.Nearing.{accesses_total, itself, clash_near, clash_writes, asked_near}
use Rattle.pair_tests.proofs.Nearing.{asked_writes, not_below_arg}
use Rattle.pair_tests.proofs.Tested.{all_more}

-- numbers and selectors in order

then_less : (o p : Ordering) → ordering_then o p ≡ Less → (o ≡ Less) ⊎ ((o ≡ Equal) × (p ≡ Less))
then_less Less p e = inl refl
then_less Equal p e = inr (refl, e)
then_less Greater p e = cc

less_is : (n m : ℕ) → nat_cmp n m ≡ Less → n < m
less_is n m e = grind (arith, nat_tests, e)

no_less_zero : (n : ℕ) → nat_cmp n 0 ≡ Less → ⊥
no_less_zero n e = (let lt = less_is n 0 e in omega (arith, lt))

no_less_arg : (z : Value) → value_order z (Arg 0) ≡ Less → ⊥
no_less_arg z e = both_ways (is_lt (value_order z (Arg 0))) (not_below_arg z) (ap is_lt e)

-- a number and a selector before those: the number is not above
up_to : (n m : ℕ) (u z : Value) → ordering_then (nat_cmp n m) (value_order u z) ≡ Less → n ≤ m
up_to n m u z e = ⊎_elim (λ l. (let lt = less_is n m l in omega (arith, lt)))
    (λ s. (let is = nat_same n m s.0 in omega (arith, is))) (then_less (nat_cmp n m) (value_order u z) e)

-- before the first selector of a number: the number is below
below : (n m : ℕ) (u : Value) → ordering_then (nat_cmp n m) (value_order u (Arg 0)) ≡ Less → n < m
below n m u e = ⊎_elim (less_is n m) (λ s. absurd (no_less_arg u s.1)) (then_less (nat_cmp n m) (value_order u (Arg 0)) e)

no_number_below : (n : ℕ) (u : Value) → ordering_then (nat_cmp n 0) (value_order u (Arg 0)) ≡ Less → ⊥
no_number_below n u e = (let lt = below n 0 u e in omega (arith, lt))

no_own_below : (w : Bool) (n : ℕ) → access_order (Own w n) (Own false 0) ≡ Less → ⊥
no_own_below false n e = no_less_zero n e
no_own_below true n e = cc

no_file_below : (f : ℕ) → access_order (Seizes f) (Seizes 0) ≡ Less → ⊥
no_file_below f e = no_less_zero f e

-- what stands behind an access, and before all behind its kind

abbrev From : Access → Access → Type 0
From one r = (access_order one r ≡ Less) ⊎ (one ≡ r)

follows_itself : (one : Access) → access_order one (behind one) ≡ Less → Follows one one
follows_itself (Variable w n) e = variables w n n (omega arith)
follows_itself (Field w n u) e = fields w n n u u (omega arith)
follows_itself (Own w n) e = owns w w n n
follows_itself (Seizes f) e = absurd (let t = itself (Seizes f) in let c : Equal ≡ Less = sym t ∙ e in cc)
follows_itself (Frees f) e = absurd (let t = itself (Frees f) in let c : Equal ≡ Less = sym t ∙ e in cc)

never : (one r : Access) → access_order one r ≡ Less → access_order r one ≡ Less → ⊥
never one r up down = (let t = itself one in let e = accesses_total.trans one r one up down in let c : Equal ≡ Less = sym t ∙ e in cc)

follows_later : (one r : Access) → access_order one r ≡ Less → access_order r (behind one) ≡ Less → Follows one r
follows_later (Variable false n) (Variable false m) up e = variables false n m (let lt = less_is n m up in omega (arith, lt))
follows_later (Variable false n) (Variable true m) up e = absurd (no_less_zero m e)
follows_later (Variable false n) (Field w m z) up e = cc
follows_later (Variable false n) (Own w m) up e = cc
follows_later (Variable false n) (Seizes f) up e = cc
follows_later (Variable false n) (Frees f) up e = cc
follows_later (Variable true n) (Variable false m) up e = cc
follows_later (Variable true n) (Variable true m) up e = variables true n m (let lt = less_is n m up in omega (arith, lt))
follows_later (Variable true n) (Field false m z) up e = absurd (no_number_below m z e)
follows_later (Variable true n) (Field true m z) up e = cc
follows_later (Variable true n) (Own w m) up e = cc
follows_later (Variable true n) (Seizes f) up e = cc
follows_later (Variable true n) (Frees f) up e = cc
follows_later (Field false n u) (Variable w m) up e = cc
follows_later (Field false n u) (Field false m z) up e = fields false n m u z (up_to n m u z up)
follows_later (Field false n u) (Field true m z) up e = absurd (no_number_below m z e)
follows_later (Field false n u) (Own w m) up e = cc
follows_later (Field false n u) (Seizes f) up e = cc
follows_later (Field false n u) (Frees f) up e = cc
follows_later (Field true n u) (Variable w m) up e = cc
follows_later (Field true n u) (Field false m z) up e = cc
follows_later (Field true n u) (Field true m z) up e = fields true n m u z (up_to n m u z up)
follows_later (Field true n u) (Own w m) up e = absurd (no_own_below w m e)
follows_later (Field true n u) (Seizes f) up e = cc
follows_later (Field true n u) (Frees f) up e = cc
follows_later (Own w n) (Variable v m) up e = cc
follows_later (Own w n) (Field v m z) up e = cc
follows_later (Own w n) (Own v m) up e = owns w v n m
follows_later (Own w n) (Seizes f) up e = absurd (no_file_below f e)
follows_later (Own w n) (Frees f) up e = cc
follows_later (Seizes f) r up e = absurd (never (Seizes f) r up e)
follows_later (Frees f) r up e = absurd (never (Frees f) r up e)

follows : (one r : Access) → From one r → access_order r (behind one) ≡ Less → Follows one r
follows one r (inl up) e = follows_later one r up e
follows one r (inr same) e = subst (Follows one) same (follows_itself one (subst (λ x. access_order x (behind one) ≡ Less) (sym same) e))

-- those behind one in a list in order

from_place : (xs : List Access) (one : Access) (i k : ℕ) (d : Access) → IsStrictlySortedBy access_order xs
    → slice_get xs i ≡ Some one → i ≤ k → k < length xs → From one (get_or xs k d)
from_place xs one i k d up at low lt =
    ⊎_elim
    (λ before. inl (subst (λ x. access_order x (get_or xs k d) ≡ Less) (get_or_from_slice_get xs i one d at)
    (Less-from_sorted access_order xs i k d up before lt)))
    (λ past. (let e : i ≡ k = omega (arith, low, past) in inr (sym (get_or_from_slice_get xs i one d at) ∙ ap (λ j. get_or xs j d) e)))
    (cases_lt i k)

-- some are passed

pub none_passed : (P : Access → Type 0) (xs : List Access) (place : ℕ) → place ≤ length xs → AreSo P xs place place
none_passed P xs place there = record { there = there; up = omega arith; each = λ k d low high. absurd (omega (arith, low, high)) }

pub none_late : (xs : List Access) (first : Option Conflict) (place : ℕ) → place ≤ length xs → (others : List Access)
    → AreSo (IsLate first others) xs place place
none_late xs first place there others = none_passed (IsLate first others) xs place there

pub passed_below : (xs : List Access) (bound : Access) (place count : ℕ) → place < count
    → AreCounted (Below bound) xs count → AreSo (λ a. access_order a bound ≡ Less) xs place count
passed_below xs bound place count lt counted = record {
  there = counted.there;
  up = omega (arith, lt);
  each = λ k d low high. is_less (access_order (get_or xs k d) bound) (counted.parts.0 k d (omega arith) high);
}

pub so_less : (P Q : Access → Type 0) (xs : List Access) (from to : ℕ)
    → ((k : ℕ) (d : Access) → from ≤ k → k < length xs → P (get_or xs k d) → Q (get_or xs k d)) → AreSo P xs from to
    → AreSo Q xs from to
so_less P Q xs from to less so = record {
  there = so.there;
  up = so.up;
  each = λ k d low high. (let most = so.there in less k d low (omega (arith, high, most)) (so.each k d low high));
}

pub so_then : (P : Access → Type 0) (xs : List Access) (from mid to : ℕ) → AreSo P xs from mid → AreSo P xs mid to → AreSo P xs from to
so_then P xs from mid to one two = record {
  there = two.there;
  up = (let a = one.up in let b = two.up in omega (arith, a, b));
  each = λ k d low high. ⊎_elim (λ lt. one.each k d low lt) (λ past. two.each k d past high) (cases_lt k mid);
}

-- what is near an access, in a list in order, is no sooner there than the first that is not below
-- those

record FirstFrom (xs : List Access) (low : Access) (from : ℕ) (b : Access) : Type 0 where
  first : Access
  at : slice_get xs from ≡ Some first
  above : is_lt (access_order first low) ≡ false
  upward : From first b

first_from : (xs : List Access) (low : Access) (from : ℕ) (b : Access) → IsStrictlySortedBy access_order xs
    → AreCounted (Below low) xs from → Contains xs b → is_lt (access_order b low) ≡ false → FirstFrom xs low from b
first_from xs low from b up counted (k, lt, is) above =
    let later : from ≤ k = ⊎_elim
    (λ before. absurd (both_ways (is_lt (access_order b low)) above
    (subst (λ x. is_lt (access_order x low) ≡ true) is (counted.parts.0 k b (omega arith) before))))
    (λ past. past)
    (cases_lt k from) in
    let inside : from < length xs = omega (arith, later, lt) in
    let at = slice_get-get_or xs from b inside in
    record {
      first = get_or xs from b;
      at = at;
      above = counted.parts.1 from b (omega arith) inside;
      upward = subst (From (get_or xs from b)) is (from_place xs (get_or xs from b) from k b up at later lt);
    }

not_below_variable : (v : Bool) (n m : ℕ) → n ≤ m → is_lt (access_order (Variable v m) (Variable v n)) ≡ false
not_below_variable true n m le = grind (arith, nat_tests, le)
not_below_variable false n m le = grind (arith, nat_tests, le)

then_not_less : (o p : Ordering) → is_lt o ≡ false → is_lt p ≡ false → is_lt (ordering_then o p) ≡ false
then_not_less Less p a b = cc
then_not_less Equal p a b = b
then_not_less Greater p a b = refl

not_below_number : (n m : ℕ) → n ≤ m → is_lt (nat_cmp m n) ≡ false
not_below_number n m le = grind (arith, nat_tests, le)

not_below_field : (v : Bool) (n m : ℕ) (z : Value) → n ≤ m → is_lt (access_order (Field v m z) (Field v n (Arg 0))) ≡ false
not_below_field true n m z le = then_not_less (nat_cmp m n) (value_order z (Arg 0)) (not_below_number n m le) (not_below_arg z)
not_below_field false n m z le = then_not_less (nat_cmp m n) (value_order z (Arg 0)) (not_below_number n m le) (not_below_arg z)

-- the first of those is of a number that is not above, or of another kind

variable_number : (v : Bool) (k m : ℕ) → From (Variable v k) (Variable v m) → k ≤ m
variable_number true k m (inl e) = (let lt = less_is k m e in omega (arith, lt))
variable_number false k m (inl e) = (let lt = less_is k m e in omega (arith, lt))
variable_number v k m (inr e) = (let is : k ≡ m = cc in omega (arith, is))

variable_met : (w v : Bool) (n m : ℕ) (x : Access) → From x (Variable v m)
    → is_lt (access_order x (Variable v n)) ≡ false
    → access_order (Variable w m) (next_met (Variable w n) v (Some x)) ≡ Less → ⊥
variable_met true true n m (Variable true k) from above e = (let le = variable_number true k m from in let lt = less_is m k e in omega (arith, le, lt))
variable_met false true n m (Variable true k) from above e = (let le = variable_number true k m from in let lt = less_is m k e in omega (arith, le, lt))
variable_met true false n m (Variable false k) from above e = (let le = variable_number false k m from in let lt = less_is m k e in omega (arith, le, lt))
variable_met false false n m (Variable false k) from above e = (let le = variable_number false k m from in let lt = less_is m k e in omega (arith, le, lt))
variable_met w true n m (Variable false k) from above e = cc
variable_met w false n m (Variable true k) (inl up) above e = cc
variable_met w false n m (Variable true k) (inr same) above e = cc
variable_met w true n m (Field b k z) (inl up) above e = cc
variable_met w false n m (Field b k z) (inl up) above e = cc
variable_met w v n m (Field b k z) (inr same) above e = cc
variable_met w true n m (Own b k) (inl up) above e = cc
variable_met w false n m (Own b k) (inl up) above e = cc
variable_met w v n m (Own b k) (inr same) above e = cc
variable_met w true n m (Seizes k) (inl up) above e = cc
variable_met w false n m (Seizes k) (inl up) above e = cc
variable_met w v n m (Seizes k) (inr same) above e = cc
variable_met w true n m (Frees k) (inl up) above e = cc
variable_met w false n m (Frees k) (inl up) above e = cc
variable_met w v n m (Frees k) (inr same) above e = cc

field_number : (v : Bool) (k m : ℕ) (y z : Value) → From (Field v k y) (Field v m z) → k ≤ m
field_number true k m y z (inl e) = up_to k m y z e
field_number false k m y z (inl e) = up_to k m y z e
field_number v k m y z (inr e) = (let is : k ≡ m = cc in omega (arith, is))

field_met : (w v : Bool) (n m : ℕ) (u t z : Value) (x : Access) → From x (Field v m z)
    → is_lt (access_order x (Field v n (Arg 0))) ≡ false
    → access_order (Field w m t) (next_met (Field w n u) v (Some x)) ≡ Less → ⊥
field_met true true n m u t z (Field true k y) from above e = (let le = field_number true k m y z from in let lt = below m k t e in omega (arith, le, lt))
field_met false true n m u t z (Field true k y) from above e = (let le = field_number true k m y z from in let lt = below m k t e in omega (arith, le, lt))
field_met true false n m u t z (Field false k y) from above e = (let le = field_number false k m y z from in let lt = below m k t e in omega (arith, le, lt))
field_met false false n m u t z (Field false k y) from above e = (let le = field_number false k m y z from in let lt = below m k t e in omega (arith, le, lt))
field_met w true n m u t z (Field false k y) from above e = cc
field_met w false n m u t z (Field true k y) (inl up) above e = cc
field_met w false n m u t z (Field true k y) (inr same) above e = cc
field_met w true n m u t z (Variable b k) from above e = cc
field_met w false n m u t z (Variable b k) from above e = cc
field_met w true n m u t z (Own b k) (inl up) above e = cc
field_met w false n m u t z (Own b k) (inl up) above e = cc
field_met w v n m u t z (Own b k) (inr same) above e = cc
field_met w true n m u t z (Seizes k) (inl up) above e = cc
field_met w false n m u t z (Seizes k) (inl up) above e = cc
field_met w v n m u t z (Seizes k) (inr same) above e = cc
field_met w true n m u t z (Frees k) (inl up) above e = cc
field_met w false n m u t z (Frees k) (inl up) above e = cc
field_met w v n m u t z (Frees k) (inr same) above e = cc

-- what is passed is of the kind, and none of the later is near it

goal_behind : (one : Access) (v : Bool) (o : Option Access) → (next_met one v o ≡ behind one) ⊎ (access_order (next_met one v o) (behind one) ≡ Less)
goal_behind (Variable true n) true (Some (Variable true m)) = inr refl
goal_behind (Variable false n) true (Some (Variable true m)) = inr refl
goal_behind (Variable true n) false (Some (Variable false m)) = inr refl
goal_behind (Variable false n) false (Some (Variable false m)) = inr refl
goal_behind (Field true n u) true (Some (Field true m z)) = inr refl
goal_behind (Field false n u) true (Some (Field true m z)) = inr refl
goal_behind (Field true n u) false (Some (Field false m z)) = inr refl
goal_behind (Field false n u) false (Some (Field false m z)) = inr refl
goal_behind (Own w n) v o = inr refl
goal_behind _ _ _ = inl refl

before_behind : (one : Access) (v : Bool) (o : Option Access) (r : Access) → access_order r (next_met one v o) ≡ Less → access_order r (behind one) ≡ Less
before_behind one v o r e = ⊎_elim (λ same. subst (λ x. access_order r x ≡ Less) same e)
    (λ less. accesses_total.trans r (next_met one v o) (behind one) e less) (goal_behind one v o)

not_before : (one r : Access) → From one r → access_order r one ≡ Less → ⊥
not_before one r (inl up) e = never one r up e
not_before one r (inr same) e = (let t = itself r in let f = subst (λ x. access_order r x ≡ Less) same e in let c : Equal ≡ Less = sym t ∙ f in cc)

near_apart : (v : Bool) (others : List Access) (from : ℕ) (one r : Access) → IsStrictlySortedBy access_order others
    → AreCounted (Below (lowest one v)) others from
    → Follows one r → From one r → access_order r (next_met one v (slice_get others from)) ≡ Less → IsApart v others r
near_apart v others from _ _ up counted (variables w n m le) later e b c near =
    let f = first_from others (Variable v n) from (Variable v m) up counted (subst (Contains others) near c) (not_below_variable v n m le) in
    variable_met w v n m f.first f.upward f.above (subst (λ o. access_order (Variable w m) (next_met (Variable w n) v o) ≡ Less) f.at e)
near_apart v others from _ _ up counted (fields w n m u t le) later e b c near =
    let f = first_from others (Field v n (Arg 0)) from (Field v m near.0) up counted (subst (Contains others) near.1 c) (not_below_field v n m near.0 le) in
    field_met w v n m u t near.0 f.first f.upward f.above (subst (λ o. access_order (Field w m t) (next_met (Field w n u) v o) ≡ Less) f.at e)
near_apart v others from _ _ up counted (owns w t n m) later e b c near = not_before (Own w n) (Own t m) later e

-- from the place of an access on, as far as a bound is not passed

follow_on : (ones : List Access) (one : Access) (place k : ℕ) (d : Access) → IsStrictlySortedBy access_order ones
    → slice_get ones place ≡ Some one → place ≤ k → k < length ones
    → access_order (get_or ones k d) (behind one) ≡ Less → Follows one (get_or ones k d)
follow_on ones one place k d up at low lt e = follows one (get_or ones k d) (from_place ones one place k d up at low lt) e

pub apart_passed : (ones others : List Access) (one low goal : Access) (v : Bool) (o : Option Access) (place from to : ℕ)
    → IsStrictlySortedBy access_order ones → IsStrictlySortedBy access_order others → slice_get ones place ≡ Some one
    → low ≡ lowest one v → AreCounted (Below low) others from → o ≡ slice_get others from → goal ≡ next_met one v o
    → AreSo (λ a. access_order a goal ≡ Less) ones place to → AreSo (IsPassed one v others) ones place to
apart_passed ones others one low goal v o place from to up sorted at is counted next met so =
    so_less (λ a. access_order a goal ≡ Less) (IsPassed one v others) ones place to
    (λ k d above lt less.
    let e : access_order (get_or ones k d) (next_met one v (slice_get others from))
    ≡ Less = subst (λ x. access_order (get_or ones k d) x ≡ Less) (met ∙ ap (next_met one v) next) less in
    let kind = follow_on ones one place k d up at above lt (before_behind one v (slice_get others from) (get_or ones k d) e) in
    record {
      follows = kind;
      apart = near_apart v others from one (get_or ones k d) sorted
          (subst (λ x. AreCounted (Below x) others from) is counted) kind (from_place ones one place k d up at above lt)
          e;
    })
    so

-- what nothing is near is idle

idle_apart : (others : List Access) (r : Access) → IsApart false others r → IsApart true others r → IsIdle others r
idle_apart others r reads writes = record {
  apart = λ c h. ⊎_elim (reads h.other h.there) (writes h.other h.there) (clash_near r h.other c h.clash);
  silent = λ t h. ⊎_elim (reads h.other h.there) (writes h.other h.there) (asked_near r h.other t h.asks);
}

idle_reads : (others : List Access) (r : Access) → passes_reads r ≡ true → IsApart true others r → IsIdle others r
idle_reads others r reads writes = record {
  apart = λ c h. writes h.other h.there (clash_writes r h.other c reads h.clash);
  silent = λ t h. writes h.other h.there (asked_writes r h.other t reads h.asks);
}

no_own_clash : (w : Bool) (n : ℕ) (b : Access) (c : Conflict) → clash_of (Own w n) b ≡ Some c → ⊥
no_own_clash w n _ c e = none-some c e

no_own_test : (w : Bool) (n : ℕ) (b : Access) (t : Test) → asked_of (Own w n) b ≡ Some t → ⊥
no_own_test w n _ t e = none-some t e

idle_own : (others : List Access) (w : Bool) (n : ℕ) → IsIdle others (Own w n)
idle_own others w n = record {
  apart = λ c h. no_own_clash w n h.other c h.clash;
  silent = λ t h. no_own_test w n h.other t h.asks;
}

reads_alike : (one r : Access) → Follows one r → passes_reads one ≡ true → passes_reads r ≡ true
reads_alike _ _ (variables w n m le) reads = reads
reads_alike _ _ (fields w n m u z le) reads = reads
reads_alike _ _ (owns w v n m) reads = refl

own_alike : (one r : Access) (w : Bool) (n : ℕ) → one ≡ Own w n → Follows one r → (v : Bool) × (m : ℕ) × (r ≡ Own v m)
own_alike _ _ w n is (variables v k m le) = cc
own_alike _ _ w n is (fields v k m u z le) = cc
own_alike _ _ w n is (owns t v k m) = (v, m, refl)

pub own_idle : (ones others : List Access) (one goal : Access) (w : Bool) (n place to : ℕ)
    → IsStrictlySortedBy access_order ones → slice_get ones place ≡ Some one → one ≡ Own w n → goal ≡ behind one
    → AreSo (λ a. access_order a goal ≡ Less) ones place to → AreSo (IsIdle others) ones place to
own_idle ones others one goal w n place to up at is met so =
    so_less (λ a. access_order a goal ≡ Less) (IsIdle others) ones place to
    (λ k d above lt less.
    let r = own_alike one (get_or ones k d) w n is
    (follow_on ones one place k d up at above lt (subst (λ x. access_order (get_or ones k d) x ≡ Less) met less)) in
    subst (IsIdle others) (sym r.2) (idle_own others r.0 r.1))
    so

pub reads_idle : (ones others : List Access) (one : Access) (place to : ℕ) → passes_reads one ≡ true
    → AreSo (IsPassed one true others) ones place to → AreSo (IsIdle others) ones place to
reads_idle ones others one place to reads so =
    so_less (IsPassed one true others) (IsIdle others) ones place to
    (λ k d above lt p. idle_reads others (get_or ones k d) (reads_alike one (get_or ones k d) p.follows reads) p.apart)
    so

pub both_idle : (ones others : List Access) (one : Access) (place reads writes to : ℕ) → place ≤ to → to ≤ reads → to ≤ writes
    → AreSo (IsPassed one false others) ones place reads → AreSo (IsPassed one true others) ones place writes → AreSo (IsIdle others) ones place to
both_idle ones others one place reads writes to low r w apart also = record {
  there = (let most = apart.there in omega (arith, r, most));
  up = low;
  each = λ k d above under. idle_apart others (get_or ones k d) (apart.each k d above (omega (arith, r, under))).apart
      (also.each k d above (omega (arith, w, under))).apart;
}

-- what comes late

variable_clash : (w : Bool) (n : ℕ) (b : Access) (c : Conflict) → clash_of (Variable w n) b ≡ Some c → conflict.Variable n ≡ c
variable_clash w n (Variable v m) c e = (chosen (share n m w v) (conflict.Variable n) c e).1
variable_clash w n _ c e = absurd (none-some c e)

field_clash : (w : Bool) (n : ℕ) (u : Value) (b : Access) (c : Conflict) → clash_of (Field w n u) b ≡ Some c → (z : Value) × (conflict.Field n u z ≡ c)
field_clash w n u (Field v m z) c e = (z, (chosen (share n m w v && meet u z) (conflict.Field n u z) c e).1)
field_clash w n u _ c e = absurd (none-some c e)

not_sooner_field : (n k : ℕ) (u z v y : Value) → k < n → Precedes (conflict.Field n u z) (conflict.Field k v y) → ⊥
not_sooner_field n k u z v y lt (inl below) = omega (arith, lt, below)
not_sooner_field n k u z v y lt (inr same) = (let is = same.0 in omega (arith, lt, is))

late : (one r : Access) (first : Option Conflict) (others : List Access) → comes_late one first ≡ true → Follows one r → IsLate first others r
late _ _ (Some (conflict.Variable k)) others is (variables w n m le) c h =
    subst (λ d. Precedes d (conflict.Variable k) → ⊥) (variable_clash w m h.other c h.clash)
    (λ before. let lt = ltb-true k n is in omega (arith, lt, le, before))
late _ _ (Some (conflict.Variable k)) others is (fields w n m u z le) c h =
    let f = field_clash w m z h.other c h.clash in
    subst (λ d. Precedes d (conflict.Variable k) → ⊥) f.1 (λ before. before)
late _ _ (Some (conflict.Field k v y)) others is (fields w n m u z le) c h =
    let f = field_clash w m z h.other c h.clash in
    subst (λ d. Precedes d (conflict.Field k v y) → ⊥) f.1 (not_sooner_field m k z f.0 v y (let lt = ltb-true k n is in omega (arith, lt, le)))
late _ _ _ others is (variables w n m le) c h = cc
late _ _ _ others is (fields w n m u z le) c h = cc
late _ _ _ others is (owns w v n m) c h = cc

pub late_passed : (ones : List Access) (one goal : Access) (first : Option Conflict) (place to : ℕ)
    → IsStrictlySortedBy access_order ones → slice_get ones place ≡ Some one → comes_late one first ≡ true → goal ≡ behind one
    → AreSo (λ a. access_order a goal ≡ Less) ones place to → (others : List Access) → AreSo (IsLate first others) ones place to
late_passed ones one goal first place to up at is met so others =
    so_less (λ a. access_order a goal ≡ Less) (IsLate first others) ones place to
    (λ k d above lt less.
    late one (get_or ones k d) first others is (follow_on ones one place k d up at above lt (subst (λ x. access_order (get_or ones k d) x ≡ Less) met less)))
    so

idle_late : (first : Option Conflict) (others : List Access) (r : Access) → IsIdle others r → IsLate first others r
idle_late None others r idle = idle.apart
idle_late (Some b) others r idle = λ c h. absurd (idle.apart c h)

pub sooner_passed : (ones others : List Access) (first : Option Conflict) (place mid to : ℕ)
    → AreSo (IsLate first others) ones place mid → AreSo (IsIdle others) ones mid to
    → AreSo (IsLate first others) ones place to
sooner_passed ones others first place mid to early idle =
    so_then (IsLate first others) ones place mid to early
    (so_less (IsIdle others) (IsLate first others) ones mid to (λ k d low lt. idle_late first others (get_or ones k d)) idle)

-- a list without what was passed

record TakenAt (xs : List Access) (j : ℕ) (x : Access) : Type 0 where
  place : ℕ
  before : place < j
  inside : place < length xs
  is : get_or xs place x ≡ x

taken_at : (xs : List Access) (j : ℕ) (x : Access) → Contains (take j xs) x → TakenAt xs j x
taken_at xs j x (k, lt, is) =
    let most = length-take j xs in
    let below : k < j = omega arith in
    record { place = k; before = below; inside = omega arith; is = sym (get_or-take j xs k x below) ∙ is }

taken_back : (xs : List Access) (j k : ℕ) (x : Access) → k < j → k < length xs → get_or xs k x ≡ x → Contains (take j xs) x
taken_back xs j k x below inside is = (let most = length-take j xs in (k, omega arith, get_or-take j xs k x below ∙ is))

taken_more : (xs : List Access) (i j : ℕ) (x : Access) → i ≤ j → Contains (take i xs) x → Contains (take j xs) x
taken_more xs i j x le c = (let t = taken_at xs i x c in let lt = t.before in taken_back xs j t.place x (omega (arith, le, lt)) t.inside t.is)

taken_or : (P : Access → Type 0) (xs : List Access) (i j : ℕ) (x : Access) → AreSo P xs i j → Contains (take j xs) x → Contains (take i xs) x ⊎ P x
taken_or P xs i j x so c =
    let t = taken_at xs j x c in
    ⊎_elim (λ lt. inl (taken_back xs i t.place x lt t.inside t.is)) (λ past. inr (subst P t.is (so.each t.place x past t.before))) (cases_lt t.place i)

pub least_passed : (ones others : List Access) (least : Option Conflict) (i j : ℕ) → AreSo (IsLate least others) ones i j
    → IsLeastConflict (Clashes (take i ones) others) least → IsLeastConflict (Clashes (take j ones) others) least
unfolding IsLeastConflict
least_passed ones others None i j so none = λ c h.
    ⊎_elim (λ at. none c (record { one = h.one; there = at; clash = h.clash })) (λ late. late c h.clash)
    (taken_or (IsLate None others) ones i j h.one so h.there)
least_passed ones others (Some b) i j so least = (
  record { one = least.0.one; there = taken_more ones i j least.0.one so.up least.0.there; clash = least.0.clash },
  λ c h. ⊎_elim (λ at. least.1 c (record { one = h.one; there = at; clash = h.clash })) (λ late. late c h.clash)
      (taken_or (IsLate (Some b) others) ones i j h.one so h.there),
)

pub tests_passed : (ones others : List Access) (i j : ℕ) (old now : List Test) → AreSo (IsIdle others) ones i j
    → AddsTests (Asked (take i ones) others) old now → AddsTests (Asked (take j ones) others) old now
tests_passed ones others i j old now so adds = record {
  kept = adds.kept;
  added = λ t h. ⊎_elim (λ at. adds.added t (record { one = h.one; there = at; asks = h.asks }))
      (λ idle. absurd (idle.silent t h.asks)) (taken_or (IsIdle others) ones i j h.one so h.there);
  each = λ t c. ⊎_elim inl (λ h. inr (record { one = h.one; there = taken_more ones i j h.one so.up h.there; asks = h.asks })) (adds.each t c);
}

pub hold_passed : (a b : JobStart) (ones others : List Access) (i j : ℕ) → AreSo (IsIdle others) ones i j
    → AllHold (Asked (take i ones) others) a b → AllHold (Asked (take j ones) others) a b
hold_passed a b ones others i j so all = record {
  each = λ t h. ⊎_elim (λ at. all.each t (record { one = h.one; there = at; asks = h.asks }))
      (λ idle. absurd (idle.silent t h.asks)) (taken_or (IsIdle others) ones i j h.one so h.there);
}

-- the next one, and those that are passed behind it

pub least_more : (ones others : List Access) (place next : ℕ) (one : Access) (least found result : Option Conflict) → slice_get ones place ≡ Some one
    → IsLeastConflict (Clashes (take place ones) others) least → IsLeastConflict (ClashesWith one others) found → IsSooner least found result
    → AreSo (IsLate result others) ones (place + 1) next → IsLeastConflict (Clashes (take next ones) others) result
least_more ones others place next one least found result at before here is so =
    least_passed ones others result (place + 1) next so
    (of_more ones others place one least found result (slice_get_within ones place one at) before
    (subst (λ x. IsLeastConflict (ClashesWith x others) found) (sym (get_or_from_slice_get ones place one one at)) here) is)

pub least_end : (ones others : List Access) (place : ℕ) (least : Option Conflict) → length ones ≤ place
    → IsLeastConflict (Clashes (take place ones) others) least → IsLeastConflict (Clashes ones others) least
least_end ones others place least past h = subst (λ l. IsLeastConflict (Clashes l others) least) (take_all place ones past) h

pub tests_more : (ones others : List Access) (place next : ℕ) (one : Access) (old now new : List Test) → slice_get ones place ≡ Some one
    → AddsTests (Asked (take place ones) others) old now → AddsTests (AskedWith one others) now new
    → AreSo (IsIdle others) ones (place + 1) next → AddsTests (Asked (take next ones) others) old new
tests_more ones others place next one old now new at before here so =
    tests_passed ones others (place + 1) next old new so
    (all_more ones others place one old now new (slice_get_within ones place one at) before
    (subst (λ x. AddsTests (AskedWith x others) now new) (sym (get_or_from_slice_get ones place one one at)) here))

pub hold_more : (a b : JobStart) (ones others : List Access) (place next : ℕ) (one : Access) (r : Bool) → slice_get ones place ≡ Some one
    → AllHold (Asked (take place ones) others) a b → IsTrue r ↔ AllHold (AskedWith one others) a b → r ≡ true
    → AreSo (IsIdle others) ones (place + 1) next → AllHold (Asked (take next ones) others) a b
hold_more a b ones others place next one r at before here holds so =
    hold_passed a b ones others (place + 1) next so
    (all_hold_more a b ones others place one r (slice_get_within ones place one at)
    (subst (λ x. IsTrue r ↔ AllHold (AskedWith x others) a b) (sym (get_or_from_slice_get ones place one one at)) here) holds before)

pub hold_fails : (a b : JobStart) (ones others : List Access) (place : ℕ) (one : Access) (r : Bool) → slice_get ones place ≡ Some one
    → IsTrue r ↔ AllHold (AskedWith one others) a b → r ≡ false → IsTrue false ↔ AllHold (Asked ones others) a b
hold_fails a b ones others place one r at here fails =
    all_fails a b ones others place one r (slice_get_within ones place one at)
    (subst (λ x. IsTrue r ↔ AllHold (AskedWith x others) a b) (sym (get_or_from_slice_get ones place one one at)) here) fails
