-- What is told of what is left of the first summary is told of the two without their accesses to
-- what both only add to.
use Rattle.std.proofs.Common.{◌≡◌, ◌⊎◌, inl, inr, ⊎_elim, ◌&&◌, Some, Result, Ok, Err, IfOk, sym}
use Rattle.std.proofs.Common.{◌∙◌, subst}
use Rattle.std.specs.List.{Contains}
use Rattle.std.proofs.lemmas.Bool.{and_parts}
use Rattle.std.proofs.lemmas.Option.{none-some, slice_get_within}
use Rattle.entry_summary.specs.declared.summary.Access.{Access}
use Rattle.entry_summary.specs.declared.summary.Access.TheVariants.{Variable, Field, Seizes, Frees}
use Rattle.entry_summary.specs.declared.summary.Summary.{Summary}
use Rattle.pair_tests.specs.declared.pair.Conflict.{Conflict}
use Rattle.pair_tests.specs.declared.pair.Conflict.TheVariants as conflict
use Rattle.pair_tests.specs.declared.pair.Test.{Test}
use Rattle.pair_tests.specs.Asked.{Asked, AskedRelease, AskedSeizing, AskedWith, asked_of}
use Rattle.pair_tests.specs.Asked.{release_test, selector_test}
use Rattle.pair_tests.specs.Clashes.{Clashes, ClashesAbove, ClashesWith, above_of, clash_of, meet}
use Rattle.pair_tests.specs.Clashes.{share}
use Rattle.pair_tests.specs.Idle.{IsIdle}
use Rattle.pair_tests.specs.Pairs.{IsConflict, IsTest}
use Rattle.pair_tests.proofs.Conflicting.{chosen, conflict_cases, of_accesses, of_level, shared}
use Rattle.pair_tests.proofs.Nearing.{asks}
use Rattle.pair_tests.proofs.Tested.{of_asked, of_release, test_cases}
use Rattle.conflict_rows.proofs.Alone.{stands_at}
use Rattle.conflict_rows.proofs.Finding.{contained}
use Rattle.additions_meaning.specs.Additions.{Targets}
use Rattle.additions_meaning.specs.Sparing.{IsSpared, IsSparing}
use Rattle.addition_pairs.specs.declared.told.Told.{Told}
use Rattle.addition_pairs.specs.declared.told.Told.TheVariants.{Asks, Never}
use Rattle.addition_pairs.specs.Adding.{IsTold, TellsSparing}
use Rattle.addition_pairs.specs.Left.{IsLeft}
use Rattle.addition_pairs.proofs.Sparing.{spared, spares}

-- what an access to one of these meets is to one of these too

spared_too : (d : Targets) (a b : Access) (c : Conflict) → clash_of a b ≡ Some c → IsSpared d b → IsSpared d a
spared_too d (Variable w n) (Variable v m) c e s =
    subst (Contains d.variables) (sym (shared n m w v (chosen (share n m w v) (conflict.Variable n) c e).0).number) s
spared_too d (Field w n u) (Field v m z) c e s =
    let h = and_parts (share n m w v) (meet u z) (chosen (share n m w v && meet u z) (conflict.Field n u z) c e).0 in
    subst (Contains d.fields) (sym (shared n m w v h.0).number) s
spared_too d (Seizes f) (Seizes g) c e s = s
spared_too d (Seizes f) (Frees g) c e s = s
spared_too d (Frees f) (Seizes g) c e s = s
spared_too d _ _ c e s = absurd (none-some c e)

asked_too : (d : Targets) (a b : Access) (t : Test) → asked_of a b ≡ Some t → IsSpared d b → IsSpared d a
asked_too d (Field w n u) (Field v m z) t e s =
    let h = asks (share n m w v) (selector_test u z) t e in
    subst (Contains d.fields) (sym (shared n m w v h.0).number) s
asked_too d _ _ t e s = absurd (none-some t e)

released_never : (d : Targets) (b : Access) (t : Test) → release_test b ≡ Some t → IsSpared d b → ⊥
released_never d (Seizes f) t e s = s
released_never d _ t e s = absurd (none-some t e)

module _ (d : Targets) (first later left one other : Summary) (h : IsLeft d later.accesses first left)
    (of_first : IsSparing d first one) (of_later : IsSparing d later other) where
  in_one : (a : Access) → Contains left.accesses a → Contains one.accesses a
  in_one a c =
      let e = h.accesses.each a c in
      (of_first.accesses a).1 (contained first.accesses e.0.place a e.0.there, e.1)

  free_left : (a : Access) → Contains left.accesses a → IsSpared d a → ⊥
  free_left a c = (h.accesses.each a c).1

  in_other : (b : Access) → Contains later.accesses b → (IsSpared d b → ⊥) → Contains other.accesses b
  in_other b c free = (of_later.accesses b).1 (c, free)

  of_other : (b : Access) → Contains other.accesses b → Contains later.accesses b
  of_other b c = ((of_later.accesses b).0 c).0

  in_left : (a : Access) → Contains one.accesses a → Contains left.accesses a ⊎ IsIdle later.accesses a
  in_left a c =
      let k = (of_first.accesses a).0 c in
      let s = stands_at first.accesses a k.0 in
      h.accesses.rest a (record { place = s.0; low = slice_get_within first.accesses s.0 a s.1; there = s.1 }) k.1

  -- the conflicts are the same

  levels_on : (c : Conflict) → ClashesAbove left.levels later.level c → ClashesAbove one.levels other.level c
  levels_on c k = record {
    level = k.level;
    there = subst (λ l. Contains l k.level) (h.levels ∙ sym of_first.levels) k.there;
    clash = subst (λ l. above_of k.level l ≡ Some c) (sym of_later.level) k.clash;
  }

  levels_back : (c : Conflict) → ClashesAbove one.levels other.level c → ClashesAbove left.levels later.level c
  levels_back c k = record {
    level = k.level;
    there = subst (λ l. Contains l k.level) (of_first.levels ∙ sym h.levels) k.there;
    clash = subst (λ l. above_of k.level l ≡ Some c) of_later.level k.clash;
  }

  clashes_on : (c : Conflict) → Clashes left.accesses later.accesses c → Clashes one.accesses other.accesses c
  clashes_on c k = record {
    one = k.one;
    there = in_one k.one k.there;
    clash = record {
      other = k.clash.other;
      there = in_other k.clash.other k.clash.there (λ s. free_left k.one k.there (spared_too d k.one k.clash.other c k.clash.clash s));
      clash = k.clash.clash;
    };
  }

  clashes_back : (c : Conflict) → Clashes one.accesses other.accesses c → Clashes left.accesses later.accesses c
  clashes_back c k =
      let there = of_other k.clash.other k.clash.there in
      let with_other : ClashesWith k.one later.accesses c = record { other = k.clash.other; there = there; clash = k.clash.clash } in
      ⊎_elim
      (λ is_left. record { one = k.one; there = is_left; clash = with_other })
      (λ idle. absurd (idle.apart c with_other))
      (in_left k.one k.there)

  conflict_on : (c : Conflict) → IsConflict left later c → IsConflict one other c
  conflict_on c k =
      ⊎_elim (λ a. of_accesses one other c (clashes_on c a)) (λ l. of_level one other c (levels_on c l)) (conflict_cases left later c k)

  conflict_back : (c : Conflict) → IsConflict one other c → IsConflict left later c
  conflict_back c k =
      ⊎_elim (λ a. of_accesses left later c (clashes_back c a)) (λ l. of_level left later c (levels_back c l)) (conflict_cases one other c k)

  -- the tests are the same

  asked_on : (t : Test) → Asked left.accesses later.accesses t → Asked one.accesses other.accesses t
  asked_on t k = record {
    one = k.one;
    there = in_one k.one k.there;
    asks = record {
      other = k.asks.other;
      there = in_other k.asks.other k.asks.there (λ s. free_left k.one k.there (asked_too d k.one k.asks.other t k.asks.asks s));
      asks = k.asks.asks;
    };
  }

  asked_back : (t : Test) → Asked one.accesses other.accesses t → Asked left.accesses later.accesses t
  asked_back t k =
      let there = of_other k.asks.other k.asks.there in
      let with_other : AskedWith k.one later.accesses t = record { other = k.asks.other; there = there; asks = k.asks.asks } in
      ⊎_elim
      (λ is_left. record { one = k.one; there = is_left; asks = with_other })
      (λ idle. absurd (idle.silent t with_other))
      (in_left k.one k.there)

  seizing_on : (t : Test) → AskedSeizing later.accesses t → AskedSeizing other.accesses t
  seizing_on t k = record { other = k.other; there = in_other k.other k.there (released_never d k.other t k.asks); asks = k.asks }

  seizing_back : (t : Test) → AskedSeizing other.accesses t → AskedSeizing later.accesses t
  seizing_back t k = record { other = k.other; there = of_other k.other k.there; asks = k.asks }

  release_on : (t : Test) → AskedRelease left.fault later.accesses t → AskedRelease one.fault other.accesses t
  release_on t k = record {
    fault_may = of_first.fault ∙ sym h.fault ∙ k.fault_may;
    asks = ⊎_elim (λ is. inl is) (λ s. inr (seizing_on t s)) k.asks;
  }

  release_back : (t : Test) → AskedRelease one.fault other.accesses t → AskedRelease left.fault later.accesses t
  release_back t k = record {
    fault_may = h.fault ∙ sym of_first.fault ∙ k.fault_may;
    asks = ⊎_elim (λ is. inl is) (λ s. inr (seizing_back t s)) k.asks;
  }

  test_on : (t : Test) → IsTest left later t → IsTest one other t
  test_on t k =
      ⊎_elim (λ a. of_asked one other t (asked_on t a)) (λ r. of_release one other t (release_on t r)) (test_cases left later t k)

  test_back : (t : Test) → IsTest one other t → IsTest left later t
  test_back t k =
      ⊎_elim (λ a. of_asked left later t (asked_back t a)) (λ r. of_release left later t (release_back t r)) (test_cases one other t k)

  left_told : (t : Told) → IsTold left later t → IsTold one other t
  left_told (Never c) p = record { conflict = conflict_on c p.conflict; none_before = λ e k. p.none_before e (conflict_back e k) }
  left_told (Asks tests) p = (
    λ c k. p.0 c (conflict_back c k),
    record {
      exact = λ t. (λ c. test_on t ((p.1.exact t).0 c), λ k. (p.1.exact t).1 (test_back t k));
      rising = p.1.rising;
    },
  )

pub sparing_told : {M : Type 0} (first later left : Summary) (d : Targets) (r : Result Told M) → IsLeft d later.accesses first left
    → IfOk r (IsTold left later) → IfOk r (TellsSparing first later d)
sparing_told first later left d (Ok t) h told = record {
  one = spared d first;
  other = spared d later;
  of_first = spares d first;
  of_later = spares d later;
  told = left_told d first later left (spared d first) (spared d later) h (spares d first) (spares d later) t told;
}
sparing_told first later left d (Err m) h told = tt
