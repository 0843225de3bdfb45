-- The tests of two summaries, one after the other.
use Rattle.std.proofs.Common.{◌≡◌, ◌⊎◌, inl, inr, ⊎_elim, ℕ, ◌+◌, ◌<◌, ◌≤◌, Bool, true, false, List}
use Rattle.std.proofs.Common.{[], ◌∷◌, ◌++◌, length, take, get_or, Option, Some, None, refl, sym}
use Rattle.std.proofs.Common.{ap, ◌∙◌, subst}
use Rattle.std.specs.Prelude.{◌↔◌, if◌then◌else◌}
use Rattle.std.specs.declared.cmp.Ordering.{Ordering}
use Rattle.std.specs.declared.cmp.Ordering.TheVariants.{Less, Equal, Greater}
use Rattle.std.specs.Cmp.{IsTotalOrder}
use Rattle.std.specs.Ordering.{nat_cmp, ordering_then, is_eq, eq_by_cmp}
use Rattle.std.specs.List.{Contains, dedup}
use Rattle.std.specs.List.Sorted.{IsPermutation, IsSorted, IsStrictlySortedBy}
use Rattle.std.proofs.lemmas.Cmp.{eq_by_cmp_equiv}
use Rattle.std.proofs.lemmas.List.Kept.{Contains-dedup, Contains-from_dedup}
use Rattle.std.proofs.lemmas.List.Kept.{IsStrictlySortedBy-dedup}
use Rattle.std.proofs.lemmas.List.Sorted.{Contains-permutation, IsPermutation-sym}
use Rattle.std.proofs.lemmas.List.{take_all, take_more}
use Rattle.std.proofs.lemmas.List.Elements.{Contains-append_left, Contains-push}
use Rattle.std.proofs.lemmas.List.Elements.{Contains-push_cases}
use Rattle.std.proofs.lemmas.Option.{none-some, same_Some}
use Rattle.std.proofs.lemmas.Bool.{both_ways}
use Rattle.plex_num.proofs.Members.{none_in}
use Rattle.plex_num.proofs.Numbers.{nat_same}
use Rattle.flow_points.specs.declared.fact.Value.{Value}
use Rattle.flow_points.specs.declared.fact.Value.TheVariants.{Arg, Const, Any}
use Rattle.entry_summary.specs.declared.summary.Access.{Access}
use Rattle.entry_summary.specs.declared.summary.Access.TheVariants.{Field, Seizes}
use Rattle.entry_summary.specs.declared.summary.Summary.{Summary}
use Rattle.pair_tests.specs.declared.pair.Test.{Test}
use Rattle.pair_tests.specs.declared.pair.Test.TheVariants as test
use Rattle.pair_tests.specs.contracts.pair.TestOrd.TheImpl.Laws.{total-law}
use Rattle.pair_tests.specs.Orders.{test_order}
use Rattle.pair_tests.specs.Clashes.{share}
use Rattle.pair_tests.specs.Asked.{selector_test, asked_of, asks as ask, release_test, AskedWith}
use Rattle.pair_tests.specs.Asked.{Asked, AskedSeizing, AskedRelease, AddsTests}
use Rattle.pair_tests.specs.Nearby.{passes_reads, AreNear}
use Rattle.pair_tests.specs.Pairs.{ShareField, IsTest, two_values, first_value, later_value}
use Rattle.pair_tests.specs.Pairs.{in_forlopp, holds_none}
use Rattle.pair_tests.proofs.Conflicting.{shared, sharing}
use Rattle.pair_tests.proofs.Nearing.{asks, asked_near, asked_writes}

-- the sets of tests

pub with_pushed : (one : Access) (done : List Access) (new : Access) (t : Test) → AskedWith one (done ++ new ∷ []) t
    → AskedWith one done t ⊎ (asked_of one new ≡ Some t)
with_pushed one done new t h =
    ⊎_elim
    (λ at. inl (record { other = h.other; there = at; asks = h.asks }))
    (λ same. inr (ap (asked_of one) same ∙ h.asks))
    (Contains-push_cases done new h.other h.there)

pub with_done : (one : Access) (done : List Access) (new : Access) (t : Test) → AskedWith one done t → AskedWith one (done ++ new ∷ []) t
with_done one done new t h = record { other = h.other; there = Contains-append_left done (new ∷ []) h.other h.there; asks = h.asks }

pub with_new : (one : Access) (done : List Access) (new : Access) (t : Test) → asked_of one new ≡ Some t → AskedWith one (done ++ new ∷ []) t
with_new one done new t e = record { other = new; there = Contains-push done new; asks = e }

pub all_pushed : (done others : List Access) (new : Access) (t : Test) → Asked (done ++ new ∷ []) others t → Asked done others t ⊎ AskedWith new others t
all_pushed done others new t h =
    ⊎_elim
    (λ at. inl (record { one = h.one; there = at; asks = h.asks }))
    (λ same. inr (subst (λ a. AskedWith a others t) (sym same) h.asks))
    (Contains-push_cases done new h.one h.there)

pub all_done : (done others : List Access) (new : Access) (t : Test) → Asked done others t → Asked (done ++ new ∷ []) others t
all_done done others new t h = record { one = h.one; there = Contains-append_left done (new ∷ []) h.one h.there; asks = h.asks }

pub all_new : (done others : List Access) (new : Access) (t : Test) → AskedWith new others t → Asked (done ++ new ∷ []) others t
all_new done others new t h = record { one = new; there = Contains-push done new; asks = h }

pub seizing_pushed : (done : List Access) (new : Access) (t : Test) → AskedSeizing (done ++ new ∷ []) t → AskedSeizing done t ⊎ (release_test new ≡ Some t)
seizing_pushed done new t h =
    ⊎_elim
    (λ at. inl (record { other = h.other; there = at; asks = h.asks }))
    (λ same. inr (ap release_test same ∙ h.asks))
    (Contains-push_cases done new h.other h.there)

pub seizing_done : (done : List Access) (new : Access) (t : Test) → AskedSeizing done t → AskedSeizing (done ++ new ∷ []) t
seizing_done done new t h = record { other = h.other; there = Contains-append_left done (new ∷ []) h.other h.there; asks = h.asks }

pub seizing_new : (done : List Access) (new : Access) (t : Test) → release_test new ≡ Some t → AskedSeizing (done ++ new ∷ []) t
seizing_new done new t e = record { other = new; there = Contains-push done new; asks = e }

-- those near an access are all that ask for a test with it

pub near_asked : (one : Access) (all reads writes : List Access) → AreNear one false all reads → AreNear one true all writes
    → (t : Test) → AskedWith one all t → AskedWith one reads t ⊎ AskedWith one writes t
near_asked one all reads writes r w t h =
    ⊎_elim
    (λ n. inl (record { other = h.other; there = r.near h.other h.there n; asks = h.asks }))
    (λ n. inr (record { other = h.other; there = w.near h.other h.there n; asks = h.asks }))
    (asked_near one h.other t h.asks)

-- where none is asked for, and where those that write ask for all

pub none_asked_with : (one : Access) (others : List Access) (t : Test) → ask one ≡ false → AskedWith one others t → ⊥
none_asked_with one others t nothing h = asked_none one h.other nothing h.asks
  where
    asked_none : (one b : Access) → ask one ≡ false → asked_of one b ≡ Some t → ⊥
    asked_none (Field w n u) b nothing e = cc
    asked_none _ b nothing e = none-some t e

pub writes_asked : (one : Access) (all writes : List Access) → passes_reads one ≡ true → AreNear one true all writes
    → (t : Test) → AskedWith one all t → AskedWith one writes t
writes_asked one all writes reads w t h = record { other = h.other; there = w.near h.other h.there (asked_writes one h.other t reads h.asks); asks = h.asks }

pub asked_all : (one : Access) (v : Bool) (all some : List Access) → AreNear one v all some → (t : Test) → AskedWith one some t → AskedWith one all t
asked_all one v all some n t h = record { other = h.other; there = n.each h.other h.there; asks = h.asks }

-- lists that grow by tests

pub adds_nothing : (P : Test → Type 0) (old : List Test) → ((t : Test) → P t → ⊥) → AddsTests P old old
adds_nothing P old none = record { kept = λ t c. c; added = λ t h. absurd (none t h); each = λ t c. inl c }

pub adds_joined : (P Q R : Test → Type 0) → ((t : Test) → P t → R t) → ((t : Test) → Q t → R t) → ((t : Test) → R t → P t ⊎ Q t)
    → (old now new : List Test) → AddsTests P old now → AddsTests Q now new → AddsTests R old new
adds_joined P Q R from_p from_q cases old now new p q = record {
  kept = λ t c. q.kept t (p.kept t c);
  added = λ t h. ⊎_elim (λ k. q.kept t (p.added t k)) (λ k. q.added t k) (cases t h);
  each = λ t c. ⊎_elim
      (λ at. ⊎_elim (λ o. inl o) (λ k. inr (from_p t k)) (p.each t at))
      (λ k. inr (from_q t k))
      (q.each t c);
}

pub adds_none : (old : List Test) → AddsTests (λ t. None ≡ Some t) old old
adds_none old = adds_nothing (λ t. None ≡ Some t) old (λ t e. none-some t e)

pub adds_one : (x : Test) (old new : List Test) → new ≡ old ++ x ∷ [] → AddsTests (λ t. Some x ≡ Some t) old new
adds_one x old new is =
    subst (AddsTests (λ t. Some x ≡ Some t) old) (sym is)
    (record {
      kept = λ t c. Contains-append_left old (x ∷ []) t c;
      added = λ t e. subst (Contains (old ++ x ∷ [])) (same_Some x t e) (Contains-push old x);
      each = λ t c. ⊎_elim (λ o. inl o) (λ e. inr (ap Some e)) (Contains-push_cases old x t c);
    })

pub with_begin : (one : Access) (old : List Test) → AddsTests (AskedWith one []) old old
with_begin one old = adds_nothing (AskedWith one []) old (λ t h. none_in h.other h.there)

pub with_more : (one : Access) (others : List Access) (i : ℕ) (d : Access) (o : Option Test) (old now new : List Test) → i < length others
    → o ≡ asked_of one (get_or others i d) → AddsTests (AskedWith one (take i others)) old now → AddsTests (λ t. o ≡ Some t) now new
    → AddsTests (AskedWith one (take (i + 1) others)) old new
with_more one others i d o old now new lt same before one_more =
    subst (λ l. AddsTests (AskedWith one l) old new) (sym (take_more others i d lt))
    (adds_joined (AskedWith one (take i others)) (λ t. asked_of one (get_or others i d) ≡ Some t) (AskedWith one (take i others ++ get_or others i d ∷ []))
    (with_done one (take i others) (get_or others i d)) (with_new one (take i others) (get_or others i d)) (with_pushed one (take i others) (get_or others i d))
    old now new before (subst (λ p. AddsTests (λ t. p ≡ Some t) now new) same one_more))

pub with_end : (one : Access) (others : List Access) (i : ℕ) (old new : List Test) → length others ≤ i
    → AddsTests (AskedWith one (take i others)) old new → AddsTests (AskedWith one others) old new
with_end one others i old new past h = subst (λ l. AddsTests (AskedWith one l) old new) (take_all i others past) h

pub with_none : (one : Access) (all : List Access) (old : List Test) → ask one ≡ false → AddsTests (AskedWith one all) old old
with_none one all old nothing = adds_nothing (AskedWith one all) old (λ t h. none_asked_with one all t nothing h)

pub with_writes : (one : Access) (all writes : List Access) (old new : List Test) → passes_reads one ≡ true → AreNear one true all writes
    → AddsTests (AskedWith one writes) old new → AddsTests (AskedWith one all) old new
with_writes one all writes old new reads w h = record {
  kept = h.kept;
  added = λ t k. h.added t (writes_asked one all writes reads w t k);
  each = λ t c. ⊎_elim (λ o. inl o) (λ k. inr (asked_all one true all writes w t k)) (h.each t c);
}

pub with_near : (one : Access) (all reads writes : List Access) (old now new : List Test) → AreNear one false all reads → AreNear one true all writes
    → AddsTests (AskedWith one writes) old now → AddsTests (AskedWith one reads) now new → AddsTests (AskedWith one all) old new
with_near one all reads writes old now new r w first second =
    adds_joined (AskedWith one writes) (AskedWith one reads) (AskedWith one all)
    (asked_all one true all writes w) (asked_all one false all reads r) (λ t h. swapped (near_asked one all reads writes r w t h)) old now new first second
  where
    swapped : {A B : Type 0} → A ⊎ B → B ⊎ A
    swapped (inl a) = inr a
    swapped (inr b) = inl b

pub all_begin : (others : List Access) (old : List Test) → AddsTests (Asked [] others) old old
all_begin others old = adds_nothing (Asked [] others) old (λ t h. none_in h.one h.there)

pub all_more : (ones others : List Access) (i : ℕ) (d : Access) (old now new : List Test) → i < length ones
    → AddsTests (Asked (take i ones) others) old now → AddsTests (AskedWith (get_or ones i d) others) now new
    → AddsTests (Asked (take (i + 1) ones) others) old new
all_more ones others i d old now new lt before one_more =
    subst (λ l. AddsTests (Asked l others) old new) (sym (take_more ones i d lt))
    (adds_joined (Asked (take i ones) others) (AskedWith (get_or ones i d) others) (Asked (take i ones ++ get_or ones i d ∷ []) others)
    (all_done (take i ones) others (get_or ones i d)) (all_new (take i ones) others (get_or ones i d)) (all_pushed (take i ones) others (get_or ones i d))
    old now new before one_more)

pub all_end : (ones others : List Access) (i : ℕ) (old new : List Test) → length ones ≤ i
    → AddsTests (Asked (take i ones) others) old new → AddsTests (Asked ones others) old new
all_end ones others i old new past h = subst (λ l. AddsTests (Asked l others) old new) (take_all i ones past) h

pub seizing_begin : (old : List Test) → AddsTests (AskedSeizing []) old old
seizing_begin old = adds_nothing (AskedSeizing []) old (λ t h. none_in h.other h.there)

pub seizing_more : (others : List Access) (i : ℕ) (d : Access) (o : Option Test) (old now new : List Test) → i < length others
    → o ≡ release_test (get_or others i d) → AddsTests (AskedSeizing (take i others)) old now → AddsTests (λ t. o ≡ Some t) now new
    → AddsTests (AskedSeizing (take (i + 1) others)) old new
seizing_more others i d o old now new lt same before one_more =
    subst (λ l. AddsTests (AskedSeizing l) old new) (sym (take_more others i d lt))
    (adds_joined (AskedSeizing (take i others)) (λ t. release_test (get_or others i d) ≡ Some t) (AskedSeizing (take i others ++ get_or others i d ∷ []))
    (seizing_done (take i others) (get_or others i d)) (seizing_new (take i others) (get_or others i d)) (seizing_pushed (take i others) (get_or others i d))
    old now new before (subst (λ p. AddsTests (λ t. p ≡ Some t) now new) same one_more))

pub seizing_end : (others : List Access) (i : ℕ) (old new : List Test) → length others ≤ i
    → AddsTests (AskedSeizing (take i others)) old new → AddsTests (AskedSeizing others) old new
seizing_end others i old new past h = subst (λ l. AddsTests (AskedSeizing l) old new) (take_all i others past) h

pub no_release : (fault : Bool) (others : List Access) (old : List Test) → fault ≡ false → AddsTests (AskedRelease fault others) old old
no_release fault others old e = adds_nothing (AskedRelease fault others) old (λ t h. both_ways fault e h.fault_may)

pub release : (fault : Bool) (others : List Access) (old now new : List Test) → fault ≡ true
    → now ≡ old ++ test.InForlopp ∷ [] → AddsTests (AskedSeizing others) now new
    → AddsTests (AskedRelease fault others) old new
release fault others old now new e is more =
    adds_joined (λ t. Some test.InForlopp ≡ Some t) (AskedSeizing others) (AskedRelease fault others)
    (λ t s. record { fault_may = e; asks = inl (sym (same_Some test.InForlopp t s)) })
    (λ t h. record { fault_may = e; asks = inr h })
    (λ t h. ⊎_elim (λ s. inl (ap Some (sym s))) (λ k. inr k) h.asks)
    old now new (adds_one test.InForlopp old now is) more

-- a list in order, each test once

then_equal : (o p : Ordering) → ordering_then o p ≡ Equal → (o ≡ Equal) × (p ≡ Equal)
then_equal Less p e = cc
then_equal Equal p e = (refl, e)
then_equal Greater p e = cc

is_equal : (o : Ordering) → is_eq o ≡ true → o ≡ Equal
is_equal Less e = cc
is_equal Equal e = refl
is_equal Greater e = cc

pairs_equal : (a b c d : ℕ) → ordering_then (nat_cmp a c) (nat_cmp b d) ≡ Equal → (a ≡ c) × (b ≡ d)
pairs_equal a b c d e = (let h = then_equal (nat_cmp a c) (nat_cmp b d) e in (nat_same a c h.0, nat_same b d h.1))

pub tests_equal : (x y : Test) → test_order x y ≡ Equal → x ≡ y
tests_equal (test.Differ a b) (test.Differ c d) e = (let h = pairs_equal a b c d e in λ i. test.Differ (h.0 i) (h.1 i))
tests_equal (test.FirstNot a b) (test.FirstNot c d) e = (let h = pairs_equal a b c d e in λ i. test.FirstNot (h.0 i) (h.1 i))
tests_equal (test.LaterNot a b) (test.LaterNot c d) e = (let h = pairs_equal a b c d e in λ i. test.LaterNot (h.0 i) (h.1 i))
tests_equal test.InForlopp test.InForlopp e = refl
tests_equal (test.HoldsNo f) (test.HoldsNo g) e = ap test.HoldsNo (nat_same f g e)
tests_equal _ _ e = cc

tests_total : IsTotalOrder test_order
tests_total = total-law

by_order : (E : Test → Test → Bool) → ((x y : Test) → E x y ≡ eq_by_cmp test_order x y) → (sorted kept : List Test)
    → kept ≡ dedup E sorted → kept ≡ dedup (eq_by_cmp test_order) sorted
by_order E ties sorted kept is = (let same : E ≡ eq_by_cmp test_order = λ i x y. ties x y i in subst (λ F. kept ≡ dedup F sorted) same is)

pub ordered_same : (E : Test → Test → Bool) → ((x y : Test) → E x y ≡ eq_by_cmp test_order x y) → (tests items sorted kept made : List Test)
    → items ≡ tests → IsPermutation items sorted → kept ≡ dedup E sorted → made ≡ kept → (t : Test) → Contains made t ↔ Contains tests t
ordered_same E ties tests items sorted kept made from moved once is t =
    let same = is ∙ by_order E ties sorted kept once in (
      λ c. subst (λ l. Contains l t) from (Contains-permutation sorted items t (IsPermutation-sym items sorted moved)
          (Contains-from_dedup (eq_by_cmp test_order) sorted t (subst (λ l. Contains l t) same c))),
      λ c. subst (λ l. Contains l t) (sym same)
          (Contains-dedup (eq_by_cmp_equiv tests_total) (λ x y e. tests_equal x y (is_equal (test_order x y) e)) sorted t
          (Contains-permutation items sorted t moved (subst (λ l. Contains l t) (sym from) c))),
    )

pub ordered_rises : (E : Test → Test → Bool) → ((x y : Test) → E x y ≡ eq_by_cmp test_order x y) → (sorted kept made : List Test)
    → IsSorted test_order sorted → kept ≡ dedup E sorted → made ≡ kept → IsStrictlySortedBy test_order made
ordered_rises E ties sorted kept made up once is =
    subst (IsStrictlySortedBy test_order) (sym (is ∙ by_order E ties sorted kept once)) (IsStrictlySortedBy-dedup tests_total (λ x y. refl) sorted up)

-- they are the tests of two summaries

module _ (first later : Summary) where
  field_test : (w v : Bool) (n m : ℕ) (u z : Value) (t : Test) → Contains first.accesses (Field w n u)
      → Contains later.accesses (Field v m z) → share n m w v ≡ true → selector_test u z ≡ Some t → IsTest first later t
  field_test w v n m u z t at there s e = selected u z t field e
    where
      field : ShareField first later n u z
      field = record {
        first_writes = w;
        later_writes = v;
        by_first = at;
        by_later = subst (λ k. Contains later.accesses (Field v k z)) (sym (shared n m w v s).number) there;
        one_writes = (shared n m w v s).writes;
      }

      selected : (u z : Value) (t : Test) → ShareField first later n u z → selector_test u z ≡ Some t → IsTest first later t
      selected (Arg a) (Arg b) t f e = subst (IsTest first later) (same_Some (test.Differ a b) t e) (two_values n a b f)
      selected (Arg a) (Const c) t f e = subst (IsTest first later) (same_Some (test.FirstNot a c) t e) (first_value n a c f)
      selected (Arg a) Any t f e = absurd (none-some t e)
      selected (Const c) (Arg b) t f e = subst (IsTest first later) (same_Some (test.LaterNot b c) t e) (later_value n b c f)
      selected (Const c) (Const d) t f e = absurd (none-some t e)
      selected (Const c) Any t f e = absurd (none-some t e)
      selected Any z t f e = absurd (none-some t e)

  asked_is : (one other : Access) (t : Test) → Contains first.accesses one → Contains later.accesses other → asked_of one other ≡ Some t → IsTest first later t
  asked_is (Field w n u) (Field v m z) t at there e = (let h = asks (share n m w v) (selector_test u z) t e in field_test w v n m u z t at there h.0 h.1)
  asked_is _ _ t at there e = absurd (none-some t e)

  pub of_asked : (t : Test) → Asked first.accesses later.accesses t → IsTest first later t
  of_asked t h = asked_is h.one h.asks.other t h.there h.asks.there h.asks.asks

  seizing_is : (other : Access) (t : Test) → first.fault ≡ true → Contains later.accesses other → release_test other ≡ Some t → IsTest first later t
  seizing_is (Seizes f) t may at e = subst (IsTest first later) (same_Some (test.HoldsNo f) t e) (holds_none f may at)
  seizing_is _ t may at e = absurd (none-some t e)

  pub of_release : (t : Test) → AskedRelease first.fault later.accesses t → IsTest first later t
  of_release t h =
      ⊎_elim
      (λ s. subst (IsTest first later) (sym s) (in_forlopp h.fault_may))
      (λ k. seizing_is k.other t h.fault_may k.there k.asks)
      h.asks

  choose : (b : Bool) (o : Option Test) (t : Test) → b ≡ true → o ≡ Some t → (if b then o else None) ≡ Some t
  choose true o t e f = f
  choose false o t e f = cc

  of_field : (n : ℕ) (u z : Value) (t : Test) → ShareField first later n u z → selector_test u z ≡ Some t
      → Asked first.accesses later.accesses t ⊎ AskedRelease first.fault later.accesses t
  of_field n u z t s e =
      inl (record {
        one = Field s.first_writes n u;
        there = s.by_first;
        asks = record {
          other = Field s.later_writes n z;
          there = s.by_later;
          asks = choose (share n n s.first_writes s.later_writes) (selector_test u z) t (sharing n s.first_writes s.later_writes s.one_writes) e;
        };
      })

  pub test_cases : (t : Test) → IsTest first later t → Asked first.accesses later.accesses t ⊎ AskedRelease first.fault later.accesses t
  test_cases t (two_values n a b s) = of_field n (Arg a) (Arg b) (test.Differ a b) s refl
  test_cases t (first_value n a c s) = of_field n (Arg a) (Const c) (test.FirstNot a c) s refl
  test_cases t (later_value n b c s) = of_field n (Const c) (Arg b) (test.LaterNot b c) s refl
  test_cases t (in_forlopp may) = inr (record { fault_may = may; asks = inl refl })
  test_cases t (holds_none f may at) = inr (record { fault_may = may; asks = inr (record { other = Seizes f; there = at; asks = refl }) })

pub exact : (first later : Summary) (ones others : List Access) (empty now new made : List Test) → ones ≡ first.accesses → others ≡ later.accesses → empty ≡ []
    → AddsTests (Asked ones others) empty now → AddsTests (AskedRelease first.fault others) now new → ((t : Test) → Contains made t ↔ Contains new t)
    → (t : Test) → Contains made t ↔ IsTest first later t
exact first later ones others empty now new made same_ones same_others none fields faults same t =
    let f = subst (λ l. AddsTests (Asked l later.accesses) empty now) same_ones (subst (λ l. AddsTests (Asked ones l) empty now) same_others fields) in
    let r = subst (λ l. AddsTests (AskedRelease first.fault l) now new) same_others faults in
    let all = adds_joined (Asked first.accesses later.accesses) (AskedRelease first.fault later.accesses)
    (IsTest first later) (of_asked first later) (of_release first later) (test_cases first later) empty now new f r
    in
    (λ c. ⊎_elim (λ o. absurd (none_in t (subst (λ l. Contains l t) none o))) (λ h. h) (all.each t ((same t).0 c)), λ h. (same t).1 (all.added t h))
