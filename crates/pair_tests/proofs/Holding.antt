-- Tests that hold of two jobs.
use Rattle.std.proofs.Common.{◌≡◌, ◌≢◌, ◌⊎◌, inl, inr, ⊎_elim, ℕ, ◌+◌, ◌<◌, ◌≤◌, Bool, true, false}
use Rattle.std.proofs.Common.{◌&&◌, List, [], ◌∷◌, ◌++◌, length, take, get_or, Option, Some, None}
use Rattle.std.proofs.Common.{refl, sym, ◌∙◌, subst}
use Rattle.std.specs.Prelude.{◌↔◌, IsTrue}
use Rattle.std.specs.Option.{is_some}
use Rattle.std.specs.List.{All, Contains}
use Rattle.std.proofs.lemmas.List.{take_all, take_more}
use Rattle.std.proofs.lemmas.List.Elements.{All-contains, Contains-get_or}
use Rattle.std.proofs.lemmas.Option.{none-some, same_Some}
use Rattle.std.proofs.lemmas.Bool.{false≢true, both_ways}
use Rattle.plex_num.proofs.Members.{none_in}
use Rattle.job_types.specs.declared.chain.Held.{Held}
use Rattle.job_types.specs.declared.job.JobStart.{JobStart}
use Rattle.entry_summary.specs.declared.summary.Access.{Access}
use Rattle.entry_summary.specs.declared.summary.Summary.{Summary}
use Rattle.pair_tests.specs.declared.pair.Conflict.{Conflict}
use Rattle.pair_tests.specs.declared.pair.Test.{Test}
use Rattle.pair_tests.specs.declared.pair.Test.TheVariants as test
use Rattle.pair_tests.specs.Clashes.{IsLeastConflict}
use Rattle.pair_tests.specs.Asked.{asked_of, asks, release_test, AskedWith, Asked, AskedSeizing}
use Rattle.pair_tests.specs.Asked.{AskedRelease, AllHold}
use Rattle.pair_tests.specs.Nearby.{passes_reads, AreNear}
use Rattle.pair_tests.specs.Pairs.{TestHolds, IsConflict, IsTest, Passes}
use Rattle.pair_tests.proofs.Tested.{with_pushed, all_pushed, seizing_pushed, near_asked, asked_all}
use Rattle.pair_tests.proofs.Tested.{none_asked_with, writes_asked, of_asked, of_release}
use Rattle.pair_tests.proofs.Tested.{test_cases}

sure : (r : Bool) → r ≡ true → IsTrue r
sure r e = e

unsure : (r : Bool) → r ≡ false → IsTrue r → ⊥
unsure true e h = cc
unsure false e h = cc

module _ (a b : JobStart) where
  -- all tests of the set hold where those of two parts of it do

  none_hold : (P : Test → Type 0) → ((t : Test) → P t → ⊥) → AllHold P a b
  none_hold P none = record { each = λ t h. absurd (none t h) }

  joined : (P Q R : Test → Type 0) → ((t : Test) → R t → P t ⊎ Q t) → AllHold P a b → AllHold Q a b → AllHold R a b
  joined P Q R cases p q = record { each = λ t h. ⊎_elim (λ k. p.each t k) (λ k. q.each t k) (cases t h) }

  fewer : (P R : Test → Type 0) → ((t : Test) → P t → R t) → AllHold R a b → AllHold P a b
  fewer P R from h = record { each = λ t k. h.each t (from t k) }

  pub both_hold : (P Q R : Test → Type 0) → ((t : Test) → P t → R t) → ((t : Test) → Q t → R t) → ((t : Test) → R t → P t ⊎ Q t)
      → (x y : Bool) → IsTrue x ↔ AllHold P a b → IsTrue y ↔ AllHold Q a b → IsTrue (x && y) ↔ AllHold R a b
  both_hold P Q R from_p from_q cases true y p q = (λ h. joined P Q R cases (p.0 refl) (q.0 h), λ h. q.1 (fewer Q R from_q h))
  both_hold P Q R from_p from_q cases false y p q = (λ h. absurd (false≢true h), λ h. p.1 (fewer P R from_p h))

  pub none_asked : IsTrue true ↔ AllHold (λ t. None ≡ Some t) a b
  none_asked = (λ h. none_hold (λ t. None ≡ Some t) (λ t e. none-some t e), λ h. refl)

  pub one_asked : (x : Test) (r : Bool) → IsTrue r ↔ TestHolds a b x → IsTrue r ↔ AllHold (λ t. Some x ≡ Some t) a b
  one_asked x r h = (λ k. record { each = λ t e. subst (TestHolds a b) (same_Some x t e) (h.0 k) }, λ k. h.1 (k.each x refl))

  -- an access of the first with some of the later

  pub with_begin : (one : Access) → AllHold (AskedWith one []) a b
  with_begin one = none_hold (AskedWith one []) (λ t h. none_in h.other h.there)

  pub with_more : (one : Access) (others : List Access) (i : ℕ) (d : Access) (o : Option Test) (r : Bool) → i < length others
      → o ≡ asked_of one (get_or others i d) → IsTrue r ↔ AllHold (λ t. o ≡ Some t) a b → r ≡ true
      → AllHold (AskedWith one (take i others)) a b → AllHold (AskedWith one (take (i + 1) others)) a b
  with_more one others i d o r lt same is holds before =
      subst (λ l. AllHold (AskedWith one l) a b) (sym (take_more others i d lt))
      (joined (AskedWith one (take i others)) (λ t. asked_of one (get_or others i d) ≡ Some t) (AskedWith one (take i others ++ get_or others i d ∷ []))
      (with_pushed one (take i others) (get_or others i d)) before (subst (λ p. AllHold (λ t. p ≡ Some t) a b) same (is.0 (sure r holds))))

  pub with_fails : (one : Access) (others : List Access) (i : ℕ) (d : Access) (o : Option Test) (r : Bool) → i < length others
      → o ≡ asked_of one (get_or others i d) → IsTrue r ↔ AllHold (λ t. o ≡ Some t) a b → r ≡ false
      → IsTrue false ↔ AllHold (AskedWith one others) a b
  with_fails one others i d o r lt same is fails = (
    λ h. absurd (false≢true h),
    λ h. absurd
        (unsure r fails (is.1 (record {
          each = λ t e. h.each t
              (record { other = get_or others i d; there = Contains-get_or others i d lt; asks = sym same ∙ e });
        }))),
  )

  pub with_end : (one : Access) (others : List Access) (i : ℕ) → length others ≤ i
      → AllHold (AskedWith one (take i others)) a b → IsTrue true ↔ AllHold (AskedWith one others) a b
  with_end one others i past h = (λ k. subst (λ l. AllHold (AskedWith one l) a b) (take_all i others past) h, λ k. refl)

  pub none_with : (one : Access) (all : List Access) → asks one ≡ false → IsTrue true ↔ AllHold (AskedWith one all) a b
  none_with one all nothing = (λ h. none_hold (AskedWith one all) (λ t k. none_asked_with one all t nothing k), λ h. refl)

  pub with_writes : (one : Access) (all writes : List Access) (r : Bool) → passes_reads one ≡ true → AreNear one true all writes
      → IsTrue r ↔ AllHold (AskedWith one writes) a b → IsTrue r ↔ AllHold (AskedWith one all) a b
  with_writes one all writes r reads w h = (
    λ k. fewer (AskedWith one all) (AskedWith one writes) (writes_asked one all writes reads w) (h.0 k),
    λ k. h.1
        (fewer (AskedWith one writes) (AskedWith one all) (asked_all one true all writes w) k),
  )

  pub with_near : (one : Access) (all reads writes : List Access) (x y : Bool) → AreNear one false all reads → AreNear one true all writes
      → IsTrue x ↔ AllHold (AskedWith one reads) a b → IsTrue y ↔ AllHold (AskedWith one writes) a b → IsTrue (x && y) ↔ AllHold (AskedWith one all) a b
  with_near one all reads writes x y r w p q =
      both_hold (AskedWith one reads) (AskedWith one writes) (AskedWith one all) (asked_all one false all reads r)
      (asked_all one true all writes w) (near_asked one all reads writes r w) x y p q

  -- several accesses of the first

  pub all_begin : (others : List Access) → AllHold (Asked [] others) a b
  all_begin others = none_hold (Asked [] others) (λ t h. none_in h.one h.there)

  pub all_more : (ones others : List Access) (i : ℕ) (d : Access) (r : Bool) → i < length ones
      → IsTrue r ↔ AllHold (AskedWith (get_or ones i d) others) a b → r ≡ true
      → AllHold (Asked (take i ones) others) a b → AllHold (Asked (take (i + 1) ones) others) a b
  all_more ones others i d r lt is holds before =
      subst (λ l. AllHold (Asked l others) a b) (sym (take_more ones i d lt))
      (joined (Asked (take i ones) others) (AskedWith (get_or ones i d) others) (Asked (take i ones ++ get_or ones i d ∷ []) others)
      (all_pushed (take i ones) others (get_or ones i d)) before (is.0 (sure r holds)))

  pub all_fails : (ones others : List Access) (i : ℕ) (d : Access) (r : Bool) → i < length ones
      → IsTrue r ↔ AllHold (AskedWith (get_or ones i d) others) a b → r ≡ false
      → IsTrue false ↔ AllHold (Asked ones others) a b
  all_fails ones others i d r lt is fails = (
    λ h. absurd (false≢true h),
    λ h. absurd
        (unsure r fails (is.1 (record {
          each = λ t e. h.each t
              (record { one = get_or ones i d; there = Contains-get_or ones i d lt; asks = e });
        }))),
  )

  pub all_end : (ones others : List Access) (i : ℕ) → length ones ≤ i → AllHold (Asked (take i ones) others) a b → IsTrue true ↔ AllHold (Asked ones others) a b
  all_end ones others i past h = (λ k. subst (λ l. AllHold (Asked l others) a b) (take_all i ones past) h, λ k. refl)

  -- files that the later seizes

  pub seizing_begin : AllHold (AskedSeizing []) a b
  seizing_begin = none_hold (AskedSeizing []) (λ t h. none_in h.other h.there)

  pub seizing_more : (others : List Access) (i : ℕ) (d : Access) (o : Option Test) (r : Bool) → i < length others
      → o ≡ release_test (get_or others i d) → IsTrue r ↔ AllHold (λ t. o ≡ Some t) a b → r ≡ true
      → AllHold (AskedSeizing (take i others)) a b → AllHold (AskedSeizing (take (i + 1) others)) a b
  seizing_more others i d o r lt same is holds before =
      subst (λ l. AllHold (AskedSeizing l) a b) (sym (take_more others i d lt))
      (joined (AskedSeizing (take i others)) (λ t. release_test (get_or others i d) ≡ Some t) (AskedSeizing (take i others ++ get_or others i d ∷ []))
      (seizing_pushed (take i others) (get_or others i d)) before (subst (λ p. AllHold (λ t. p ≡ Some t) a b) same (is.0 (sure r holds))))

  pub seizing_fails : (others : List Access) (i : ℕ) (d : Access) (o : Option Test) (r : Bool) → i < length others
      → o ≡ release_test (get_or others i d) → IsTrue r ↔ AllHold (λ t. o ≡ Some t) a b → r ≡ false
      → IsTrue false ↔ AllHold (AskedSeizing others) a b
  seizing_fails others i d o r lt same is fails = (
    λ h. absurd (false≢true h),
    λ h. absurd
        (unsure r fails (is.1 (record {
          each = λ t e. h.each t
              (record { other = get_or others i d; there = Contains-get_or others i d lt; asks = sym same ∙ e });
        }))),
  )

  pub seizing_end : (others : List Access) (i : ℕ) → length others ≤ i → AllHold (AskedSeizing (take i others)) a b
      → IsTrue true ↔ AllHold (AskedSeizing others) a b
  seizing_end others i past h = (λ k. subst (λ l. AllHold (AskedSeizing l) a b) (take_all i others past) h, λ k. refl)

  -- a first job that may fault

  pub no_fault : (fault : Bool) (others : List Access) → fault ≡ false → IsTrue true ↔ AllHold (AskedRelease fault others) a b
  no_fault fault others e = (λ h. none_hold (AskedRelease fault others) (λ t k. both_ways fault e k.fault_may), λ h. refl)

  pub no_forlopp : (fault : Bool) (others : List Access) → fault ≡ true → a.job.forlopp ≡ 0 → IsTrue false ↔ AllHold (AskedRelease fault others) a b
  no_forlopp fault others e zero = (λ h. absurd (false≢true h), λ h. absurd (h.each test.InForlopp (record { fault_may = e; asks = inl refl }) zero))

  pub released : (fault : Bool) (others : List Access) (r : Bool) → fault ≡ true → a.job.forlopp ≢ 0
      → IsTrue r ↔ AllHold (AskedSeizing others) a b → IsTrue r ↔ AllHold (AskedRelease fault others) a b
  released fault others r e some h = (
    λ k. record { each = λ t asked. ⊎_elim (λ s. subst (TestHolds a b) (sym s) some) (λ s. (h.0 k).each t s) asked.asks },
    λ k. h.1 (record { each = λ t s. k.each t (record { fault_may = e; asks = inr s }) }),
  )

  -- the tests of two summaries

  pub tests_are : (first later : Summary) (ones others : List Access) (x y : Bool) → ones ≡ first.accesses → others ≡ later.accesses
      → IsTrue x ↔ AllHold (Asked ones others) a b → IsTrue y ↔ AllHold (AskedRelease first.fault others) a b
      → IsTrue (x && y) ↔ AllHold (IsTest first later) a b
  tests_are first later ones others x y same_ones same_others p q =
      both_hold (Asked first.accesses later.accesses) (AskedRelease first.fault later.accesses) (IsTest first later)
      (of_asked first later) (of_release first later) (test_cases first later) x y
      (subst (λ l. IsTrue x ↔ AllHold (Asked l later.accesses) a b) same_ones (subst (λ l. IsTrue x ↔ AllHold (Asked ones l) a b) same_others p))
      (subst (λ l. IsTrue y ↔ AllHold (AskedRelease first.fault l) a b) same_others q)

  conflict_in : (first later : Summary) (o : Option Conflict) → is_some o ≡ true → IsLeastConflict (IsConflict first later) o → Passes first later a b → ⊥
  unfolding IsLeastConflict
  conflict_in first later None e least h = cc
  conflict_in first later (Some c) e least h = h.apart c least.0

  no_conflict_in : (first later : Summary) (o : Option Conflict) → is_some o ≡ false
      → IsLeastConflict (IsConflict first later) o → (c : Conflict) → IsConflict first later c → ⊥
  unfolding IsLeastConflict
  no_conflict_in first later None e least = least
  no_conflict_in first later (Some c) e least = cc

  pub conflicting : (first later : Summary) (o : Option Conflict) → is_some o ≡ true
      → IsLeastConflict (IsConflict first later) o → IsTrue false ↔ Passes first later a b
  conflicting first later o e least = (λ h. absurd (false≢true h), λ h. absurd (conflict_in first later o e least h))

  pub passing : (first later : Summary) (o : Option Conflict) (x y : Bool) → is_some o ≡ false → IsLeastConflict (IsConflict first later) o
      → IsTrue x ↔ AllHold (IsTest first later) a b → IsTrue y ↔ (a.job.forlopp ≡ b.job.forlopp → a.job.forlopp ≡ 0) → IsTrue (x && y) ↔ Passes first later a b
  passing first later o true y e least p q = (
    λ h. record
        { apart = no_conflict_in first later o e least; tests = (p.0 refl).each; forlopps = q.0 h },
    λ h. q.1 h.forlopps,
  )
  passing first later o false y e least p q = (λ h. absurd (false≢true h), λ h. p.1 (record { each = h.tests }))

-- a chain without records of a file

pub held_none : (chain : List Held) (file : ℕ) (r : Bool) → IsTrue r ↔ All (λ (h : Held). h.file ≢ file) chain
    → IsTrue r ↔ ((h : Held) → Contains chain h → h.file ≢ file)
held_none chain file r is =
    (λ k h at. All-contains (λ (h : Held). h.file ≢ file) chain h (is.0 k) at, λ each. is.1 (λ k d lt. each (get_or chain k d) (Contains-get_or chain k d lt)))

pub held_test : (a b : JobStart) (t : Test) (chain : List Held) (file : ℕ) (r : Bool) → t ≡ test.HoldsNo file → chain ≡ a.chain
    → IsTrue r ↔ ((h : Held) → Contains chain h → h.file ≢ file) → IsTrue r ↔ TestHolds a b t
held_test a b t chain file r is same h =
    subst (λ u. IsTrue r ↔ TestHolds a b u) (sym is) (subst (λ l. IsTrue r ↔ ((h : Held) → Contains l h → h.file ≢ file)) same h)
