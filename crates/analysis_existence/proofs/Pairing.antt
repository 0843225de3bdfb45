-- The text of an analysis comes.
use Rattle.std.proofs.Common.{◌≡◌, ◌⊎◌, inl, inr, ℕ, zero, suc, ◌+◌, ◌<◌, true, List, [], ◌∷◌, ◌++◌}
use Rattle.std.proofs.Common.{length, map, Option, None, Some, Contains, slice_get, refl, sym, ap}
use Rattle.std.proofs.Common.{subst, arith, codes}
use Rattle.plex_num.proofs.Members.{first_is, first_or_later, later_is, none_in}
use Rattle.plex_num.specs.declared.level.Level.{Level}
use Rattle.exchange_model.specs.declared.exchange.Exchange.{Exchange}
use Rattle.entry_summary.specs.declared.summary.Access.{Access}
use Rattle.entry_summary.specs.declared.summary.Summary.{Summary}
use Rattle.pair_tests.specs.declared.pair.Conflict.{Conflict}
use Rattle.pair_tests.specs.declared.pair.Test.{Test}
use Rattle.pair_tests.specs.declared.pair.Test.TheVariants as test
use Rattle.pair_tests.specs.contracts.pair.TestOrd.TheImpl.Laws as order_laws
use Rattle.pair_tests.specs.Asked.{Asked, AskedRelease, AskedSeizing, asked_of, release_test}
use Rattle.pair_tests.specs.Clashes.{Clashes, ClashesAbove, IsLeastConflict, IsSooner, above_of}
use Rattle.pair_tests.specs.Clashes.{clash_of}
use Rattle.pair_tests.specs.Orders.{Precedes, test_order}
use Rattle.pair_tests.specs.Pairs.{IsConflict, IsTest}
use Rattle.pair_tests.proofs.Conflicting.{conflict_cases, of_accesses, of_level}
use Rattle.pair_tests.proofs.Leasts.{least_joined, least_none, least_one, least_same}
use Rattle.pair_tests.proofs.Preceding.{After, Before, Ranked, Same, none_before_itself}
use Rattle.pair_tests.proofs.Preceding.{precedes_trans, ranked}
use Rattle.pair_tests.proofs.Tested.{of_asked, of_release, test_cases, tests_equal}
use Rattle.analysis_text.specs.declared.names.Names.{Names}
use Rattle.analysis_text.specs.Analysis.{IsAnalysis}
use Rattle.analysis_text.specs.Lines.{entries_text, if_line, never_line, text_of, written}
use Rattle.analysis_text.specs.Names.{names_of}
use Rattle.analysis_text.specs.Pairs.{ArePairs, AreTests, GainsText, InTurn, IsPairText}
use Rattle.analysis_text.specs.Pairs.{IsTextOfFirst, IsTextWith, never, tested}
use Rattle.analysis_text.proofs.Turns.{turns_begin, turns_more}
use Rattle.finite_facts.proofs.Finite.{Listed, listed_as, listed_in, listed_one, listed_or}
use Rattle.finite_facts.proofs.Finite.{listed_some, listed_then, listed_when, truth}
use Rattle.finite_facts.proofs.Rising.{in_order}

-- the first of some conflicts

sooner : (one other : Option Conflict) → (r : Option Conflict) × IsSooner one other r
sooner None other = (other, refl)
sooner (Some c) None = (Some c, refl)
sooner (Some c) (Some d) = by (ranked c d)
  where
    by : Ranked c d → (r : Option Conflict) × IsSooner (Some c) (Some d) r
    by (Same is) = (Some c, inr (refl, λ before. none_before_itself c (subst (λ e. Precedes e c) (sym is) before)))
    by (Before h) = (Some c, inr (refl, λ before. none_before_itself c (precedes_trans c d c h before)))
    by (After h) = (Some d, inl (refl, h))

abbrev pub Least : (Conflict → Type 0) → Type 0
Least P = (r : Option Conflict) × IsLeastConflict P r

least_of : (cs : List Conflict) → Least (λ c. Contains cs c)
least_of [] = (None, least_none (λ c. Contains [] c) (λ c h. none_in c h))
least_of (c ∷ cs) = by (least_of cs)
  where
    first : (d : Conflict) → Some c ≡ Some d → Contains (c ∷ cs) d
    first d is = (let same : c ≡ d = cc in subst (Contains (c ∷ cs)) same (first_is c cs))

    cases : (d : Conflict) → (c ≡ d) ⊎ Contains cs d → (Some c ≡ Some d) ⊎ Contains cs d
    cases d (inl is) = inl (ap Some is)
    cases d (inr h) = inr h

    by : Least (λ d. Contains cs d) → Least (λ d. Contains (c ∷ cs) d)
    by more =
        let s = sooner (Some c) more.0 in (
          s.0,
          least_joined (λ d. Some c ≡ Some d) (λ d. Contains cs d) (λ d. Contains (c ∷ cs) d) first
              (λ d h. later_is c d cs h) (λ d h. cases d (first_or_later c d cs h)) (Some c) more.0 s.0
              (least_one (Some c)) more.1 s.1,
        )

module _ (first later : Summary) where
  -- conflicts

  abbrev OneClash : Access → Conflict → Type 0
  OneClash one c = (b : Access) × Contains later.accesses b × (clash_of one b ≡ Some c)

  clashes : Listed (Clashes first.accesses later.accesses)
  clashes =
      listed_as (λ c. (a : Access) × Contains first.accesses a × OneClash a c) (Clashes first.accesses later.accesses)
      (λ c h. record { one = h.0; there = h.1; clash = record { other = h.2.0; there = h.2.1; clash = h.2.2 } })
      (λ c h. (h.one, h.there, (h.clash.other, h.clash.there, h.clash.clash)))
      (listed_then (λ a. Contains first.accesses a) OneClash (listed_in first.accesses)
      (λ a at. listed_then (λ b. Contains later.accesses b) (λ b c. clash_of a b ≡ Some c)
      (listed_in later.accesses) (λ b there. listed_some (clash_of a b))))

  above : Listed (ClashesAbove first.levels later.level)
  above =
      listed_as (λ c. (l : Level) × Contains first.levels l × (above_of l later.level ≡ Some c)) (ClashesAbove first.levels later.level)
      (λ c h. record { level = h.0; there = h.1; clash = h.2 }) (λ c h. (h.level, h.there, h.clash))
      (listed_then (λ l. Contains first.levels l) (λ l c. above_of l later.level ≡ Some c) (listed_in first.levels)
      (λ l at. listed_some (above_of l later.level)))

  conflict_from : (c : Conflict) → Clashes first.accesses later.accesses c ⊎ ClashesAbove first.levels later.level c → IsConflict first later c
  conflict_from c (inl h) = of_accesses first later c h
  conflict_from c (inr h) = of_level first later c h

  conflicts : Listed (IsConflict first later)
  conflicts =
      listed_as (λ c. Clashes first.accesses later.accesses c ⊎ ClashesAbove first.levels later.level c)
      (IsConflict first later) conflict_from (conflict_cases first later)
      (listed_or (Clashes first.accesses later.accesses) (ClashesAbove first.levels later.level) clashes above)

  pub first_conflict : Least (IsConflict first later)
  first_conflict = (let l = conflicts in let least = least_of l.items in
      (least.0, least_same (λ c. Contains l.items c) (IsConflict first later) l.each l.all least.0 least.1))

  -- tests

  abbrev OneTest : Access → Test → Type 0
  OneTest one t = (b : Access) × Contains later.accesses b × (asked_of one b ≡ Some t)

  asked : Listed (Asked first.accesses later.accesses)
  asked =
      listed_as (λ t. (a : Access) × Contains first.accesses a × OneTest a t) (Asked first.accesses later.accesses)
      (λ t h. record { one = h.0; there = h.1; asks = record { other = h.2.0; there = h.2.1; asks = h.2.2 } })
      (λ t h. (h.one, h.there, (h.asks.other, h.asks.there, h.asks.asks)))
      (listed_then (λ a. Contains first.accesses a) OneTest (listed_in first.accesses)
      (λ a at. listed_then (λ b. Contains later.accesses b) (λ b t. asked_of a b ≡ Some t)
      (listed_in later.accesses) (λ b there. listed_some (asked_of a b))))

  seizing : Listed (AskedSeizing later.accesses)
  seizing =
      listed_as (λ t. (b : Access) × Contains later.accesses b × (release_test b ≡ Some t)) (AskedSeizing later.accesses)
      (λ t h. record { other = h.0; there = h.1; asks = h.2 }) (λ t h. (h.other, h.there, h.asks))
      (listed_then (λ b. Contains later.accesses b) (λ b t. release_test b ≡ Some t) (listed_in later.accesses) (λ b at. listed_some (release_test b)))

  release : Listed (AskedRelease first.fault later.accesses)
  release =
      listed_as (λ t. (first.fault ≡ true) × ((t ≡ test.InForlopp) ⊎ AskedSeizing later.accesses t)) (AskedRelease first.fault later.accesses)
      (λ t h. record { fault_may = h.0; asks = h.1 }) (λ t h. (h.fault_may, h.asks))
      (listed_when (first.fault ≡ true) (λ t. (t ≡ test.InForlopp) ⊎ AskedSeizing later.accesses t) (truth first.fault)
      (λ may. listed_or (λ t. t ≡ test.InForlopp) (AskedSeizing later.accesses) (listed_one test.InForlopp)
      seizing))

  test_from : (t : Test) → Asked first.accesses later.accesses t ⊎ AskedRelease first.fault later.accesses t → IsTest first later t
  test_from t (inl h) = of_asked first later t h
  test_from t (inr h) = of_release first later t h

  all_tests : Listed (IsTest first later)
  all_tests =
      listed_as (λ t. Asked first.accesses later.accesses t ⊎ AskedRelease first.fault later.accesses t) (IsTest first later) test_from (test_cases first later)
      (listed_or (Asked first.accesses later.accesses) (AskedRelease first.fault later.accesses) asked release)

  pub tests : (ts : List Test) × AreTests first later ts
  tests = (let r = in_order test_order order_laws.total-law tests_equal (IsTest first later) all_tests in
      (r.listed.items, record { exact = λ t. (r.listed.each t, r.listed.all t); rising = r.rising }))

  -- the text of the two
  pair_text : (names : Names) (i j : ℕ) → (text : List ℕ) × IsPairText names i j first later text
  unfolding IsLeastConflict
  pair_text names i j = by first_conflict.0 first_conflict.1
    where
      by : (r : Option Conflict) → IsLeastConflict (IsConflict first later) r → (text : List ℕ) × IsPairText names i j first later text
      by None none = (text_of (map (if_line names i j) tests.0), tested tests.0 none tests.1)
      by (Some c) least = (written (never_line names i j c), never c (record { conflict = least.0; none_before = least.1 }))

-- so many texts in turn
in_turn : (P : ℕ → List ℕ → Type 0) (n : ℕ) → ((k : ℕ) → k < n → (text : List ℕ) × P k text) → (text : List ℕ) × InTurn P n text
in_turn P n each = (let t = upto n (λ k lt. each k lt) in (t.1.added, t.1.tells))
  where
    upto : (m : ℕ) → ((k : ℕ) → k < m → (text : List ℕ) × P k text) → (text : List ℕ) × GainsText (InTurn P m) [] text
    upto zero each = ([], turns_begin P [])
    upto (suc m) each = by (upto m (λ k lt. each k (let h = lt in omega (arith, h)))) (each m (omega arith))
      where
        by : (text : List ℕ) × GainsText (InTurn P m) [] text → (text : List ℕ) × P m text → (text : List ℕ) × GainsText (InTurn P (suc m)) [] text
        by before here =
            let next : m + 1 ≡ suc m = omega arith in (
              before.0 ++ here.0,
              subst (λ n. GainsText (InTurn P n) [] (before.0 ++ here.0)) next
                  (turns_more P m [] before.0 (before.0 ++ here.0) before.1
                  (record { added = here.0; is = refl; tells = here.1 })),
            )

-- what stands at a place
item : (ss : List Summary) (i : ℕ) → i < length ss → (s : Summary) × (slice_get ss i ≡ Some s)
item [] i lt = absurd (let h = lt in omega (arith, h))
item (s ∷ ss) zero lt = (s, refl)
item (s ∷ ss) (suc i) lt = item ss i (let h = lt in omega (arith, h))

-- the text of the pairs
pairs_text : (names : Names) (ss : List Summary) → (text : List ℕ) × ArePairs names ss text
pairs_text names ss = in_turn (IsTextOfFirst names ss) (length ss) (λ i lt. of_first i (item ss i lt))
  where
    with_later : (i j : ℕ) (one : Summary) → (s : Summary) × (slice_get ss j ≡ Some s) → (text : List ℕ) × IsTextWith names ss i one j text
    with_later i j one other = (let t = pair_text one other.0 names i j in (t.0, record { later = other.0; there = other.1; tells = t.1 }))

    of_first : (i : ℕ) → (s : Summary) × (slice_get ss i ≡ Some s) → (text : List ℕ) × IsTextOfFirst names ss i text
    of_first i one = (let t = in_turn (IsTextWith names ss i one.0) (length ss)
        (λ j lt. with_later i j one.0 (item ss j lt)) in (t.0, record { first = one.0; there = one.1; tells = t.1 }))

-- the text of the analysis
pub analysis : (x : Exchange) (ss : List Summary) → (text : List ℕ) × IsAnalysis x ss text
analysis x ss =
    let names = names_of x.blocks in
    let p = pairs_text names ss in
    (entries_text x names ss ++ p.0 ++ written (codes "END PAIRS"), record { pairs = p.0; tells = p.1; is = refl })
