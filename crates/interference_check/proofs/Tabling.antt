-- What is told of pairs, as one more comes, and what is looked up in it.
use Rattle.std.proofs.Common.{◌≡◌, ◌↔◌, ⊎_elim, ℕ, ◌-◌, ◌≤◌, Bool, false, IsTrue, ◌&&◌, List, []}
use Rattle.std.proofs.Common.{◌∷◌, ◌++◌, All, length, take, drop, get_or, Option, Some, None}
use Rattle.std.proofs.Common.{IfSome, MatchOption, slice_get, slice_range, sym, ap, ◌∙◌, subst}
use Rattle.std.proofs.Common.{arith, length-append}
use Rattle.std.specs.List.{Contains}
use Rattle.std.proofs.lemmas.Bool.{and_from, and_parts}
use Rattle.std.proofs.lemmas.List.{drop-append-le, length-drop, take-append-le}
use Rattle.std.proofs.lemmas.List.Elements.{All-contains, Contains-get_or}
use Rattle.std.proofs.lemmas.Option.{none-some}
use Rattle.plex_num.proofs.Lists.{get_push}
use Rattle.job_types.specs.declared.job.JobStart.{JobStart}
use Rattle.entry_summary.specs.declared.summary.Summary.{Summary}
use Rattle.pair_tests.specs.declared.pair.Test.{Test}
use Rattle.pair_tests.specs.Pairs.{TestHolds, IsTest, Passes}
use Rattle.checked.specs.Kept.{KeptSummaries}
use Rattle.interference_check.specs.declared.table.Pair.{Pair}
use Rattle.interference_check.specs.declared.table.Pair.TheVariants.{Never, Asks}
use Rattle.interference_check.specs.declared.table.Told.{Told}
use Rattle.interference_check.specs.Pairs.{OfPair}
use Rattle.interference_check.specs.Tables.{AreTold, HasTests, IsFound, IsRight, IsTold}
use Rattle.interference_check.specs.Tables.{StandWithin, TellsTests}

-- a range of a list stays as the list grows
range_grown : {A : Type 0} (xs more : List A) (from to : ℕ) → from ≤ to → to ≤ length xs → slice_range (xs ++ more) from to ≡ slice_range xs from to
range_grown xs more from to ordered within =
    ap (take (to - from)) (drop-append-le from xs more (omega (arith, ordered, within)))
    ∙ take-append-le (to - from) (drop from xs) more (let l = length-drop from xs in omega (arith, l, ordered, within))

tells_grown : (tests more : List Test) (pair : Pair) (s t : Summary) → TellsTests tests pair s t → TellsTests (tests ++ more) pair s t
tells_grown tests more Never s t h = h
tells_grown tests more (Asks from to) s t h = record {
  ordered = h.ordered;
  within = (let l = length-append tests more in let w = h.within in omega (arith, l, w));
  apart = h.apart;
  exact = subst (λ (l : List Test). (test : Test) → Contains l test ↔ IsTest s t test) (sym (range_grown tests more from to h.ordered h.within)) h.exact;
}

-- one more is told of two entries, or the list stays as it was

pub none_told : (k : KeptSummaries) (kept : List Told) (tests : List Test) → kept ≡ [] → AreTold k kept tests
none_told k kept tests none place told there = absurd (none-some told (ap (λ (l : List Told). slice_get l place) (sym none) ∙ there))

pub told_same : (k : KeptSummaries) (kept new : List Told) (tests : List Test) → new ≡ kept → AreTold k kept tests → AreTold k new tests
told_same k kept new tests same are = subst (λ (l : List Told). AreTold k l tests) (sym same) are

pub told_more : (k : KeptSummaries) (kept new : List Told) (tests : List Test) (one : Told) → new ≡ kept ++ one ∷ []
    → AreTold k kept tests → IsRight k tests one → AreTold k new tests
told_more k kept new tests one grown are right place told there =
    ⊎_elim (λ old. are place told old) (λ last. subst (IsRight k tests) last.1 right)
    (get_push kept one told place (ap (λ (l : List Told). slice_get l place) (sym grown) ∙ there))

-- what was told stays so as tests come

pair_grown : (k : KeptSummaries) (i j : ℕ) (tests more all : List Test) (pair : Pair) → all ≡ tests ++ more
    → OfPair k i j (TellsTests tests pair) → OfPair k i j (TellsTests all pair)
pair_grown k i j tests more all pair grown h = record {
  one = h.one;
  other = h.other;
  of_first = h.of_first;
  of_later = h.of_later;
  holds = subst (λ (l : List Test). TellsTests l pair h.one h.other) (sym grown) (tells_grown tests more pair h.one h.other h.holds);
}

right_grown : (k : KeptSummaries) (i j : ℕ) (tests more all : List Test) (pair : Option Pair) → all ≡ tests ++ more
    → IfSome pair (λ p. OfPair k i j (TellsTests tests p)) → IfSome pair (λ p. OfPair k i j (TellsTests all p))
right_grown k i j tests more all (Some p) grown h = pair_grown k i j tests more all p grown h
right_grown k i j tests more all None grown h = tt

told_grown : (k : KeptSummaries) (kept : List Told) (tests more all : List Test) → all ≡ tests ++ more → AreTold k kept tests → AreTold k kept all
told_grown k kept tests more all grown are place told there = right_grown k told.first told.later tests more all told.pair grown (are place told there)

pub told_after : (k : KeptSummaries) (kept : List Told) (s t : Summary) (tests all : List Test) (pair : Option Pair)
    → MatchOption pair (all ≡ tests) (IsTold s t tests all) → AreTold k kept tests → AreTold k kept all
told_after k kept s t tests all (Some p) adds are = told_grown k kept tests adds.more all adds.grown are
told_after k kept s t tests all None same are = subst (AreTold k kept) (sym same) are

pub right_now : (k : KeptSummaries) (first later : ℕ) (s t : Summary) (tests all : List Test) (pair : Option Pair)
    → slice_get k.summaries first ≡ Some s → slice_get k.summaries later ≡ Some t
    → MatchOption pair (all ≡ tests) (IsTold s t tests all) → IfSome pair (λ p. OfPair k first later (TellsTests all p))
right_now k first later s t tests all (Some p) of_first of_later adds =
    record { one = s; other = t; of_first = of_first; of_later = of_later; holds = adds.tells }
right_now k first later s t tests all None of_first of_later same = tt

-- what is told of two entries is told of those with the same summaries

pub told_alike : (k : KeptSummaries) (first later one other : ℕ) (tests all : List Test) (pair : Option Pair)
    → slice_get k.summaries one ≡ slice_get k.summaries first
    → slice_get k.summaries other ≡ slice_get k.summaries later
    → all ≡ tests → IfSome pair (λ p. OfPair k one other (TellsTests tests p)) → IfSome pair (λ p. OfPair k first later (TellsTests all p))
told_alike k first later one other tests all (Some p) like_first like_later same h = record {
  one = h.one;
  other = h.other;
  of_first = sym like_first ∙ h.of_first;
  of_later = sym like_later ∙ h.of_later;
  holds = subst (λ (l : List Test). TellsTests l p h.one h.other) (sym same) h.holds;
}
told_alike k first later one other tests all None like_first like_later same h = tt

pub found_tells : (k : KeptSummaries) (kept : List Told) (tests : List Test) (one other : ℕ) (told : Told)
    → AreTold k kept tests → IsFound kept one other told
    → IfSome told.pair (λ p. OfPair k one other (TellsTests tests p))
found_tells k kept tests one other told are found =
    subst (λ n. IfSome told.pair (λ p. OfPair k one n (TellsTests tests p))) found.later_is
    (subst (λ n. IfSome told.pair (λ p. OfPair k n told.later (TellsTests tests p))) found.first_is (are found.place told found.there))

pub shown_tells : (k own : KeptSummaries) (first later : ℕ) (tests shown : List Test) (pair : Pair) → own ≡ k
    → shown ≡ tests → OfPair own first later (TellsTests tests pair) → OfPair k first later (TellsTests shown pair)
shown_tells k own first later tests shown pair same all h =
    subst (λ (l : List Test). OfPair k first later (TellsTests l pair)) (sym all)
    (subst (λ (t : KeptSummaries). OfPair t first later (TellsTests tests pair)) same h)

pub is_found : (kept shown : List Told) (place first later : ℕ) (told : Told) → shown ≡ kept
    → slice_get shown place ≡ Some told → told.first ≡ first → told.later ≡ later → IsFound kept first later told
is_found kept shown place first later told same there first_is later_is = record {
  place = place;
  there = ap (λ (l : List Told). slice_get l place) (sym same) ∙ there;
  first_is = first_is;
  later_is = later_is;
}

-- the tests of a pair

tests_there : (tests : List Test) (pair : Pair) (s t : Summary) → TellsTests tests pair s t → HasTests tests pair
tests_there tests Never s t h = tt
tests_there tests (Asks from to) s t h = (h.ordered, h.within)

pub has_tests : (k : KeptSummaries) (first later : ℕ) (tests : List Test) (pair : Pair) → OfPair k first later (TellsTests tests pair) → HasTests tests pair
has_tests k first later tests pair h = tests_there tests pair h.one h.other h.holds

pub by_told : (k : KeptSummaries) (a b : JobStart) (tests : List Test) (pair : Pair) (r : Bool) → OfPair k a.job.entry b.job.entry (TellsTests tests pair)
    → ((s t : Summary) → TellsTests tests pair s t → IsTrue r ↔ Passes s t a b) → OfPair k a.job.entry b.job.entry (λ s t. IsTrue r ↔ Passes s t a b)
by_told k a b tests pair r h tells = record { one = h.one; other = h.other; of_first = h.of_first; of_later = h.of_later; holds = tells h.one h.other h.holds }

-- what a pair tells of two jobs

pub never_passes : (tests : List Test) (pair : Pair) (a b : JobStart) → pair ≡ Never → (s t : Summary)
    → TellsTests tests pair s t → IsTrue false ↔ Passes s t a b
never_passes tests pair a b is s t h = (
  (λ yes. cc),
  (λ passes. absurd ((subst (λ (p : Pair). TellsTests tests p s t) is h) passes.apart)),
)

pub asks_passes : (tests some : List Test) (pair : Pair) (from to : ℕ) (a b : JobStart) (apart hold : Bool)
    → pair ≡ Asks from to → some ≡ slice_range tests from to
    → (IsTrue apart ↔ (a.job.forlopp ≡ b.job.forlopp → a.job.forlopp ≡ 0)) → (IsTrue hold ↔ All (TestHolds a b) some)
    → (s t : Summary) → TellsTests tests pair s t → IsTrue (apart && hold) ↔ Passes s t a b
asks_passes tests some pair from to a b apart hold is range tells_apart tells s t told =
    let h : StandWithin tests from to s t = subst (λ (p : Pair). TellsTests tests p s t) is told in (
      (λ yes. let both = and_parts apart hold yes in record {
        apart = h.apart;
        tests = λ test asked. All-contains (TestHolds a b) some test (tells.0 both.1)
            (subst (λ (l : List Test). Contains l test) (sym range) ((h.exact test).1 asked));
        forlopps = tells_apart.0 both.0;
      }),
      (λ passes. and_from apart hold (tells_apart.1 passes.forlopps)
          (tells.1 (λ i d lt. passes.tests (get_or some i d)
          ((h.exact (get_or some i d)).0 (subst (λ (l : List Test). Contains l (get_or some i d)) range
          (Contains-get_or some i d lt)))))),
    )
