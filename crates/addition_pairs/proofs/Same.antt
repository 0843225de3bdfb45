-- The same is told exactly where the comparison says so.
use Rattle.std.proofs.Common.{◌≡◌, ◌↔◌, Bool, true, false, List, [], ◌∷◌, IsTrue, refl, sym, ap}
use Rattle.std.proofs.Common.{◌∙◌, subst, rules}
use Rattle.std.specs.Cmp.Lexicographic.{pointwise}
use Rattle.std.proofs.lemmas.Bool.{and_from, and_parts, true≢false}
use Rattle.pair_tests.specs.declared.pair.Conflict.{Conflict}
use Rattle.pair_tests.specs.declared.pair.Test.{Test}
use Rattle.pair_tests.specs.contracts.pair.ConflictEq.TheImpl.Laws as conflict_laws
use Rattle.pair_tests.specs.contracts.pair.ConflictPartialEq.TheImpl as conflicts
use Rattle.pair_tests.specs.contracts.pair.TestEq.TheImpl.Laws as test_laws
use Rattle.pair_tests.specs.contracts.pair.TestPartialEq.TheImpl as tests
use Rattle.addition_pairs.specs.declared.told.Told.{Told}
use Rattle.addition_pairs.specs.declared.told.Told.TheVariants.{Never, Asks}

same_conflict : (c d : Conflict) → conflicts.ghosts.eq c d ≡ true → c ≡ d
same_conflict c d is = search (rules, is)

same_test : (s t : Test) → tests.ghosts.eq s t ≡ true → s ≡ t
same_test s t is = search (rules, is)

same_items : {A : Type 0} (alike : A → A → Bool) → ((a b : A) → alike a b ≡ true → a ≡ b) → (some others : List A)
    → pointwise alike some others ≡ true → some ≡ others
same_items alike one [] [] is = refl
same_items alike one [] (b ∷ others) is = cc
same_items alike one (a ∷ some) [] is = cc
same_items alike one (a ∷ some) (b ∷ others) is =
    let both = and_parts (alike a b) (pointwise alike some others) is in
    ap (λ c. c ∷ some) (one a b both.0) ∙ ap (λ l. b ∷ l) (same_items alike one some others both.1)

items_same : {A : Type 0} (alike : A → A → Bool) → ((a : A) → alike a a ≡ true) → (some : List A) → pointwise alike some some ≡ true
items_same alike one [] = refl
items_same alike one (a ∷ some) = and_from (alike a a) (pointwise alike some some) (one a) (items_same alike one some)

pub tests_same : (some others : List Test) (r : Bool) → r ≡ pointwise tests.ghosts.eq some others → IsTrue r ↔ others ≡ some
tests_same some others r is = (
  (λ t. sym (same_items tests.ghosts.eq same_test some others (sym is ∙ t))),
  (λ same. is ∙ ap (pointwise tests.ghosts.eq some) same ∙ items_same tests.ghosts.eq test_laws.laws-law.refl some),
)

-- conflicts

abbrev conflict_in : (t : Told) → Conflict → Conflict
conflict_in (Never c) d = c
conflict_in (Asks tests) d = d

never_once : (c d : Conflict) → Never c ≡ Never d → c ≡ d
never_once c d is = ap (λ t. conflict_in t c) is

abbrev is_asking : Told → Bool
is_asking (Never c) = false
is_asking (Asks tests) = true

not_both : (c : Conflict) (tests : List Test) → Never c ≡ Asks tests → ⊥
not_both c tests is = true≢false (sym (ap is_asking is))

pub never_same : (t : Told) (own c : Conflict) (r : Bool) → t ≡ Never own → r ≡ conflicts.ghosts.eq own c → IsTrue r ↔ Never c ≡ t
never_same t own c r at is = (
  (λ told. ap Never (sym (same_conflict own c (sym is ∙ told))) ∙ sym at),
  (λ same. is ∙ ap (conflicts.ghosts.eq own) (never_once c own (same ∙ at)) ∙ conflict_laws.laws-law.refl own),
)

pub never_asks : (t : Told) (tests : List Test) (c : Conflict) → t ≡ Asks tests → IsTrue false ↔ Never c ≡ t
never_asks t tests c at = ((λ told. cc), (λ same. absurd (not_both c tests (same ∙ at))))

-- tests

abbrev tests_in : (t : Told) → List Test → List Test
tests_in (Never c) tests = tests
tests_in (Asks own) tests = own

asks_once : (a b : List Test) → Asks a ≡ Asks b → a ≡ b
asks_once a b is = ap (λ t. tests_in t a) is

pub asks_same : (t : Told) (own shown tests : List Test) (r : Bool) → t ≡ Asks own → shown ≡ own → (IsTrue r ↔ tests ≡ shown) → IsTrue r ↔ Asks tests ≡ t
asks_same t own shown tests r at is same = (
  (λ told. ap Asks (same.0 told ∙ is) ∙ sym at),
  (λ equal. same.1 (asks_once tests own (equal ∙ at) ∙ sym is)),
)

pub asks_never : (t : Told) (c : Conflict) (tests : List Test) → t ≡ Never c → IsTrue false ↔ Asks tests ≡ t
asks_never t c tests at = ((λ told. cc), (λ same. absurd (not_both c tests (sym (same ∙ at)))))

-- what is compared, by its variant

pub with_never : (one other : Told) (c : Conflict) (r : Bool) → one ≡ Never c → (IsTrue r ↔ Never c ≡ other) → IsTrue r ↔ one ≡ other
with_never one other c r at same = subst (λ t. IsTrue r ↔ t ≡ other) (sym at) same

pub with_asks : (one other : Told) (tests shown : List Test) (r : Bool) → one ≡ Asks tests → shown ≡ tests
    → (IsTrue r ↔ Asks shown ≡ other) → IsTrue r ↔ one ≡ other
with_asks one other tests shown r at is same = subst (λ t. IsTrue r ↔ t ≡ other) (ap Asks is ∙ sym at) same

-- any two

pub told_eq : Told → Told → Bool
told_eq (Never c) (Never d) = conflicts.ghosts.eq c d
told_eq (Never c) (Asks b) = false
told_eq (Asks a) (Never d) = false
told_eq (Asks a) (Asks b) = pointwise tests.ghosts.eq a b

pub told_is : (s t : Told) → IsTrue (told_eq s t) ↔ s ≡ t
unfolding told_eq
told_is (Never c) (Never d) = (
  (λ t. ap Never (same_conflict c d t)),
  (λ same. ap (conflicts.ghosts.eq c) (sym (never_once c d same)) ∙ conflict_laws.laws-law.refl c),
)
told_is (Never c) (Asks b) = ((λ t. cc), (λ same. absurd (not_both c b same)))
told_is (Asks a) (Never d) = ((λ t. cc), (λ same. absurd (not_both d a (sym same))))
told_is (Asks a) (Asks b) = (let s = tests_same a b (pointwise tests.ghosts.eq a b) refl in
    ((λ t. ap Asks (sym (s.0 t))), (λ same. s.1 (sym (asks_once a b same)))))
