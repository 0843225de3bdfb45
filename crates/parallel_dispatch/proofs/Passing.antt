-- A job passes the tests with each of several older ones; the youngest of them is tested first.
use Rattle.std.proofs.Common.{◌≡◌, ℕ, zero, suc, ◌+◌, ◌-◌, ◌<◌, Bool, List, [], ◌∷◌, get_or, length}
use Rattle.std.proofs.Common.{drop, sym, ap, ◌∙◌, subst, arith}
use Rattle.std.specs.Prelude.{◌↔◌, IsTrue}
use Rattle.std.specs.List.{AllByRecursion}
use Rattle.std.proofs.lemmas.List.{drop_all, drop_more}
use Rattle.job_types.specs.declared.job.JobStart.{JobStart}
use Rattle.pair_tests.specs.Pairs.{Passes}
use Rattle.interference_check.specs.Pairs.{OfPair}
use Rattle.checked.specs.Kept.{KeptSummaries}
use Rattle.interleave_core.specs.Allowed.{MayFollow}
use Rattle.shared_store.specs.declared.view.Lent.{Lent}
use Rattle.parallel_dispatch.specs.Flying.{starts_of}
use Rattle.parallel_dispatch.specs.Moves.{FollowsAll, HasSummary}

-- what the result of the tests means
pub passes_by : (k : KeptSummaries) (a b : JobStart) (r : Bool)
    → OfPair k a.job.entry b.job.entry (λ m n. IsTrue r ↔ Passes m n a b) → IsTrue r → MayFollow k a b
passes_by k a b r of t = record { one = of.one; other = of.other; of_first = of.of_first; of_later = of.of_later; holds = of.holds.0 t }

-- the job passes the tests with the jobs of all these loans
abbrev pub PassAll : KeptSummaries → JobStart → List Lent → Type 0
PassAll k later loans = FollowsAll k (starts_of loans) later

pub passes_begin : (k : KeptSummaries) (later : JobStart) (loans : List Lent) (n : ℕ) → n ≡ length loans → PassAll k later (drop (n - 0) loans)
passes_begin k later loans n long = subst (PassAll k later) (sym (drop_all (n - 0) loans (omega (arith, long)))) tt

pub passes_more : (k own : KeptSummaries) (later : JobStart) (loans : List Lent) (n i place : ℕ) (l : Lent)
    → n ≡ length loans → i < n → place ≡ n - 1 - i → l ≡ get_or loans place l → own ≡ k → MayFollow own l.start later
    → PassAll k later (drop (n - i) loans) → PassAll k later (drop (n - (i + 1)) loans)
passes_more k own later loans n i place l long lt at is same one all =
    let within : place < length loans = omega (arith, long, lt, at) in
    let here : n - (i + 1) ≡ place = omega (arith, at) in
    let next : n - i ≡ place + 1 = omega (arith, lt, at) in
    subst (PassAll k later) (sym (ap (λ m. drop m loans) here ∙ drop_more loans place l within))
    (subst (λ (a : Lent). MayFollow k a.start later) is (subst (λ o. MayFollow o l.start later) same one), subst (λ m. PassAll k later (drop m loans)) next all)

pub passes_end : (k : KeptSummaries) (later : JobStart) (loans : List Lent) (n : ℕ) → PassAll k later (drop (n - n) loans) → PassAll k later loans
passes_end k later loans n all = (let none : n - n ≡ 0 = omega arith in subst (λ m. PassAll k later (drop m loans)) none all)

-- the kept summaries have one for the entry of each job
there_is : (k : KeptSummaries) (loans : List Lent) (place : ℕ) (l : Lent) → place < length loans
    → l ≡ get_or loans place l → AllByRecursion (HasSummary k) (starts_of loans) → HasSummary k l.start
there_is k [] place l within is all = absurd (omega (arith, within))
there_is k (one ∷ loans) zero l within is all = subst (λ (m : Lent). HasSummary k m.start) (sym is) all.0
there_is k (one ∷ loans) (suc place) l within is all = there_is k loans place l (omega (arith, within)) is all.1

pub summary_there : (k own : KeptSummaries) (loans : List Lent) (place : ℕ) (l : Lent) → own ≡ k → place < length loans
    → l ≡ get_or loans place l → AllByRecursion (HasSummary k) (starts_of loans) → HasSummary own l.start
summary_there k own loans place l same within is all = subst (λ m. HasSummary m l.start) (sym same) (there_is k loans place l within is all)
