-- Which moves are allowed next.
use Rattle.std.proofs.Common.{◌≡◌, ◌≢◌, ℕ, ◌+◌, ◌<◌, ◌≤◌, Bool, List, [], ◌∷◌, length, Option, Some}
use Rattle.std.proofs.Common.{None, refl, sym, ap, ◌∙◌, subst, arith}
use Rattle.std.specs.Prelude.{IsTrue}
use Rattle.std.specs.List.{AllByRecursion}
use Rattle.std.proofs.lemmas.Option.{none-some, same_Some}
use Rattle.job_types.specs.declared.job.JobStart.{JobStart}
use Rattle.source_meaning.specs.State.{Coming}
use Rattle.checked.specs.Kept.{KeptSummaries}
use Rattle.order_laws.specs.Keeps.{NoLineBefore}
use Rattle.run_books.specs.Accounts.{Account, next_count, upcoming}
use Rattle.shared_store.specs.declared.view.Lent.{Lent}
use Rattle.parallel_dispatch.specs.Flying.{starts_of}
use Rattle.parallel_dispatch.specs.Moves.{MayFly, MayIssue, MayRunAlone}
use Rattle.interleave_core.specs.Allowed.{MayFollow}
use Rattle.parallel_dispatch.specs.Windows.{View}

-- ## Lines

line_far : (lines : List Coming) (count n : ℕ) → Some count ≡ next_count lines → n ≤ count → NoLineBefore n lines
line_far [] count n is le = tt
line_far (l ∷ rest) count n is le = subst (λ c. n ≤ c) (same_Some count l.after is) le

pub line_before : (lines : List Coming) (count ended flying : ℕ) (r : Bool) → Some count ≡ next_count lines
    → (IsTrue r → ended + flying < count) → IsTrue r → NoLineBefore (ended + flying + 1) lines
line_before lines count ended flying r is below t = (let lt = below t in line_far lines count (ended + flying + 1) is (omega (arith, lt)))

pub no_line : (lines : List Coming) (n : ℕ) → None ≡ next_count lines → NoLineBefore n lines
no_line [] n is = tt
no_line (l ∷ rest) n is = absurd (none-some l.after is)

-- ## The window

none_there : (loans : List Lent) → length loans ≡ 0 → loans ≡ []
none_there [] e = refl
none_there (l ∷ rest) e = absurd (omega (arith, e))

pub may_run_alone : (books : Account) (w : View) → length w.loans ≡ 0 → 0 < w.room
    → (w.loans ≡ [] → NoLineBefore (books.state.ended + 1) books.state.lines) → MayRunAlone books w
may_run_alone books w none some line = (let empty = none_there w.loans none in record { nobody = empty; room = some; line = line empty })

may_fly_alone : (k : KeptSummaries) (books : Account) (w : View) (start : JobStart) → Some start ≡ upcoming books
    → length w.loans ≡ 0 → 0 < w.room → (w.loans ≡ [] → NoLineBefore (books.state.ended + 1) books.state.lines)
    → MayFly k books w start
may_fly_alone k books w start is none some line =
    let empty = none_there w.loans none in
    let count : books.state.ended + 1 ≡ books.state.ended + length w.loans + 1 = omega (arith, none) in
    record {
      next = is;
      room = omega (arith, none, some);
      line = subst (λ n. NoLineBefore n books.state.lines) count (line empty);
      pass = subst (λ (ls : List Lent). AllByRecursion (λ (older : JobStart). MayFollow k older start) (starts_of ls)) (sym empty) tt;
    }

may_fly_beside : (k own : KeptSummaries) (books : Account) (w : View) (start : JobStart) (behind : ℕ)
    → Some start ≡ upcoming books → length w.loans < w.room
    → NoLineBefore (books.state.ended + length w.loans + 1) books.state.lines → own ≡ k
    → (behind ≡ 0 → AllByRecursion (λ (older : JobStart). MayFollow own older start) (starts_of w.loans)) → behind ≡ 0
    → MayFly k books w start
may_fly_beside k own books w start behind is lt line same pass none =
    record {
      next = is;
      room = lt;
      line = line;
      pass = subst (λ o. AllByRecursion (λ (older : JobStart). MayFollow o older start) (starts_of w.loans)) same
          (pass none);
    }

pub may_issue_alone : (k : KeptSummaries) (books : Account) (w : View) (start : JobStart) → Some start ≡ upcoming books
    → length w.loans ≡ 0 → 0 < w.room → (w.loans ≡ [] → NoLineBefore (books.state.ended + 1) books.state.lines)
    → MayIssue k books w
may_issue_alone k books w start is none some line = record { start = start; may = may_fly_alone k books w start is none some line }

pub may_issue_beside : (k own : KeptSummaries) (books : Account) (w : View) (start : JobStart) (behind : ℕ)
    → Some start ≡ upcoming books → length w.loans < w.room
    → NoLineBefore (books.state.ended + length w.loans + 1) books.state.lines → own ≡ k
    → (behind ≡ 0 → AllByRecursion (λ (older : JobStart). MayFollow own older start) (starts_of w.loans)) → behind ≡ 0
    → MayIssue k books w
may_issue_beside k own books w start behind is lt line same pass none = record
    { start = start; may = may_fly_beside k own books w start behind is lt line same pass none }

-- the job that may be issued is the next one, also once it was moved
pub next_flies : (k : KeptSummaries) (books : Account) (w : View) (start place next : JobStart) → MayIssue k books w
    → start ≡ place → place ≡ next → Some next ≡ upcoming books → MayFly k books w start
next_flies k books w start place next may here there is =
    subst (MayFly k books w) (same_Some may.start next (may.may.next ∙ sym is) ∙ sym there ∙ sym here) may.may

pub some_next : (k : KeptSummaries) (books : Account) (w : View) → MayIssue k books w → None ≡ upcoming books → ⊥
some_next k books w may none = none-some may.start (none ∙ sym may.may.next)

pub some_fly : (w : View) (o : Option JobStart) → length w.loans ≢ 0 → w.loans ≡ [] → None ≡ o
some_fly w o some is = absurd (some (ap length is))

pub some_wait : (w : View) (o : Option JobStart) (r : Bool) → (IsTrue r → 0 < length w.loans) → IsTrue r → w.loans ≡ [] → None ≡ o
some_wait w o r some t is = (let more = some t in let none : length w.loans ≡ 0 = ap length is in absurd (omega (arith, more, none)))

pub none_comes : (books : Account) (w : View) (o : Option JobStart) → o ≡ upcoming books → o ≡ None → w.loans ≡ [] → None ≡ upcoming books
none_comes books w o next is empty = sym is ∙ next
