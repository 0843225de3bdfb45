-- The root's list of loans, and what a loan's seat sees.
--
-- A loan is told from the others by its number. The root has the newest loan first, which nobody
-- relies on. What a seat sees is a list of values again, so that a run over the seat starts from
-- one and ends in one.
use Rattle.std.specs.Prelude.{◌≡◌, ◌≢◌, ◌⊎◌, ℕ, suc, ◌+◌, Bool, false, ◌==◌, ◌||◌, if◌then◌else◌}
use Rattle.std.specs.Prelude.{List, [], ◌∷◌, ◌++◌, slice_set}
use Rattle.job_types.specs.declared.job.JobStart.{JobStart}
use Rattle.machine_code.specs.declared.permit.Permit.{Permit}
use Rattle.job_types.specs.declared.touch.Touch.{Touch}
use Rattle.machine_code.specs.Permits.{may_write, may_read, Apart}
use Rattle.job_types.specs.Touches.{stored}
use Rattle.shared_store.specs.declared.view.Lent.{Lent}
use Rattle.shared_store.specs.declared.view.Top.{Top}
use Rattle.shared_store.specs.declared.view.Hold.{Hold}

-- l is in the list
abbrev pub Has : List Lent → Lent → Type 0
Has [] l = ⊥
Has (x ∷ xs) l = (x ≡ l) ⊎ Has xs l

-- no two loans of the list have one number
abbrev pub Differ : List Lent → Type 0
Differ [] = Unit {0}
Differ (x ∷ xs) = ((l : Lent) → Has xs l → x.number ≢ l.number) × Differ xs

-- some loan may write the word
abbrev pub lent_out : List Lent → ℕ → Bool
lent_out [] w = false
lent_out (l ∷ ls) w = may_write l.permit w || lent_out ls w

-- some loan may read the word, or write it
abbrev pub seen_by : List Lent → ℕ → Bool
seen_by [] w = false
seen_by (l ∷ ls) w = may_read l.permit w || seen_by ls w

-- a number that no loan of the list has
abbrev pub fresh : List Lent → ℕ
fresh [] = 0
fresh (l ∷ ls) = suc l.number + fresh ls

-- the list without the loan of the number n
abbrev pub without : ℕ → List Lent → List Lent
without n [] = []
without n (l ∷ ls) = if n == l.number then without n ls else l ∷ without n ls

-- a root of these values that has lent nothing
abbrev pub unlent : List ℕ → Top
unlent values = record { values = values; loans = [] }

-- a new loan of this start and permit; its base values are the root's
abbrev pub lent : Top → JobStart → Permit → Lent
lent t start permit = record {
  number = fresh t.loans;
  start = start;
  permit = permit;
  base = t.values;
}

-- the root after that loan
abbrev pub lender : JobStart → Permit → Top → Top
lender start permit t = record t { loans = lent t start permit ∷ t.loans }

-- the seat of that loan, which has touched nothing
abbrev pub borrower : JobStart → Permit → Top → Hold
borrower start permit t = record { lent = lent t start permit; touches = [] }

-- the values as the seat sees them: its own last store to a word, or else the base value
abbrev pub current : Hold → List ℕ
current h = stored h.lent.base h.touches

-- the seat after one touch more
abbrev pub touched : Hold → Touch → Hold
touched h t = record h { touches = h.touches ++ t ∷ [] }

-- the root after the loan has come back: it has the last stored values, and that loan no more
abbrev pub taken_back : Top → Hold → Top
taken_back t h = record {
  values = stored t.values h.touches;
  loans = without h.lent.number t.loans;
}

-- the root after it gave a word this value
abbrev pub with_value : Top → ℕ → ℕ → Top
with_value t w v = record t { values = slice_set t.values w v }

-- no word that a loan of the list may write is in the permit, and none that the permit lets be
-- written is in a loan's
abbrev pub FitsBeside : List Lent → Permit → Type 0
FitsBeside ls p = (l : Lent) → Has ls l → Apart l.permit p
