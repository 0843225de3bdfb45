-- The books of an exchange that keeps several jobs at once follow the single run.
use Rattle.std.proofs.Common.{◌≡◌, ℕ, ◌+◌, List, [], ◌∷◌, ◌++◌, length, Some, refl, sym, ap, ◌∙◌}
use Rattle.std.proofs.Common.{subst, arith}
use Rattle.std.specs.List.{AllByRecursion}
use Rattle.job_types.specs.declared.job.JobStart.{JobStart}
use Rattle.job_types.specs.Forlopps.{is_dead}
use Rattle.exchange_model.specs.declared.exchange.Exchange.{Exchange}
use Rattle.source_meaning.proofs.States.{IsLater, may_later}
use Rattle.source_meaning.specs.Arrivals.{arrivals}
use Rattle.source_meaning.specs.Job.{job}
use Rattle.source_meaning.specs.Retirement.{retires}
use Rattle.source_meaning.specs.SingleRun.{begun, ended_as, next_start, turn}
use Rattle.source_meaning.specs.State.{State}
use Rattle.source_meaning.specs.Valid.{IsFitting, IsValid}
use Rattle.order_laws.specs.Books.{AreAhead, MayRetire, settles}
use Rattle.order_laws.specs.Ends.{words_left}
use Rattle.order_laws.specs.Keeps.{NoLineBefore}
use Rattle.order_laws.specs.Picks.{all_begun}
use Rattle.order_laws.specs.Windows.{IsWindow, MakesWay, done_by, jobs_of}
use Rattle.order_laws.proofs.Arriving.{arrivals_keep}
use Rattle.order_laws.proofs.Moving.{jobs_more, window_books, window_first, window_fits}
use Rattle.order_laws.proofs.Moving.{window_grows, window_none, window_quiet, window_retired}
use Rattle.order_laws.proofs.Picking.{picks_left}
use Rattle.order_laws.proofs.Starting.{next_over}
use Rattle.order_laws.proofs.Wording.{arrivals_over, over, retire_over}
use Rattle.plex_num.proofs.Lists.{all_weaker}

-- books over whatever words
ahead_over : (x : Exchange) (s : State) (starts : List JobStart) (words : List ℕ) (books : State) → IsWindow x s starts
    → books ≡ over words (all_begun (jobs_of starts) s) → AreAhead x s starts books
ahead_over x s starts words books w is = record
    { window = w; same = is ∙ ap (λ vs. over vs (all_begun (jobs_of starts) s)) (sym (ap (λ (t : State). t.store) is)) }

pub ahead_none : (x : Exchange) (s : State) (words : List ℕ) → AreAhead x s [] (over words s)
ahead_none x s words = record { window = window_none x s; same = refl }

pub ahead_words : (x : Exchange) (s : State) (starts : List JobStart) (books : State) (words : List ℕ)
    → AreAhead x s starts books → AreAhead x s starts (over words books)
ahead_words x s starts books words h = record { window = h.window; same = ap (over words) h.same }

jobs_one_more : (s : State) (starts : List JobStart) (start : JobStart) → all_begun (jobs_of (starts ++ start ∷ [])) s ≡ begun (all_begun (jobs_of starts) s)
jobs_one_more s starts start =
    ap (λ js. all_begun js s) (jobs_more starts start)
    ∙ ap (λ w. record s { waiting = w }) (picks_left s.waiting (jobs_of starts) start.job)

-- one more begins
pub ahead_issue : (x : Exchange) (s : State) (starts : List JobStart) (books : State) (start : JobStart)
    → AreAhead x s starts books → next_start books ≡ Some start
    → AllByRecursion (λ (older : JobStart). MakesWay x older start) starts
    → NoLineBefore (books.ended + length starts + 1) books.lines → AreAhead x s (starts ++ start ∷ []) (begun books)
ahead_issue x s starts books start h next new none =
    let t = all_begun (jobs_of starts) s in
    let ended : books.ended ≡ s.ended = ap (λ (r : State). r.ended) h.same in
    let lines : books.lines ≡ s.lines = ap (λ (r : State). r.lines) h.same in
    let first : next_start t ≡ Some start = sym (next_over t books.store) ∙ ap next_start (sym h.same) ∙ next in
    let before = subst (λ ls. NoLineBefore (books.ended + length starts + 1) ls) lines none in
    let grown = window_grows x s starts start h.window first new (subst (λ n. NoLineBefore (n + length starts + 1) s.lines) ended before) in
    ahead_over x s (starts ++ start ∷ []) books.store (begun books) grown (ap begun h.same ∙ ap (over books.store) (sym (jobs_one_more s starts start)))

-- the forlopps of all of them live in the books
pub ahead_live : (x : Exchange) (s : State) (starts : List JobStart) (books : State) → IsValid x s
    → AreAhead x s starts books → AllByRecursion (MayRetire books) starts
ahead_live x s starts books v h =
    let next : books.next ≡ s.next = ap (λ (r : State). r.next) h.same in
    let dead = ap (λ (r : State). r.dead) h.same in
    let later : IsLater s books = record { next = omega arith; dead = λ n alive. ap (λ d. is_dead d n) dead ∙ alive } in
    all_weaker (IsFitting x s) (MayRetire books) starts (λ start fits. may_later later start.job.forlopp fits.forlopp) (window_fits x s starts v h.window)

module _ (x : Exchange) (s : State) (v : IsValid x s) (oldest : JobStart) where
  abbrev words_then : List ℕ → List ℕ
  words_then words = words_left x oldest.job.forlopp (done_by (job x oldest s.store)).outcome (done_by (job x oldest s.store)).chain s.chains words

  abbrev retired : State
  retired = ended_as x oldest (job x oldest s.store) (begun s)

  retired_books : (rest : List JobStart) (books : State) → AreAhead x s (oldest ∷ rest) books
      → retires x oldest (done_by (job x oldest s.store)) books ≡ over (words_then books.store) (all_begun (jobs_of rest) retired)
  retired_books rest books h = ap (retires x oldest (done_by (job x oldest s.store))) h.same ∙ window_books x s v oldest rest books.store h.window

  settled_books : (rest : List JobStart) (books : State) → AreAhead x s (oldest ∷ rest) books
      → settles x oldest (done_by (job x oldest s.store)) rest books ≡ over (words_then books.store) (all_begun (jobs_of rest) (turn x s))
  settled_books [] books h =
      ap (arrivals x) (retired_books [] books h)
      ∙ arrivals_over x retired (words_then books.store)
      ∙ ap (over (words_then books.store)) (sym (window_first x s oldest [] h.window))
  settled_books (next ∷ rest) books h =
      retired_books (next ∷ rest) books h
      ∙ ap (λ t. over (words_then books.store) (all_begun (jobs_of (next ∷ rest)) t)) (sym (window_quiet x s v oldest next rest h.window))

  settled_window : (rest : List JobStart) → IsWindow x s (oldest ∷ rest) → IsWindow x (turn x s) rest
  settled_window [] w = window_none x (turn x s)
  settled_window (next ∷ rest) w = subst (λ t. IsWindow x t (next ∷ rest)) (sym (window_quiet x s v oldest next rest w))
      (window_retired x s v oldest (next ∷ rest) w)

  -- the oldest retires
  pub ahead_retire : (rest : List JobStart) (books : State) → AreAhead x s (oldest ∷ rest) books
      → AreAhead x (turn x s) rest (settles x oldest (done_by (job x oldest s.store)) rest books)
  ahead_retire rest books h = ahead_over x (turn x s) rest (words_then books.store)
      (settles x oldest (done_by (job x oldest s.store)) rest books) (settled_window rest h.window)
      (settled_books rest books h)

  pub ahead_store : (rest : List JobStart) (books : State) → AreAhead x s (oldest ∷ rest) books
      → (settles x oldest (done_by (job x oldest s.store)) rest books).store ≡ words_then books.store
  ahead_store rest books h = ap (λ (t : State). t.store) (settled_books rest books h)

-- so does the single run
pub turn_store : (x : Exchange) (s : State) (oldest : JobStart) (rest : List JobStart) → IsWindow x s (oldest ∷ rest)
    → (turn x s).store ≡ words_left x oldest.job.forlopp (done_by (job x oldest s.store)).outcome
    (done_by (job x oldest s.store)).chain s.chains (job x oldest s.store).world.store
turn_store x s oldest rest w =
    ap (λ (t : State). t.store) (window_first x s oldest rest w)
    ∙ (arrivals_keep x (ended_as x oldest (job x oldest s.store) (begun s))).store
    ∙ ap (λ (t : State). t.store) (retire_over x oldest (done_by (job x oldest s.store)) (begun s) (job x oldest s.store).world.store)
