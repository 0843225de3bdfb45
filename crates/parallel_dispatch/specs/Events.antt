-- The dispatcher's window as a state of the core of events.
use Rattle.std.specs.Prelude.{◌≡◌, ℕ, ◌+◌, ◌%◌, ◌^◌, List, [], ◌∷◌, map}
use Rattle.machine_code.specs.Coded.{Code}
use Rattle.exchange_model.specs.declared.exchange.Exchange.{Exchange}
use Rattle.source_meaning.specs.Arrivals.{arrivals}
use Rattle.source_meaning.specs.SingleRun.{after}
use Rattle.source_meaning.specs.State.{State}
use Rattle.machine_meaning.specs.Faithful.{started}
use Rattle.run_books.specs.Accounts.{Account}
use Rattle.checked.specs.Kept.{KeptSummaries}
use Rattle.interleave_core.specs.declared.event.CoreEvent.{CoreEvent}
use Rattle.interleave_core.specs.declared.event.CoreEvent.TheVariants.{Issue}
use Rattle.interleave_core.specs.declared.window.WindowJob.{WindowJob}
use Rattle.interleave_core.specs.Cores.{Core, core_of}
use Rattle.interleave_core.specs.Runs.{Runs, Setting, setting}
use Rattle.shared_store.specs.declared.view.Lent.{Lent}
use Rattle.shared_store.specs.declared.view.Top.{Top}
use Rattle.parallel_dispatch.specs.Flying.{Fly}
use Rattle.parallel_dispatch.specs.Made.{AllMake}
use Rattle.parallel_dispatch.specs.Turning.{steps_in, turn_of}

-- the jobs of these loans, each before its first instruction
abbrev pub standing : Code → List Lent → List WindowJob
standing code loans =
    map (λ (l : Lent). record { start = l.start; run = started code l.start }) loans

-- a job is issued, executes its instructions to the end, and retires
abbrev pub whole_turn : ℕ → ℕ → List CoreEvent
whole_turn count job = Issue ∷ turn_of count job

-- the state of the core of events that books, root and loans show after `retired` retirements: the
-- words are the root's values, and each job in flight is at its start
abbrev pub shown : Code → Account → Top → List Lent → ℕ → Core
shown code books top loans retired = core_of books top.values (standing code loans) retired

-- the state of the core of events before the first event: the arrivals that were due have taken
-- place
abbrev pub first_core : Exchange → State → ℕ → Core
first_core x first limit =
    record { state = arrivals x first; limit = limit; window = []; retired = 0 }

-- the next job is issued, however many have retired before
abbrev pub IsIssued : Setting → Account → Top → List Lent → Account → Top → List Lent → Type 0
IsIssued k books top loans next now left = (retired : ℕ)
    → Runs k (Issue ∷ []) (shown k.code books top loans retired)
    (shown k.code next now left retired)

-- these events lead from the state shown before to the one shown after one more retirement, however
-- many jobs have retired before; `made` of them are instructions, modulo 2^64
pub record IsLed (k : Setting) (events : ℕ → ℕ → List CoreEvent) (books : Account) (top : Top)
    (loans : List Lent) (next : Account) (now : Top) (left : List Lent) (made : ℕ) : Type 0 where
  pub count : ℕ
  pub counted : (job : ℕ) → made ≡ steps_in (events count job) % 2 ^ 64
  pub runs : (retired : ℕ) → Runs k (events count (retired + 1))
      (shown k.code books top loans retired) (shown k.code next now left (retired + 1))

-- the invariant of the dispatcher's window: books, root values and loans show a state of the core
-- of events, with each lent job at its start, that allowed events reach from this first state
-- (`steps` of them instructions, modulo 2^64); and the loans satisfy the rule of docs/THREADS.md
pub record IsReached (x : Exchange) (k : KeptSummaries) (code : Code) (workers : ℕ) (first : State)
    (limit : ℕ) (books : Account) (top : Top) (loans : List Lent) (steps : ℕ) : Type 0 where
  pub retired : ℕ
  pub events : List CoreEvent
  pub runs : Runs (setting x code k workers) events (first_core x first limit)
      (shown code books top loans retired)
  pub counted : steps ≡ steps_in events % 2 ^ 64
  pub limited : books.limit ≡ limit
  pub fly : Fly x k (after x first retired) books top loans
  pub made : AllMake x code first retired steps
