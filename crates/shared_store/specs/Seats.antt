-- What contracts see of a store and of its seats.
use Rattle.std.specs.Prelude.{◌≡◌, ℕ, ◌+◌, ◌≤◌, [], length}
use Rattle.atomic_table.specs.Seated.{TableId}
use Rattle.atomic_table.specs.Table.{Me}
use Rattle.job_types.specs.declared.job.JobStart.{JobStart}
use Rattle.plex_num.specs.declared.level.Level.TheVariants.{A}
use Rattle.machine_code.specs.declared.permit.Permit.{Permit}
use Rattle.shared_store.specs.declared.view.Top.{Top}
use Rattle.shared_store.specs.declared.view.Hold.{Hold}
use Rattle.shared_store.specs.declared.view.View.{View}
use Rattle.shared_store.specs.declared.view.View.TheVariants.{Root, Loan}
use Rattle.shared_store.specs.Loans.{unlent, borrower}
use Rattle.shared_store.specs.Places.{place}
use Rattle.shared_store.specs.Sound.{Sound}

-- which store it is
abbrev pub StoreId : Type 0
StoreId = TableId

-- the seat of a loan: its store, and what it knows
abbrev pub JobView : Type 0
JobView = StoreId × Hold

-- the root's seat: its store, and what it knows
abbrev pub RootView : Type 0
RootView = StoreId × Top

-- a start and a permit that stand where there is no loan
abbrev pub no_start : JobStart
no_start = record { job = record { entry = 0; level = A; values = []; forlopp = 0 }; chain = [] }

abbrev pub no_permit : Permit
no_permit = record { reads = []; writes = [] }

-- what a view of the root knows
abbrev pub top_of : View → Top
top_of (Root t) = t
top_of _ = unlent []

-- what a view of a loan knows
abbrev pub hold_of : View → Hold
hold_of (Loan h) = h
hold_of _ = borrower no_start no_permit (unlent [])

-- the seat of a loan holds no slot of the table, has one base value for each cell, and its touches
-- are sound
pub record IsJobSeat (table : TableId) (me : Me (Unit {0}) View) : Type 0 where
  pub loan : me ≡ (Loan (hold_of me.0), [])
  pub cells : place table.slots (length (hold_of me.0).lent.base) ≡ table.words
  pub sound : Sound (hold_of me.0).lent.permit (hold_of me.0).lent.base (hold_of me.0).touches

-- the root's seat holds no slot of the table, and has one value for each cell
pub record IsRootSeat (table : TableId) (me : Me (Unit {0}) View) : Type 0 where
  pub root : me ≡ (Root (top_of me.0), [])
  pub cells : place table.slots (length (top_of me.0).values) ≡ table.words

-- from the place of one cell to that of the next there are so many words, which are a line at most
pub record IsStride (stride : ℕ) (table : TableId) : Type 0 where
  pub apart : stride ≡ table.slots + 1
  pub short : stride ≤ 8
