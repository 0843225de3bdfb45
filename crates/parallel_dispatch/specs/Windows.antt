-- The contracts' view of the window.
use Rattle.std.specs.Prelude.{ℕ, List}
use Rattle.shared_store.specs.declared.view.Lent.{Lent}

-- the loans of the jobs in flight, the oldest first; the capacity; and the number of jobs that have
-- been in flight so far
pub record View : Type 0 where
  pub loans : List Lent
  pub room : ℕ
  pub flown : ℕ
