-- Which records a job holds, by what its chain and the marks were when it began.
use Rattle.std.specs.Prelude.{◌≡◌, ◌⊎◌, ℕ, true, List, slice_index}
use Rattle.job_types.specs.declared.chain.Held.{Held}
use Rattle.job_types.specs.Chain.{holds}
use Rattle.exchange_model.specs.declared.exchange.Exchange.{Exchange}
use Rattle.exchange_model.specs.Cells.{Placed, mark_cell}
use Rattle.source_meaning.specs.Config.{Config}
use Rattle.source_meaning.specs.Retirement.{keeps_chain}
use Rattle.source_meaning.specs.State.{State}
use Rattle.source_meaning.specs.Valid.{ChainsFit, IsRecordAt, MarksFit}

-- a record that is held was in the chain, or was free and of a file that may be seized; and one
-- that is free was in the chain, or was free
pub record HoldsFrom (x : Exchange) (MaySeize : ℕ → Type 0) (chain : List Held) (store : List ℕ)
    (c : Config) : Type 0 where
  pub held : (file number : ℕ) (p : Placed) → IsRecordAt x file number p → p.file.forlopp ≡ true
      → holds c.own.chain file number ≡ true
      → (holds chain file number ≡ true) ⊎ (MaySeize file
      × (slice_index store (mark_cell p number) ≡ 0))
  pub free : (file number : ℕ) (p : Placed) → IsRecordAt x file number p → p.file.forlopp ≡ true
      → slice_index c.world.store (mark_cell p number) ≡ 0
      → (holds chain file number ≡ true) ⊎ (slice_index store (mark_cell p number) ≡ 0)

-- any file
abbrev pub AnyFile : ℕ → Type 0
AnyFile file = Unit {0}

-- a state in which a job of a forlopp has come so far: the words are its words, and its chain is
-- the forlopp's
abbrev pub running : ℕ → State → Config → State
running forlopp s c = keeps_chain forlopp c.own.chain (record s { store = c.world.store })

-- chains and marks fit one another in such a state
pub record RunningFits (x : Exchange) (s : State) : Type 0 where
  pub chains : ChainsFit x s
  pub marks : MarksFit x s
