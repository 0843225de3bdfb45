-- What holds of two jobs that pass holds of two that may run at once.
use Rattle.std.proofs.Common.{◌≡◌, ◌≢◌, ℕ, ◌≤◌, true, List, sym, ◌∙◌}
use Rattle.std.specs.List.{AllByRecursion, Contains}
use Rattle.std.specs.Prelude.{◌↔◌}
use Rattle.plex_num.specs.declared.level.Level.{Level}
use Rattle.job_types.specs.declared.chain.Held.{Held}
use Rattle.job_types.specs.declared.job.JobStart.{JobStart}
use Rattle.job_types.specs.declared.outcome.JobDone.{JobDone}
use Rattle.job_types.specs.declared.touch.Touch.{Touch}
use Rattle.job_types.specs.Forlopps.{ChainMap}
use Rattle.job_types.specs.Own.{untouched}
use Rattle.job_types.specs.Touches.{NoStore, stored}
use Rattle.exchange_model.specs.declared.exchange.Exchange.{Exchange}
use Rattle.source_meaning.specs.Retirement.{release_world, retires}
use Rattle.source_meaning.specs.State.{State}
use Rattle.source_meaning.specs.Traces.{LeavesAlone}
use Rattle.source_meaning.specs.Valid.{IsFitting, IsRecord}
use Rattle.flow_points.specs.declared.fact.Fact.{Fact}
use Rattle.entry_summary.specs.declared.summary.Summary.{Summary}
use Rattle.entry_summary.specs.Orders.{level_number}
use Rattle.start_permit.specs.Granted.{MayRead, MayWrite}
use Rattle.permit_laws.specs.Permitted.{ArePermitted, MayHoldAll}
use Rattle.pair_laws.specs.Orders.{retirement_touches}
use Rattle.pair_laws.specs.Pairs.{IsDoneBy, LeavesChains, MayRunAtOnce}
use Rattle.pair_laws.proofs.Naming.{access_fits}
use Rattle.pair_laws.proofs.Cells.{AllFit}
use Rattle.pair_laws.proofs.Beside as beside
use Rattle.pair_laws.proofs.Beside.{AreBeside, is_not_above}
use Rattle.pair_laws.proofs.Living as living
use Rattle.pair_laws.proofs.Releasing as releasing
use Rattle.pair_laws.proofs.Retiring as retiring
use Rattle.pair_laws.proofs.Staying as staying
use Rattle.pair_laws.proofs.Storing as storing
use Rattle.pair_laws.proofs.Touching as touching

module _ (x : Exchange) (facts : List Fact) (s : State) (first later : Summary) (a b : JobStart) (h : MayRunAtOnce x facts s first later a b) where
  first_fit : AllFit x first
  first_fit one there = access_fits x h.exchange (Contains facts) a.job.entry one ((h.first_told.accesses one).0 there)

  later_fit : AllFit x later
  later_fit one there = access_fits x h.exchange (Contains facts) b.job.entry one ((h.later_told.accesses one).0 there)

  are_beside : AreBeside x s first later a b
  are_beside = record { state = h.state; first_fits = h.first_fits; later_fits = h.later_fits; first_fit = first_fit; later_fit = later_fit; passes = h.passes }

  pub writes_apart : (w : ℕ) → MayWrite x first a s.chains w → MayRead x later b s.chains w → ⊥
  writes_apart = beside.writes_apart x s first later a b are_beside

  pub reads_apart : (w : ℕ) → MayRead x first a s.chains w → MayWrite x later b s.chains w → ⊥
  reads_apart = beside.reads_apart x s first later a b are_beside

  pub some_forlopp : first.fault ≡ true → a.job.forlopp ≢ 0
  some_forlopp = beside.some_forlopp x s first later a b are_beside

  pub other_forlopp : first.fault ≡ true → a.job.forlopp ≢ b.job.forlopp
  other_forlopp = beside.other_forlopp x s first later a b are_beside

  pub not_above : (l : Level) → Contains first.levels l → level_number b.job.level ≤ level_number l
  not_above l there = is_not_above first later a b (h.later_told.level ∙ sym h.later_fits.job.level) h.passes l there

  pub first_alone : (ts us : List Touch) → ArePermitted x first a s.chains ts → ArePermitted x later b s.chains us → LeavesAlone ts us
  first_alone = touching.first_alone x s first later a b are_beside

  pub later_alone : (ts us : List Touch) → ArePermitted x first a s.chains ts → ArePermitted x later b s.chains us → LeavesAlone us ts
  later_alone = touching.later_alone x s first later a b are_beside

  pub release_apart : first.fault ≡ true → (held : List Held) (store : List ℕ) (w : ℕ)
      → AllByRecursion (IsRecord x) held → MayHoldAll first a s.chains held → MayRead x later b s.chains w
      → NoStore w (release_world x held (untouched store)).trace
  release_apart = releasing.release_apart x s first later a b are_beside

module _ (x : Exchange) (facts : List Fact) (s : State) (first later : Summary) (a b : JobStart) (chains : ChainMap)
    (h : MayRunAtOnce x facts s first later a b) (leaves : LeavesChains first a s.chains chains) where
  pub reads_stay : (w : ℕ) → MayRead x later b s.chains w ↔ MayRead x later b chains w
  reads_stay = staying.reads_stay x s first later a b chains (are_beside x facts s first later a b h) leaves

  pub writes_stay : (w : ℕ) → MayWrite x later b s.chains w ↔ MayWrite x later b chains w
  writes_stay = staying.writes_stay x s first later a b chains (are_beside x facts s first later a b h) leaves

module _ (x : Exchange) (facts : List Fact) (s : State) (first later : Summary) (a b : JobStart) (done : JobDone)
    (h : MayRunAtOnce x facts s first later a b) (d : IsDoneBy x first a s.chains done) where
  pub retired_store : (t : State) → (retires x a done t).store ≡ stored t.store (retirement_touches x done)
  retired_store = storing.retired_store x s first later a b done (are_beside x facts s first later a b h) d

  pub retirement_apart : (w : ℕ) → MayRead x later b s.chains w → NoStore w (retirement_touches x done)
  retirement_apart = storing.retirement_apart x s first later a b done (are_beside x facts s first later a b h) d

  pub chains_left : (t : State) → t.chains ≡ s.chains → LeavesChains first a s.chains (retires x a done t).chains
  chains_left = retiring.chains_left x s first later a b done (are_beside x facts s first later a b h) d

  pub start_fits : (t : State) → t.chains ≡ s.chains → t.dead ≡ s.dead → t.next ≡ s.next → IsFitting x (retires x a done t) b
  start_fits = living.start_fits x s first later a b done (are_beside x facts s first later a b h) d
