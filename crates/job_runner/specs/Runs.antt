-- Which jobs may run on the shared words, and what comes back of one.
use Rattle.std.specs.Prelude.{◌≡◌, List, []}
use Rattle.std.specs.List.{AllByRecursion}
use Rattle.job_types.specs.declared.touch.Touch.{Touch}
use Rattle.machine_code.specs.Coded.{Code}
use Rattle.machine_code.specs.declared.permit.Permit.{Permit}
use Rattle.machine_code.specs.Permits.{may_read, may_write}
use Rattle.exchange_model.specs.declared.exchange.Exchange.{Exchange}
use Rattle.source_meaning.specs.Job.{job}
use Rattle.source_meaning.specs.State.{State}
use Rattle.source_meaning.specs.Traces.{trace_of}
use Rattle.source_meaning.specs.Valid.{IsValid, IsFitting}
use Rattle.machine_meaning.specs.Faithful.{Ends, MayMake, Means, begun, started}
use Rattle.machine_meaning.specs.Machine.{Machine}
use Rattle.machine_meaning.specs.Private.{Private}
use Rattle.shared_store.specs.declared.view.Lent.{Lent}
use Rattle.shared_store.specs.Seats.{JobView, StoreId}

-- each touch of the list is one that the permit lets be made
abbrev pub KeepsPermit : Permit → List Touch → Type 0
KeepsPermit p ts = AllByRecursion (MayMake (may_read p) (may_write p)) ts

-- a loan for a job: its base values are the stored words of a valid state which its start fits, and
-- each touch of the job there is one that its permit lets
pub record IsForJob (x : Exchange) (loan : Lent) : Type 0 where
  pub state : State
  pub valid : IsValid x state
  pub fitting : IsFitting x state loan.start
  pub store_is : state.store ≡ loan.base
  pub keeps : KeepsPermit loan.permit (trace_of x loan.start loan.base)

-- the seat of such a loan of this store has touched nothing, and the run is at the loan's start
pub record IsReady (x : Exchange) (code : Code) (store : StoreId) (seat : JobView)
    (run : Private) : Type 0 where
  pub home : seat.0 ≡ store
  pub untouched : seat.1.touches ≡ []
  pub run_is : run ≡ started code seat.1.lent.start
  pub loan : IsForJob x seat.1.lent

-- what comes back of a loan's job: the run is at the end to which the machine comes alone from the
-- loan's start on its base values, that end is what the job means, and the seat is that of the same
-- loan, with the touches of the job
pub record HasRun (x : Exchange) (code : Code) (store : StoreId) (loan : Lent) (seat : JobView)
    (run : Private) : Type 0 where
  pub end : Machine
  pub ends : Ends code.ops (begun (started code loan.start) loan.base) end
  pub run_is : run ≡ end.run
  pub means : Means (job x loan.start loan.base) end
  pub seat_is : seat ≡ (store, record { lent = loan; touches = trace_of x loan.start loan.base })
