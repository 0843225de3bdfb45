-- What a job stays within, by the summary of its entry, its start, and the chains of all forlopps
-- as it starts: the words that it may touch, the records that it may hold, and the levels to which
-- it may send.
use Rattle.std.specs.Prelude.{◌≡◌, ℕ, true, List}
use Rattle.std.specs.List.{AllByRecursion, Contains}
use Rattle.job_types.specs.declared.chain.Held.{Held}
use Rattle.job_types.specs.declared.job.JobStart.{JobStart}
use Rattle.job_types.specs.declared.outbox.Sent.{Sent}
use Rattle.job_types.specs.declared.outbox.SendTo.{SendTo}
use Rattle.job_types.specs.declared.outbox.SendTo.TheVariants.{Queue, Outside}
use Rattle.job_types.specs.declared.touch.Touch.{Touch}
use Rattle.job_types.specs.declared.touch.Touch.TheVariants.{Load, Store}
use Rattle.job_types.specs.Chain.{holds}
use Rattle.job_types.specs.Forlopps.{ChainMap}
use Rattle.exchange_model.specs.declared.exchange.Exchange.{Exchange}
use Rattle.entry_summary.specs.declared.summary.Summary.{Summary}
use Rattle.start_permit.specs.Granted.{MayHold, MayRead, MayWrite}

-- a load of a word that the job may read, or a store to one that it may write
abbrev pub IsPermitted : Exchange → Summary → JobStart → ChainMap → Touch → Type 0
IsPermitted x m start chains (Load w v) = MayRead x m start chains w
IsPermitted x m start chains (Store w v) = MayWrite x m start chains w

abbrev pub ArePermitted : Exchange → Summary → JobStart → ChainMap → List Touch → Type 0
ArePermitted x m start chains touches = AllByRecursion (IsPermitted x m start chains) touches

-- each record of the chain is one that the job may hold
abbrev pub MayHoldAll : Summary → JobStart → ChainMap → List Held → Type 0
MayHoldAll m start chains chain = (file number : ℕ) → holds chain file number ≡ true
    → MayHold m.accesses start.chain chains file number

-- a signal to a buffer goes to one of the levels of the summary
abbrev pub IsToLevel : Summary → SendTo → Type 0
IsToLevel m (Queue entry level fresh) = Contains m.levels level
IsToLevel m (Outside signal) = Unit {0}

abbrev pub AreToLevels : Summary → List Sent → Type 0
AreToLevels m sends = AllByRecursion (λ (s : Sent). IsToLevel m s.to) sends
