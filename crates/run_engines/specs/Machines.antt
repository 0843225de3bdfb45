-- What a run of the register machine has left.
use Rattle.std.specs.Prelude.{◌≡◌, Some}
use Rattle.job_types.specs.declared.outcome.JobDone.{JobDone}
use Rattle.machine_meaning.specs.Private.{Private}

-- the run is over and leaves this
pub record Leaves (p : Private) (d : JobDone) : Type 0 where
  pub sends : p.own.sends ≡ d.sends
  pub chain : p.own.chain ≡ d.chain
  pub over : p.over ≡ Some d.outcome
