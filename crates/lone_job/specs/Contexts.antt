-- The context of a run.
use Rattle.std.specs.Prelude.{◌<◌}
use Rattle.store_layout.specs.Laid.{IsLayout}
use Rattle.checked.specs.Kept.{IsChecked}
use Rattle.machine_meaning.specs.Faithful.{Faithful}
use Rattle.lone_job.specs.declared.context.RunContext.{RunContext}

-- layout, code and kept summaries are those of the exchange, and at least one job may run at a time
pub record IsContext (c : RunContext) : Type 0 where
  pub laid : IsLayout c.exchange.now.blocks c.layout.now
  pub faithful : Faithful c.exchange.now c.code.now
  pub checked : IsChecked c.exchange.now c.checked.now
  pub some : 0 < c.workers
