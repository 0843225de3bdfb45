use Rattle.interleave_core.specs.Cores.{running_core}
use Rattle.interleave_core.proofs.Enabling.{no_step}
use Rattle.interleave_core.proofs.enabled.may_step.Goals as goal

pub returns-in-None : goal.returns-in-None
returns-in-None c = no_step (running_core c.args.core.now) c.args.job c.in-None.ensures
