use Rattle.source_meaning.proofs.Stepping.{every_step}
use Rattle.source_meaning.proofs.laws.steps_make_effects.Goals as goal

pub returns : goal.returns
returns c = every_step
