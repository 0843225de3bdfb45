use Rattle.std.proofs.Common.{ap, ◌∙◌}
use Rattle.job_types.specs.Forlopps.{with_dead}
use Rattle.forlopp_chain.specs.Kept.{Dying}
use Rattle.forlopp_chain.proofs.Maps.{dead_added}
use Rattle.forlopp_chain.proofs.dead.DeadNumbers.add.Goals as goal

pub returns-clause-dead : goal.returns-clause-dead
returns-clause-dead c = dead_added _ _ _ c.args.number (rw c.unwrap.ensures at c.insert.ensures.updates).0
    ∙ ap (λ (v : Dying). with_dead v.dead c.args.number) c.self.view_is
