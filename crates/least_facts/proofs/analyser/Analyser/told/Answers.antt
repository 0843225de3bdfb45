use Rattle.least_facts.proofs.Telling.{least_told}
use Rattle.least_facts.proofs.analyser.Analyser.told.Goals as goal

pub returns : goal.returns
returns c = λ x e learned. least_told x e c.args.self.now.rows c.in_ok-told.told c.in_ok-told.ensures learned.rows
