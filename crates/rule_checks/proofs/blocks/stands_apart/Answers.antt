use Rattle.std.proofs.Common.{ap}
use Rattle.std.specs.Prelude.{not}
use Rattle.rule_checks.proofs.blocks.stands_apart.Goals as goal

pub returns-in-Retrieves : goal.returns-in-Retrieves
returns-in-Retrieves c = rw c.in-Retrieves.is (ap not c.asks.ensures)
