use Rattle.interference_check.specs.Tables.{AreTold}
use Rattle.interference_check.proofs.table.has_partner.Given as goal

abbrev pub invariant-loop-other : goal.invariant-loop-other
invariant-loop-other l = AreTold l.checked l.learned.told l.learned.tests
