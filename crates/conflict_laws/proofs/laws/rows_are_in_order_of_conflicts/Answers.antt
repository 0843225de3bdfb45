use Rattle.conflict_laws.proofs.Ordered.{in_order}
use Rattle.conflict_laws.proofs.laws.rows_are_in_order_of_conflicts.Goals as goal

pub returns : goal.returns
returns c = λ first later rows are. in_order rows are.rising
