use Rattle.addition_pairs.proofs.Same.{never_asks, never_same}
use Rattle.addition_pairs.proofs.told.is_never.Goals as goal

pub returns-in-Never : goal.returns-in-Never
returns-in-Never c = never_same c.args.told.now c.in-Never.own c.args.conflict c.eq.result c.in-Never.is c.eq.ensures

pub returns-in-Asks : goal.returns-in-Asks
returns-in-Asks c = never_asks c.args.told.now c.in-Asks.field-0 c.args.conflict c.in-Asks.is
