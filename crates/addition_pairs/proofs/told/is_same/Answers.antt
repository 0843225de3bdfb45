use Rattle.addition_pairs.proofs.Same.{with_asks, with_never}
use Rattle.addition_pairs.proofs.told.is_same.Goals as goal

pub returns-in-Never : goal.returns-in-Never
returns-in-Never c = with_never c.args.one.now c.args.other.now c.in-Never.conflict c.is_never.result c.in-Never.is c.is_never.ensures

pub returns-in-Asks : goal.returns-in-Asks
returns-in-Asks c = with_asks c.args.one.now c.args.other.now c.in-Asks.tests c.as_slice.result.now c.asks.result c.in-Asks.is c.as_slice.ensures c.asks.ensures
