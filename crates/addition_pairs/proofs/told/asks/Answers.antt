use Rattle.addition_pairs.proofs.Same.{asks_never, asks_same}
use Rattle.addition_pairs.proofs.told.asks.Goals as goal

pub returns-in-Never : goal.returns-in-Never
returns-in-Never c = asks_never c.args.told.now c.in-Never.field-0 c.args.tests.now c.in-Never.is

pub returns-in-Asks : goal.returns-in-Asks
returns-in-Asks c = asks_same c.args.told.now c.in-Asks.own c.as_slice.result.now c.args.tests.now c.are_same.result
    c.in-Asks.is c.as_slice.ensures c.are_same.ensures
