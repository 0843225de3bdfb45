use Rattle.interference_check.proofs.Tabling.{asks_passes, never_passes}
use Rattle.interference_check.proofs.table.pass_by.Goals as goal

pub returns-in-Never : goal.returns-in-Never
returns-in-Never c = never_passes c.args.tests.now c.args.pair c.args.first.now c.args.later.now c.in-Never.is

pub returns-in-Asks : goal.returns-in-Asks
returns-in-Asks c =
    asks_passes c.args.tests.now c.between-own.result.now c.args.pair c.in-Asks.from c.in-Asks.to c.args.first.now
    c.args.later.now c.are_apart.result c.all_hold.result
    c.in-Asks.is c.between-own.ensures c.are_apart.ensures c.all_hold.ensures
