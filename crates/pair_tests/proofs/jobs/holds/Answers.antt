use Rattle.pair_tests.proofs.Holding.{held_test}
use Rattle.pair_tests.proofs.jobs.holds.Goals as goal

pub returns-in-HoldsNo : goal.returns-in-HoldsNo
returns-in-HoldsNo c =
    held_test c.args.a.now c.args.b.now c.args.test c.as_slice-in-HoldsNo.result.now c.in-HoldsNo.file
    c.holds_none.result c.in-HoldsNo.is c.as_slice-in-HoldsNo.ensures.items c.holds_none.ensures
