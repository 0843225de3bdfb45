use Rattle.pair_tests.proofs.Skipping.{sooner_passed}
use Rattle.pair_tests.proofs.skip.next_sooner.Goals as goal

pub next_near-requires-clause-there : goal.next_near-requires-clause-there
next_near-requires-clause-there c = (c.next_early-early.ensures c.args.others.now).there

pub returns : goal.returns
returns c = sooner_passed c.args.ones.now c.args.others.now c.args.first c.args.place c.next_early-early.result
    c.next_near.result (c.next_early-early.ensures c.args.others.now) c.next_near.ensures
