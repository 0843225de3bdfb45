use Rattle.pair_tests.proofs.Skipping.{apart_passed}
use Rattle.conflict_rows.proofs.skip.apart_from.Goals as goal

pub returns : goal.returns
returns c =
    apart_passed c.args.ones.now c.args.others.now c.args.one c.near_access-low.result c.next_met.result c.args.writes
    c.access_at-next.result c.args.place c.count_below-from.result c.passed.result c.requires.ones c.requires.others
    c.requires.at c.near_access-low.ensures c.count_below-from.ensures c.access_at-next.ensures c.next_met.ensures
    c.passed.ensures
