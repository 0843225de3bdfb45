use Rattle.std.proofs.lemmas.List.Filters.{dedup_is}
use Rattle.pair_tests.specs.contracts.pair.TestOrd.TheImpl.Laws.{matches_eq-law}
use Rattle.pair_tests.proofs.Tested.{ordered_rises, ordered_same}
use Rattle.pair_tests.proofs.asking.in_order.Goals as goal

pub returns-clause-same : goal.returns-clause-same
returns-clause-same c =
    ordered_same _ matches_eq-law c.args.tests _ _ _ c.from_vec.result c.into_vec-items.ensures
    c.sort.ensures.permutation (dedup_is _ _ _ c.dedup.ensures.filtered) c.from_vec.ensures

pub returns-clause-rising : goal.returns-clause-rising
returns-clause-rising c =
    ordered_rises _ matches_eq-law _ _ c.from_vec.result c.in-Ok.ensures.sorted (dedup_is _ _ _ c.dedup.ensures.filtered) c.from_vec.ensures
