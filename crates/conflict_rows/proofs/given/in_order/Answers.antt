use Rattle.std.proofs.lemmas.List.Filters.{dedup_is}
use Rattle.conflict_rows.proofs.Pointed.{alike, given_rising, given_same}
use Rattle.conflict_rows.proofs.given.in_order.Goals as goal

pub returns-clause-same : goal.returns-clause-same
returns-clause-same c =
    given_same c.args.rows c.into_vec-sorted.result.items c.sort_unstable.new.self.items c.dedup.new.self.items
    c.from_vec.result c.into_vec-sorted.ensures c.sort_unstable.ensures.permutation
    (dedup_is alike c.sort_unstable.new.self.items c.dedup.new.self.items c.dedup.ensures.filtered) c.from_vec.ensures

pub returns-clause-rising : goal.returns-clause-rising
returns-clause-rising c =
    given_rising c.sort_unstable.new.self.items c.dedup.new.self.items c.from_vec.result c.sort_unstable.ensures.sorted
    (dedup_is alike c.sort_unstable.new.self.items c.dedup.new.self.items c.dedup.ensures.filtered) c.from_vec.ensures
