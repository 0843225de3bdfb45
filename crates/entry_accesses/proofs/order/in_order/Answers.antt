use Rattle.std.proofs.lemmas.List.Filters.{dedup_is}
use Rattle.entry_accesses.proofs.Ordering.{alike, sorted_rising, same_accesses}
use Rattle.entry_accesses.proofs.order.in_order.Goals as goal

pub returns-clause-same : goal.returns-clause-same
returns-clause-same c =
    same_accesses c.args.found c.into_vec-accesses.result.items c.sort_unstable.new.self.items c.dedup.new.self.items
    c.from_vec.result c.into_vec-accesses.ensures c.sort_unstable.ensures.permutation
    (dedup_is alike c.sort_unstable.new.self.items c.dedup.new.self.items c.dedup.ensures.filtered)
    c.from_vec.ensures

pub returns-clause-rising : goal.returns-clause-rising
returns-clause-rising c =
    sorted_rising c.sort_unstable.new.self.items c.dedup.new.self.items c.from_vec.result c.sort_unstable.ensures.sorted
    (dedup_is alike c.sort_unstable.new.self.items c.dedup.new.self.items c.dedup.ensures.filtered)
    c.from_vec.ensures
