use Rattle.std.proofs.lemmas.List.Filters.{dedup_is}
use Rattle.fact_list.proofs.Ordering.{alike, same_facts, sorted_rising}
use Rattle.fact_list.proofs.order.in_order.Goals as goal

pub returns-clause-same : goal.returns-clause-same
returns-clause-same c =
    same_facts c.args.facts c.into_vec-sorted.result.items c.sort_unstable.new.self.items c.dedup.new.self.items
    c.from_vec.result c.into_vec-sorted.ensures c.sort_unstable.ensures.permutation
    (dedup_is alike c.sort_unstable.new.self.items c.dedup.new.self.items c.dedup.ensures.filtered)
    c.from_vec.ensures

pub returns-clause-rising : goal.returns-clause-rising
returns-clause-rising c =
    sorted_rising c.sort_unstable.new.self.items c.dedup.new.self.items c.from_vec.result c.sort_unstable.ensures.sorted
    (dedup_is alike c.sort_unstable.new.self.items c.dedup.new.self.items c.dedup.ensures.filtered)
    c.from_vec.ensures
