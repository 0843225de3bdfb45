use Rattle.std.proofs.lemmas.List.Filters.{dedup_is}
use Rattle.entry_accesses.proofs.Ordering.{alike_uses, same_uses}
use Rattle.entry_accesses.proofs.accesses.each_once.Goals as goal

pub returns : goal.returns
returns c =
    same_uses c.args.uses c.into_vec-each.result.items c.sort_unstable.new.self.items c.dedup.new.self.items
    c.from_vec.result c.into_vec-each.ensures c.sort_unstable.ensures.permutation
    (dedup_is alike_uses c.sort_unstable.new.self.items c.dedup.new.self.items c.dedup.ensures.filtered)
    c.from_vec.ensures
