use Rattle.std.proofs.lemmas.List.Filters.{dedup_is}
use Rattle.entry_faults.proofs.Faulting.{alike, same_pointers}
use Rattle.entry_faults.proofs.statement.each_once.Goals as goal

pub returns : goal.returns
returns c =
    same_pointers c.args.pointers c.into_vec-each.result.items c.sort_unstable.new.self.items c.dedup.new.self.items
    c.from_vec.result c.into_vec-each.ensures c.sort_unstable.ensures.permutation
    (dedup_is alike c.sort_unstable.new.self.items c.dedup.new.self.items c.dedup.ensures.filtered)
    c.from_vec.ensures
