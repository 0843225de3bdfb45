use Rattle.std.proofs.Common.{sym, subst}
use Rattle.std.specs.List.{Contains}
use Rattle.fact_rows.specs.Numbers.{AreNumbers}
use Rattle.fact_rows.proofs.Listing.{points_in_order}
use Rattle.entry_additions.proofs.numbers.in_order.Goals as goal

pub returns : goal.returns
returns c =
    subst (AreNumbers (Contains c.args.numbers)) (sym c.from_vec.ensures)
    (points_in_order c.args.numbers c.into_vec-sorted.result.items c.sort_unstable.new.self.items c.dedup.new.self.items
    c.into_vec-sorted.ensures c.sort_unstable.ensures.permutation c.sort_unstable.ensures.sorted
    c.dedup.ensures.filtered)
