use Rattle.fact_rows.proofs.Listing.{points_in_order}
use Rattle.fact_rows.proofs.rows.in_order.Goals as goal

pub returns : goal.returns
returns c = points_in_order c.args.points.now c.in-Ok.sorted.items c.sort_unstable.new.self.items c.dedup.new.self.items
    c.in-Ok.ensures.items c.sort_unstable.ensures.permutation c.sort_unstable.ensures.sorted c.dedup.ensures.filtered
