use Rattle.fact_rows.proofs.Keying.{points_ok}
use Rattle.fact_rows.proofs.rows.FactRows.points.Goals as goal

pub returns : goal.returns
returns c = points_ok c.args.self.now c.self.inside.entry c.self.inside.grid c.self.inside.touched.items
    c.deref.result.now c.in_ok-points.points.items c.self.view_is c.self.invariant c.deref.ensures.value
    c.in_ok-points.ensures
