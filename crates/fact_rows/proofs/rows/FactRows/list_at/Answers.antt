use Rattle.fact_rows.proofs.Keying.{point_ok}
use Rattle.fact_rows.proofs.rows.FactRows.list_at.Goals as goal

pub returns : goal.returns
returns c = point_ok c.args.self.now c.self.inside.entry c.args.point c.self.inside.grid c.self.inside.touched.items
    c.clear.new.self.items c.push_point.new.facts.items c.self.view_is c.self.invariant c.clear.ensures.items
    c.in_ok-push_point.ensures
