use Rattle.fact_rows.proofs.Keying.{facts_ok}
use Rattle.fact_rows.proofs.rows.FactRows.facts.Goals as goal

pub returns : goal.returns
returns c = facts_ok c.args.self.now c.self.inside.entry c.self.inside.grid c.self.inside.touched.items
    c.in_ok-points.points.items c.deref.result.now c.listed.result c.self.view_is c.self.invariant
    c.in_ok-points.ensures c.deref.ensures.value c.listed.ensures
