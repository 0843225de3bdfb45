use Rattle.fact_rows.proofs.Holding.{begun_ok, begun_kept}
use Rattle.fact_rows.proofs.rows.FactRows.begin.Goals as goal

pub invariant_of-self : goal.invariant_of-self
invariant_of-self c = begun_kept c.self.inside.grid.slots c.clear.new.self c.clear-2.new.self.items c.clear.ensures c.clear-2.ensures.items

pub returns : goal.returns
returns c = begun_ok c.args.self.now c.args.entry c.self.inside.entry c.self.inside.grid c.clear.new.self c.self.view_is c.clear.ensures
