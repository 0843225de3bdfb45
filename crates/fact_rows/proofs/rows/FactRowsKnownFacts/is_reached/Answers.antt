use Rattle.fact_rows.proofs.Holding.{reached_ok, unreached_ok}
use Rattle.fact_rows.proofs.rows.FactRowsKnownFacts.is_reached.Goals as goal

pub returns-then-entry-self : goal.returns-then-entry-self
returns-then-entry-self c = unreached_ok c.args.self.now c.args.entry c.self.inside.entry c.args.point c.self.inside.grid c.self.view_is c.if-entry-self.true

pub returns : goal.returns
returns c = reached_ok c.args.self.now c.args.entry c.self.inside.entry c.args.point c.self.inside.grid
    c.is_empty.result c.self.view_is c.if-entry-self.false c.is_empty.ensures
