use Rattle.std.proofs.Common.{◌++◌, ◌∙◌, ap}
use Rattle.fact_rows.specs.Places.{numbers_at}
use Rattle.fact_rows.specs.Touched.{facts_at, key}
use Rattle.fact_rows.proofs.Holding.{values_ok, none_ok}
use Rattle.fact_rows.proofs.rows.FactRowsKnownFacts.values.Goals as goal

pub returns-then-entry-self : goal.returns-then-entry-self
returns-then-entry-self c = none_ok c.args.self.now c.args.entry c.self.inside.entry c.args.point c.self.inside.grid
    c.args.slot c.new.result c.self.view_is c.if-entry-self.true c.new.ensures

pub returns : goal.returns
returns c =
    values_ok c.args.self.now c.args.entry c.self.inside.entry c.args.point c.self.inside.grid c.args.slot c.deref.result.now c.values_of.result
    c.self.view_is c.if-entry-self.false (c.deref.ensures.value ∙ c.in_ok-push_slot.ensures
    ∙ ap (λ l. l ++ facts_at c.args.entry (key c.args.point c.args.slot)
    (numbers_at c.self.inside.grid c.args.point c.args.slot)) c.new-facts.ensures.items) c.values_of.ensures
