use Rattle.std.proofs.Common.{◌∙◌, subst, sym}
use Rattle.fact_rows.specs.Known.{HasSpot}
use Rattle.least_facts.proofs.Filling.{item_there, values_begin, values_more, values_end}
use Rattle.least_facts.proofs.giving.give_values.Goals as goal

pub loop-value-init : goal.loop-value-init
loop-value-init c = values_begin c.args.rows.now c.args.entry c.args.to c.args.slot c.args.values.now

pub give_value-requires-clause-entry : goal.give_value-requires-clause-entry
give_value-requires-clause-entry c = c.loop-value.invariant.entry ∙ c.requires.entry

pub give_value-requires-clause-spot : goal.give_value-requires-clause-spot
give_value-requires-clause-spot c = subst (λ l. HasSpot l c.args.to c.args.slot) (sym c.loop-value.invariant.slots) c.requires.spot

pub give_value-requires-clause-number : goal.give_value-requires-clause-number
give_value-requires-clause-number c = c.requires.number _ (item_there c.args.values.now c.loop-value.value-index _ c.loop-value-test.true)

pub loop-value-preserved : goal.loop-value-preserved
loop-value-preserved c = values_more c.args.rows.now c.loop-value.rows c.give_value.new.rows c.args.entry c.args.to
    c.args.slot c.args.values.now c.loop-value.value-index _ c.loop-value.grown c.in_ok-new.new c.loop-value-test.true
    c.in_ok-new.ensures c.loop-value.invariant

pub returns : goal.returns
returns c = values_end c.args.rows.now c.loop-value.rows c.args.entry c.args.to c.args.slot c.args.values.now
    c.loop-value.value-index c.loop-value.grown c.loop-value-test.false c.loop-value.invariant
