use Rattle.entry_accesses.specs.Operands.{relation_names}
use Rattle.entry_accesses.proofs.Naming.{names_begin, choices_more, choices_end}
use Rattle.entry_accesses.proofs.operands.push_choices.Goals as goal

pub loop-relations-init : goal.loop-relations-init
loop-relations-init c = names_begin relation_names c.args.any.now c.args.names.now

pub loop-relations-preserved : goal.loop-relations-preserved
loop-relations-preserved c =
    choices_more c.args.any.now c.loop-relations.relations-index c.relations-item.result c.as_slice.result.now
    c.args.names.now c.loop-relations.names c.push_relations.new.names c.loop-relations-test.true
    c.relations-item.is c.as_slice.ensures c.in_ok-push_relations.ensures c.loop-relations.invariant

pub returns : goal.returns
returns c = choices_end c.args.any.now c.loop-relations.relations-index c.args.names.now c.loop-relations.names
    c.loop-relations-test.false c.loop-relations.invariant
