use Rattle.entry_accesses.proofs.Naming.{names_begin, names_more, relations_end, sides}
use Rattle.entry_accesses.proofs.operands.push_relations.Goals as goal

pub loop-relation-init : goal.loop-relation-init
loop-relation-init c = names_begin sides c.args.relations.now c.args.names.now

pub loop-relation-preserved : goal.loop-relation-preserved
loop-relation-preserved c = names_more sides c.args.relations.now c.loop-relation.relation-index c.relation-item.result
    c.args.names.now c.loop-relation.names c.push_both.new.names c.loop-relation-test.true c.relation-item.is
    c.in_ok-push_both.ensures c.loop-relation.invariant

pub returns : goal.returns
returns c = relations_end c.args.relations.now c.loop-relation.relation-index c.args.names.now c.loop-relation.names
    c.loop-relation-test.false c.loop-relation.invariant
