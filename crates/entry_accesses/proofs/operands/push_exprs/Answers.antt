use Rattle.source_meaning.specs.Named.{named_in}
use Rattle.entry_accesses.proofs.Naming.{names_begin, names_more, names_end}
use Rattle.entry_accesses.proofs.operands.push_exprs.Goals as goal

pub loop-value-init : goal.loop-value-init
loop-value-init c = names_begin named_in c.args.values.now c.args.names.now

pub loop-value-preserved : goal.loop-value-preserved
loop-value-preserved c = names_more named_in c.args.values.now c.loop-value.value-index c.value-item.result
    c.args.names.now c.loop-value.names c.push_expr.new.names c.loop-value-test.true c.value-item.is
    c.in_ok-push_expr.ensures c.loop-value.invariant

pub returns : goal.returns
returns c = names_end named_in c.args.values.now c.loop-value.value-index c.args.names.now c.loop-value.names c.loop-value-test.false c.loop-value.invariant
