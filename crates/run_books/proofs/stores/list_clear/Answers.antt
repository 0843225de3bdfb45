use Rattle.run_books.proofs.Listed.{cleared_more}
use Rattle.run_books.proofs.stores.list_clear.Goals as goal

pub loop-variable-preserved : goal.loop-variable-preserved
loop-variable-preserved c =
    cleared_more c.args.stores.now c.loop-variable.stores c.list_if_clear.new.stores c.args.first c.loop-variable.word
    c.args.variables.now c.loop-variable.variable-index c.variable-item.result c.loop-variable-test.true
    c.variable-item.is c.in_ok-list_if_clear.ensures c.loop-variable.invariant
