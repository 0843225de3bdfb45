use Rattle.entry_accesses.specs.Numbered.{IsNumbered}
use Rattle.entry_accesses.specs.Operands.{named}
use Rattle.entry_accesses.proofs.Using.{numbered_at, reads_item, reads_end}
use Rattle.entry_accesses.proofs.uses.push_reads.Goals as goal

pub push_operand-requires-clause-numbered : goal.push_operand-requires-clause-numbered
push_operand-requires-clause-numbered c = numbered_at (IsNumbered c.args.here.now.exchange.now c.args.here.now.block)
    named c.args.names.now c.loop-name.name-index _ c.requires.numbered c.loop-name-test.true

pub loop-name-preserved : goal.loop-name-preserved
loop-name-preserved c = reads_item c.args.here.now.exchange.now c.args.here.now.block c.args.names.now
    c.loop-name.name-index _ c.args.uses.now c.loop-name.uses c.push_operand.new.uses c.loop-name-test.true
    c.in_ok-push_operand.ensures c.loop-name.invariant

pub returns : goal.returns
returns c = reads_end c.args.here.now.exchange.now c.args.here.now.block c.args.names.now c.loop-name.name-index
    c.args.uses.now c.loop-name.uses c.loop-name-test.false c.loop-name.invariant
