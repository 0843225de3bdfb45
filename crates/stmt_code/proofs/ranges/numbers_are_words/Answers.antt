use Rattle.std.proofs.lemmas.List.Elements.{All-more}
use Rattle.machine_code.specs.declared.op.Op.TheVariants.{Stmt}
use Rattle.stmt_code.specs.Numbers.{AreNumbers}
use Rattle.stmt_code.proofs.Numbered.{all_shown}
use Rattle.stmt_code.proofs.ranges.numbers_are_words.Goals as goal

pub loop-op-preserved : goal.loop-op-preserved
loop-op-preserved c = All-more AreNumbers c.ops-op-items.result.now c.loop-op.op-index (Stmt 0) c.loop-op-test.true c.loop-op.invariant c.are_words.ensures

pub returns : goal.returns
returns c = all_shown AreNumbers c.ops-op-items.result.now c.args.code.now.ops c.loop-op.op-index c.ops-op-items.ensures
    c.loop-op-test.false c.loop-op.invariant
