use Rattle.std.proofs.Common.{◌^◌, ◌∙◌, ap, subst}
use Rattle.std.proofs.lemmas.List.Elements.{All-more}
use Rattle.stmt_code.specs.Numbers.{AreBelow}
use Rattle.stmt_code.proofs.Numbered.{all_shown}
use Rattle.stmt_code.proofs.ranges.blocks_are_numbered.Goals as goal

pub loop-block-preserved : goal.loop-block-preserved
loop-block-preserved c = All-more (AreBelow (2 ^ 32)) c.as_slice-block-items.result.now c.loop-block.block-index
    c.block-item.result c.loop-block-test.true c.loop-block.invariant
    (subst (AreBelow (2 ^ 32)) c.block-item.is c.each_is_numbered.ensures)

pub returns : goal.returns
returns c = all_shown (AreBelow (2 ^ 32)) c.as_slice-block-items.result.now c.args.exchange.now.blocks
    c.loop-block.block-index (c.as_slice-block-items.ensures ∙ ap (λ x. x.blocks) c.exchange.view_is)
    c.loop-block-test.false c.loop-block.invariant
