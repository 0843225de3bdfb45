use Rattle.std.proofs.Common.{◌^◌, subst}
use Rattle.std.proofs.lemmas.List.Elements.{All-more}
use Rattle.stmt_code.specs.Numbers.{IsBelow}
use Rattle.stmt_code.proofs.Numbered.{all_shown}
use Rattle.stmt_code.proofs.ranges.each_is_numbered.Goals as goal

pub loop-file-preserved : goal.loop-file-preserved
loop-file-preserved c = All-more (IsBelow (2 ^ 32)) c.as_slice-file-items.result.now c.loop-file.file-index
    c.file-item.result c.loop-file-test.true c.loop-file.invariant
    (subst (IsBelow (2 ^ 32)) c.file-item.is c.is_numbered.ensures)

pub returns : goal.returns
returns c = all_shown (IsBelow (2 ^ 32)) c.as_slice-file-items.result.now c.args.files.now c.loop-file.file-index
    c.as_slice-file-items.ensures c.loop-file-test.false c.loop-file.invariant
