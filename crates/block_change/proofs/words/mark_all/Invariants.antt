use Rattle.std.proofs.Common.{take}
use Rattle.block_change.proofs.Wording.{MarksUpTo}
use Rattle.block_change.proofs.words.mark_all.Given as goal

abbrev pub invariant-loop-held : goal.invariant-loop-held
invariant-loop-held l = MarksUpTo l.new l.fn.words l.words (take l.held-index l.records)
