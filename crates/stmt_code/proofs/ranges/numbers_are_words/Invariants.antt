use Rattle.std.proofs.Common.{take}
use Rattle.std.specs.Prelude.{All}
use Rattle.stmt_code.specs.Numbers.{AreNumbers}
use Rattle.stmt_code.proofs.ranges.numbers_are_words.Given as goal

abbrev pub invariant-loop-op : goal.invariant-loop-op
invariant-loop-op l = All AreNumbers (take l.op-index l.op-items)
