use Rattle.std.proofs.Common.{take}
use Rattle.exchange_model.specs.Index.{IsOfEnters}
use Rattle.exchange_model.proofs.index.enters_of.Given as goal

abbrev pub invariant-loop-number : goal.invariant-loop-number
invariant-loop-number l = IsOfEnters l.made (take l.number l.blocks)
