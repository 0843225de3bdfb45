use Rattle.std.proofs.Common.{take}
use Rattle.pair_tests.specs.Asked.{AllHold, AskedSeizing}
use Rattle.pair_tests.proofs.passing.seizing_holds.Given as goal

abbrev pub invariant-loop-other : goal.invariant-loop-other
invariant-loop-other l = AllHold (AskedSeizing (take l.other-index l.others)) l.a l.b
