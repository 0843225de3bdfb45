use Rattle.std.proofs.Common.{take}
use Rattle.pair_tests.specs.Asked.{AllHold, AskedWith}
use Rattle.pair_tests.proofs.passing.hold_among.Given as goal

abbrev pub invariant-loop-other : goal.invariant-loop-other
invariant-loop-other l = AllHold (AskedWith l.one (take l.other-index l.others)) l.a l.b
