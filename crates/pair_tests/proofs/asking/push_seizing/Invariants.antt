use Rattle.std.proofs.Common.{take}
use Rattle.pair_tests.specs.Asked.{AddsTests, AskedSeizing}
use Rattle.pair_tests.proofs.asking.push_seizing.Given as goal

abbrev pub invariant-loop-other : goal.invariant-loop-other
invariant-loop-other l = AddsTests (AskedSeizing (take l.other-index l.others)) l.fn.tests l.tests
