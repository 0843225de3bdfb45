use Rattle.std.proofs.Common.{take}
use Rattle.pair_tests.specs.Asked.{AddsTests, AskedWith}
use Rattle.pair_tests.proofs.asking.push_among.Given as goal

abbrev pub invariant-loop-other : goal.invariant-loop-other
invariant-loop-other l = AddsTests (AskedWith l.one (take l.other-index l.others)) l.fn.tests l.tests
