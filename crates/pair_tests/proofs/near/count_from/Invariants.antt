use Rattle.pair_tests.specs.Nearby.{AreWithin}
use Rattle.pair_tests.proofs.near.count_from.Given as goal

abbrev pub invariant-loop-count : goal.invariant-loop-count
invariant-loop-count l = AreWithin l.bound l.accesses l.count
