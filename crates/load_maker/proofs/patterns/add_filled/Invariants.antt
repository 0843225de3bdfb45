use Rattle.std.proofs.Common.{◌≡◌, ◌++◌, take}
use Rattle.load_maker.specs.Patterns.{filled}
use Rattle.load_maker.proofs.patterns.add_filled.Given as goal

abbrev pub invariant-loop-byte : goal.invariant-loop-byte
invariant-loop-byte l = l.text ≡ l.fn.text ++ filled l.n l.i (take l.byte-index l.pattern)
