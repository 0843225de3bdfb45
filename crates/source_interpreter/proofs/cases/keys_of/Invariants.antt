use Rattle.std.proofs.Common.{◌≡◌, take}
use Rattle.source_interpreter.specs.Cases.{numbers_of}
use Rattle.source_interpreter.proofs.cases.keys_of.Given as goal

abbrev pub invariant-loop-when : goal.invariant-loop-when
invariant-loop-when l = l.numbers ≡ numbers_of (take l.when-index l.whens)
