use Rattle.std.proofs.Common.{take}
use Rattle.source_interpreter.specs.Found.{AreOwn}
use Rattle.source_interpreter.proofs.cases.Cases.are_own.Given as goal

abbrev pub invariant-loop-case : goal.invariant-loop-case
invariant-loop-case l = AreOwn l.self (take l.case-index l.found)
