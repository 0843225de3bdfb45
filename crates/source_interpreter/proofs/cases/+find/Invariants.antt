use Rattle.std.proofs.Common.{take}
use Rattle.source_interpreter.specs.Cases.{IsKnown, WhenKnown}
use Rattle.source_interpreter.specs.Found.{Gathers}
use Rattle.source_interpreter.proofs.cases.+find.Given as goal

abbrev pub invariant-find_in-loop-statement : goal.invariant-find_in-loop-statement
invariant-find_in-loop-statement l = Gathers IsKnown (take l.statement-index l.statement-items) l.fn.found l.found

abbrev pub invariant-find_in_whens-loop-when : goal.invariant-find_in_whens-loop-when
invariant-find_in_whens-loop-when l = Gathers WhenKnown (take l.when-index l.when-items) l.fn.found l.found
