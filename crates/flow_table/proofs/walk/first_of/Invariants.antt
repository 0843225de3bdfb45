use Rattle.std.proofs.Common.{◌≡◌, drop}
use Rattle.source_meaning.specs.Rests.{first_point}
use Rattle.flow_table.proofs.walk.first_of.Given as goal

abbrev pub invariant-loop-statement : goal.invariant-loop-statement
invariant-loop-statement l = first_point (drop l.statement-index l.statements) l.end ≡ first_point l.fn.statements l.end
