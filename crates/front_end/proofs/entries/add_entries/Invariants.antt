use Rattle.front_end.proofs.EntrySteps.{BodyEntered}
use Rattle.front_end.proofs.entries.add_entries.Given as goal

abbrev pub invariant-loop-statement : goal.invariant-loop-statement
invariant-loop-statement l = BodyEntered l.signals l.block l.body l.statement-index l.out l.fn.out
