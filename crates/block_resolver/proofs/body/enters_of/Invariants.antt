use Rattle.block_resolver.proofs.Rows.{Rowed}
use Rattle.block_resolver.proofs.body.enters_of.Given as goal

abbrev pub invariant-loop-statement : goal.invariant-loop-statement
invariant-loop-statement l = Rowed l.body l.statement-index l.place l.list
