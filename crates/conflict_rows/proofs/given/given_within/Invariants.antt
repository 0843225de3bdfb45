use Rattle.std.proofs.Common.{[]}
use Rattle.fact_rows.specs.Known.{Knows}
use Rattle.entry_accesses.specs.Adding.{Adds}
use Rattle.conflict_rows.proofs.Rowing.{ByPlace}
use Rattle.conflict_rows.proofs.Loops.{GivenBelow}
use Rattle.conflict_rows.proofs.given.given_within.Given as goal

abbrev pub invariant-loop-place : goal.invariant-loop-place
invariant-loop-place l = Adds [] l.rows (GivenBelow (ByPlace l.of.exchange.now (Knows l.of.known.now) l.of.entry l.summary) l.places l.place)
