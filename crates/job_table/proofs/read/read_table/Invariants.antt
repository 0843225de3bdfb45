use Rattle.std.proofs.Common.{length}
use Rattle.job_table.proofs.Tabled.{Reads}
use Rattle.job_table.proofs.read.read_table.Given as goal

abbrev pub invariant-loop-line : goal.invariant-loop-line
invariant-loop-line l = Reads l.known.exchange.now (length l.lines) l.text l.rest l.before l.list

abbrev pub decreases-loop-line : goal.decreases-loop-line
decreases-loop-line l = length l.rest
