use Rattle.std.proofs.Common.{◌≡◌, take}
use Rattle.job_table.proofs.merging.copies.Given as goal

abbrev pub invariant-loop-line : goal.invariant-loop-line
invariant-loop-line l = l.all ≡ take l.line-index l.lines
