use Rattle.std.proofs.Common.{◌≡◌, take}
use Rattle.job_table.specs.Writing.{written_out}
use Rattle.job_table.proofs.write.write_out.Given as goal

abbrev pub invariant-loop-line : goal.invariant-loop-line
invariant-loop-line l = l.text ≡ written_out l.exchange (take l.line-index l.lines)
