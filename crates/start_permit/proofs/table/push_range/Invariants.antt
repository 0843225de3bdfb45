use Rattle.std.proofs.Common.{◌≡◌, ◌++◌}
use Rattle.start_permit.specs.Listed.{words_from}
use Rattle.start_permit.proofs.table.push_range.Given as goal

abbrev pub invariant-loop-i : goal.invariant-loop-i
invariant-loop-i l = l.words ≡ l.fn.words ++ words_from l.first l.i
