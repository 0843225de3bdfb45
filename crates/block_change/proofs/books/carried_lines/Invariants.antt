use Rattle.std.proofs.Common.{◌≡◌, map, take}
use Rattle.block_change.specs.Renamed.{line_with}
use Rattle.block_change.proofs.books.carried_lines.Given as goal

abbrev pub invariant-loop-line : goal.invariant-loop-line
invariant-loop-line l = l.carried ≡ map (line_with l.entries) (take l.line-index l.lines)
