use Rattle.std.proofs.Common.{drop, map}
use Rattle.analysis_text.specs.Lines.{send_line}
use Rattle.analysis_text.proofs.Left.{Left}
use Rattle.analysis_text.proofs.entries.add_levels.Given as goal

abbrev pub invariant-loop-level : goal.invariant-loop-level
invariant-loop-level l = Left l.fn.text l.text (map send_line (drop l.level-index l.levels)) (map send_line l.levels)
