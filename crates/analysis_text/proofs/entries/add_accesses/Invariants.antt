use Rattle.std.proofs.Common.{drop, map}
use Rattle.analysis_text.specs.Lines.{access_line}
use Rattle.analysis_text.proofs.Left.{Left}
use Rattle.analysis_text.proofs.entries.add_accesses.Given as goal

abbrev pub invariant-loop-access : goal.invariant-loop-access
invariant-loop-access l = Left l.fn.text l.text (map (access_line l.names) (drop l.access-index l.accesses)) (map (access_line l.names) l.accesses)
