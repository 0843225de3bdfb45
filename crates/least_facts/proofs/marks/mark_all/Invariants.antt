use Rattle.std.proofs.Common.{map}
use Rattle.least_facts.specs.Marks.{point_in}
use Rattle.least_facts.proofs.Marking.{MarksGo}
use Rattle.least_facts.proofs.marks.mark_all.Given as goal

abbrev pub invariant-loop-point : goal.invariant-loop-point
invariant-loop-point l = MarksGo l.points l.point-index (map point_in l.fn.marks.keys) (map point_in l.marks.keys)
