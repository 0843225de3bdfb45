use Rattle.front_end.specs.Points.{stmt_points, when_points}
use Rattle.front_end.proofs.Lists.{Flat}
use Rattle.front_end.proofs.points.+points.Given as goal

abbrev pub invariant-add_points-loop-s : goal.invariant-add_points-loop-s
invariant-add_points-loop-s l = Flat (stmt_points l.block) l.stmts l.s-index l.out l.fn.out

abbrev pub invariant-add_whens-loop-w : goal.invariant-add_whens-loop-w
invariant-add_whens-loop-w l = Flat (when_points l.block) l.whens l.w-index l.out l.fn.out
