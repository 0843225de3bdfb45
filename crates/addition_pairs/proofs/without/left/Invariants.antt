use Rattle.std.proofs.Common.{◌-◌, length}
use Rattle.entry_additions.specs.Added.{targets}
use Rattle.addition_pairs.proofs.Leaving.{Collected}
use Rattle.addition_pairs.proofs.without.left.Given as goal

abbrev pub invariant-loop-place : goal.invariant-loop-place
invariant-loop-place l = Collected (targets l.spared) l.others l.ones l.place l.kept

abbrev pub decreases-loop-place : goal.decreases-loop-place
decreases-loop-place l = length l.ones - l.place
