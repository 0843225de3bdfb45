use Rattle.std.proofs.Common.{◌≡◌, map, take}
use Rattle.entry_faults.specs.declared.mark.Mark.TheVariants as mark
use Rattle.entry_faults.proofs.mark.new_marks.Given as goal

abbrev pub invariant-loop-point : goal.invariant-loop-point
invariant-loop-point l = l.marks ≡ map (λ _. mark.New) (take l._point-index l.reached)
