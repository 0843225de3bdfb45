use Rattle.std.proofs.Common.{drop}
use Rattle.code_gen.specs.Receivers.{arm_code, arms, behind_arms}
use Rattle.code_gen.specs.Settings.{places_in}
use Rattle.code_gen.proofs.ReceiverSteps.{ArmsLeft}
use Rattle.code_gen.proofs.receivers.arms_of.Given as goal

abbrev pub invariant-loop-block : goal.invariant-loop-block
invariant-loop-block l =
    ArmsLeft (arm_code l.arm (places_in l.at)) l.list l.next (drop l.block-index l.block-items)
    (arms l.receivers (arm_code l.arm (places_in l.at)) l.start)
    (behind_arms l.receivers (arm_code l.arm (places_in l.at)) l.start)
