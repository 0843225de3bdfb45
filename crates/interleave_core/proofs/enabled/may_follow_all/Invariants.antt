use Rattle.std.proofs.Common.{take}
use Rattle.interleave_core.proofs.Enabling.{FollowsAll}
use Rattle.interleave_core.proofs.enabled.may_follow_all.Given as goal

abbrev pub invariant-loop-older : goal.invariant-loop-older
invariant-loop-older l = FollowsAll l.checked l.later (take l.older-index l.window)
