use Rattle.std.proofs.Common.{◌≡◌, take}
use Rattle.job_types.proofs.chain.Chain.copy_from.Given as goal

abbrev pub invariant-loop-held : goal.invariant-loop-held
invariant-loop-held l = l.self ≡ take l.held-index l.held-items
