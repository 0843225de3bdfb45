use Rattle.std.proofs.Common.{◌≡◌, [], take}
use Rattle.job_types.specs.Forlopps.{ChainMap, all_records}
use Rattle.start_permit.specs.Granted.{Lets, OneOf}
use Rattle.start_permit.specs.Recorded.{Gains}
use Rattle.start_permit.proofs.granting.words_of.Given as goal

abbrev pub invariant-loop-access : goal.invariant-loop-access
invariant-loop-access l = (chains : ChainMap) → l.by.held.now ≡ all_records chains
    → Gains (OneOf (Lets l.by.exchange.now l.by.all.now l.by.start.now chains l.write)
    (take l.access-index l.by.all.now)) [] l.spans
