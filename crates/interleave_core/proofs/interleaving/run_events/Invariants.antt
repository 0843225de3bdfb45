use Rattle.interleave_core.specs.Runs.{setting}
use Rattle.interleave_core.proofs.Leading.{Gone}
use Rattle.interleave_core.proofs.interleaving.run_events.Given as goal

abbrev pub invariant-loop-at : goal.invariant-loop-at
invariant-loop-at l = Gone (setting l.exchange l.code l.checked l.workers) l.fn.books l.fn.words l.events l.at l.core
