use Rattle.std.proofs.Common.{rules}
use Rattle.std.proofs.lemmas.Fn.{filter_same}
use Rattle.job_buffers.specs.Standing.{counts, stays_in}
use Rattle.job_buffers.proofs.queue.keep_waiting.Goals as goal

-- the closure keeps what waits
pub returns-clause-items : goal.returns-clause-items
returns-clause-items c = filter_same _ (counts (stays_in c.args.stays.now.table)) _ (λ p b q called. search rules) _ _ c.retain.ensures.filtered
