use Rattle.certificate_faults.proofs.Lowered.{starts_begin, starts_misses, starts_more}
use Rattle.certificate_faults.proofs.missing.first_at_starts.Goals as goal

pub loop-entry-init : goal.loop-entry-init
loop-entry-init g c = starts_begin c.args.exchange.now (g.K.KnownFacts.knows c.args.known.now)

pub lowest_at_start-requires-clause-missing : goal.lowest_at_start-requires-clause-missing
lowest_at_start-requires-clause-missing g c = starts_misses c.args.exchange.now (g.K.KnownFacts.knows c.args.known.now)
    c.loop-entry.entry c.loop-entry.least c.loop-entry.invariant

pub loop-entry-preserved : goal.loop-entry-preserved
loop-entry-preserved g c = starts_more c.args.exchange.now (g.K.KnownFacts.knows c.args.known.now) c.loop-entry.entry
    c.loop-entry.least c.in_ok-least.least c.loop-entry.invariant c.in_ok-least.ensures
