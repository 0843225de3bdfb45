use Rattle.std.proofs.Common.{ap, not}
use Rattle.certificate_faults.specs.Returned.{IsAnsweredAt, PointSends}
use Rattle.certificate_faults.proofs.Lowered.{both, misses_then, nothing_about}
use Rattle.certificate_faults.proofs.missing.lowest_about.Goals as goal

pub returns-then-not-is_reached : goal.returns-then-not-is_reached
returns-then-not-is_reached g c =
    nothing_about c.args.exchange.now c.args.table.now (g.K.KnownFacts.knows c.args.known.now) c.args.fact c.args.least
    (λ reached. (let clash = ap not (c.is_reached.ensures.1 reached) in let is = c.if-not-is_reached.true in cc))
    c.requires.missing

pub lowest_answered-requires-clause-missing : goal.lowest_answered-requires-clause-missing
lowest_answered-requires-clause-missing g c =
    misses_then (g.K.KnownFacts.knows c.args.known.now)
    (PointSends c.args.exchange.now c.args.table.now (g.K.KnownFacts.knows c.args.known.now) c.args.fact.entry
    c.args.fact.point) c.args.least c.in_ok-sent.sent c.in_ok-sent.ensures

pub returns : goal.returns
returns g c =
    both (g.K.KnownFacts.knows c.args.known.now)
    (PointSends c.args.exchange.now c.args.table.now (g.K.KnownFacts.knows c.args.known.now) c.args.fact.entry
    c.args.fact.point) (IsAnsweredAt c.args.exchange.now c.args.table.now (g.K.KnownFacts.knows c.args.known.now)
    c.args.fact.entry c.args.fact.point) c.args.least c.in_ok-sent.sent c.in_ok-lowest.lowest c.in_ok-sent.ensures
    c.in_ok-lowest.ensures
