use Rattle.std.proofs.Common.{ap, not, rules}
use Rattle.certificate_faults.proofs.Joining.{point_apart, point_none, point_ways, ways_small}
use Rattle.certificate_faults.proofs.returned.push_point.Goals as goal

pub returns-then-not-is_reached : goal.returns-then-not-is_reached
returns-then-not-is_reached g c =
    point_apart c.args.exchange.now c.args.table.now (g.K.KnownFacts.knows c.args.known.now) c.args.fact.entry
    c.args.fact.point c.is_reached.result c.args.given.now c.is_reached.ensures
    (λ so. let clash = ap not so in let is = c.if-not-is_reached.true in cc)

pub push_ways-requires : goal.push_ways-requires
push_ways-requires g c = ways_small c.args.exchange.now c.args.table.now c.args.fact.point c.in-Some.row.now
    c.as_slice-ways.result.now c.kept.ensures c.requires c.in-Some.ensures c.as_slice-ways.ensures

pub returns-in_ok-push_ways-in-Some : goal.returns-in_ok-push_ways-in-Some
returns-in_ok-push_ways-in-Some g c =
    point_ways c.args.exchange.now c.args.table.now (g.K.KnownFacts.knows c.args.known.now) c.args.fact.entry
    c.args.fact.point c.in-Some.row.now c.as_slice-ways.result.now c.args.given.now c.push_ways.new.given
    (c.is_reached.ensures.0 (search rules)) c.in-Some.ensures c.as_slice-ways.ensures
    c.in_ok-push_ways-in-Some.ensures

pub returns-in-None : goal.returns-in-None
returns-in-None g c = point_none c.args.exchange.now c.args.table.now (g.K.KnownFacts.knows c.args.known.now)
    c.args.fact.entry c.args.fact.point c.args.given.now c.in-None.ensures
