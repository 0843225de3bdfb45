use Rattle.std.proofs.Common.{subst, sym}
use Rattle.source_meaning.proofs.Lists.{all_contained}
use Rattle.flow_table.specs.declared.way.Way.{Way}
use Rattle.flow_table.specs.Giving.{HasGiven}
use Rattle.flow_table.specs.Small.{IsSmall}
use Rattle.fact_flows.proofs.Gathering.{gather_begin, gather_end, gather_more}
use Rattle.certificate_faults.specs.Returned.{WayReturns}
use Rattle.certificate_faults.proofs.returned.push_ways.Goals as goal

pub loop-way-init : goal.loop-way-init
loop-way-init g c = gather_begin (WayReturns c.args.exchange.now (g.K.KnownFacts.knows c.args.known.now)
    c.args.fact.entry c.args.fact.point) c.args.ways.now c.args.given.now

pub push_way-requires : goal.push_way-requires
push_way-requires g c = all_contained (λ (w : Way). IsSmall w.how) c.args.ways.now c.way-item.result c.requires
    (c.loop-way.way-index, c.loop-way-test.true, sym c.way-item.is)

pub loop-way-preserved : goal.loop-way-preserved
loop-way-preserved g c =
    gather_more (WayReturns c.args.exchange.now (g.K.KnownFacts.knows c.args.known.now) c.args.fact.entry
    c.args.fact.point) c.args.ways.now c.loop-way.way-index c.way-item.result c.args.given.now c.loop-way.given
    c.push_way.new.given c.loop-way-test.true
    (subst (λ (w : Way). HasGiven c.loop-way.given c.push_way.new.given
    ((WayReturns c.args.exchange.now (g.K.KnownFacts.knows c.args.known.now) c.args.fact.entry c.args.fact.point)
    w)) c.way-item.is c.in_ok-push_way.ensures) c.loop-way.invariant

pub returns : goal.returns
returns g c = gather_end (WayReturns c.args.exchange.now (g.K.KnownFacts.knows c.args.known.now) c.args.fact.entry
    c.args.fact.point) c.args.ways.now c.loop-way.way-index c.args.given.now c.loop-way.given c.loop-way-test.false
    c.loop-way.invariant
