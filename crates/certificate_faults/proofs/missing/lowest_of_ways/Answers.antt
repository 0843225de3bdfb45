use Rattle.std.proofs.Common.{sym}
use Rattle.source_meaning.proofs.Lists.{all_contained}
use Rattle.flow_table.specs.declared.way.Way.{Way}
use Rattle.flow_table.specs.Small.{IsSmall}
use Rattle.certificate_faults.specs.Returned.{WaySends}
use Rattle.certificate_faults.proofs.Lowered.{lowers_begin, lowers_end, lowers_item, lowers_misses}
use Rattle.certificate_faults.proofs.missing.lowest_of_ways.Goals as goal

pub loop-way-init : goal.loop-way-init
loop-way-init g c = lowers_begin (g.K.KnownFacts.knows c.args.known.now)
    (WaySends c.args.exchange.now (g.K.KnownFacts.knows c.args.known.now) c.args.fact.entry c.args.fact.point)
    c.args.ways.now c.args.first c.requires.missing

pub lowest_of_way-requires-clause-small : goal.lowest_of_way-requires-clause-small
lowest_of_way-requires-clause-small g c = all_contained (λ (w : Way). IsSmall w.how) c.args.ways.now c.way-item.result
    c.requires.small (c.loop-way.way-index, c.loop-way-test.true, sym c.way-item.is)

pub lowest_of_way-requires-clause-missing : goal.lowest_of_way-requires-clause-missing
lowest_of_way-requires-clause-missing g c = lowers_misses (g.K.KnownFacts.knows c.args.known.now)
    (WaySends c.args.exchange.now (g.K.KnownFacts.knows c.args.known.now) c.args.fact.entry c.args.fact.point)
    c.args.ways.now c.args.first c.loop-way.way-index c.loop-way.least c.loop-way.invariant

pub loop-way-preserved : goal.loop-way-preserved
loop-way-preserved g c =
    lowers_item (g.K.KnownFacts.knows c.args.known.now)
    (WaySends c.args.exchange.now (g.K.KnownFacts.knows c.args.known.now) c.args.fact.entry c.args.fact.point)
    c.args.ways.now c.args.first c.loop-way.way-index c.way-item.result c.loop-way.least c.in_ok-least.least
    c.loop-way-test.true c.way-item.is c.in_ok-least.ensures c.loop-way.invariant

pub returns : goal.returns
returns g c = lowers_end (g.K.KnownFacts.knows c.args.known.now)
    (WaySends c.args.exchange.now (g.K.KnownFacts.knows c.args.known.now) c.args.fact.entry c.args.fact.point)
    c.args.ways.now c.args.first c.loop-way.way-index c.loop-way.least c.loop-way-test.false c.loop-way.invariant
