use Rattle.flow_table.specs.Texts.{seen}
use Rattle.flow_table.proofs.Rowing.{place_fits, seen_at}
use Rattle.entry_faults.proofs.Faulting.{faults_begin, faults_more, faults_end}
use Rattle.entry_faults.proofs.statement.some_faults.Goals as goal

pub loop-at-init : goal.loop-at-init
loop-at-init g c = faults_begin c.args.exchange.now (g.K.KnownFacts.knows c.args.known.now) c.args.entry c.args.places.now

pub reaches_fault-requires : goal.reaches_fault-requires
reaches_fault-requires g c = place_fits c.args.exchange.now (seen c.at-item.result) c.kept.ensures
    (c.requires.each c.loop-at.at-index (seen c.at-item.result)
    (seen_at c.args.places.now c.loop-at.at-index c.at-item.result c.loop-at-test.true c.at-item.is))

pub loop-at-preserved : goal.loop-at-preserved
loop-at-preserved g c = faults_more c.args.exchange.now (g.K.KnownFacts.knows c.args.known.now) c.args.entry
    c.args.places.now c.loop-at.at-index c.at-item.result c.in_ok-reaches_fault.field-0 c.loop-at-test.true c.at-item.is
    c.in_ok-reaches_fault.ensures c.if-branch.false c.loop-at.invariant

pub returns : goal.returns
returns g c = faults_end c.args.exchange.now (g.K.KnownFacts.knows c.args.known.now) c.args.entry c.args.places.now
    c.loop-at.at-index c.requires c.loop-at-test.false c.loop-at.invariant
