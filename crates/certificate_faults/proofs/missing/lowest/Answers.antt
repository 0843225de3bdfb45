use Rattle.std.proofs.Common.{get_or}
use Rattle.answer_table.specs.Answers.{IsFact}
use Rattle.certificate_faults.proofs.Firsts.{no_fact}
use Rattle.certificate_faults.proofs.Lowered.{lowers_begin, lowers_misses, lowers_more, lowest_end}
use Rattle.certificate_faults.proofs.Lowered.{one_lower}
use Rattle.certificate_faults.proofs.missing.lowest.Goals as goal

pub loop-fact-init : goal.loop-fact-init
loop-fact-init g c = lowers_begin (g.K.KnownFacts.knows c.args.known.now) IsFact c.args.given.now c.args.first c.requires

pub loop-fact-preserved : goal.loop-fact-preserved
loop-fact-preserved g c =
    lowers_more (g.K.KnownFacts.knows c.args.known.now) IsFact c.args.given.now c.args.first c.loop-fact.fact-index
    no_fact c.loop-fact.least c.lower_missing-least.result c.loop-fact-test.true
    (one_lower (g.K.KnownFacts.knows c.args.known.now) (get_or c.args.given.now c.loop-fact.fact-index no_fact)
    c.loop-fact.least c.lower_missing-least.result
    (lowers_misses (g.K.KnownFacts.knows c.args.known.now) IsFact c.args.given.now c.args.first
    c.loop-fact.fact-index c.loop-fact.least c.loop-fact.invariant) c.lower_missing-least.ensures)
    c.loop-fact.invariant

pub returns : goal.returns
returns g c = lowest_end (g.K.KnownFacts.knows c.args.known.now) c.args.given.now c.args.first c.loop-fact.fact-index
    c.loop-fact.least c.loop-fact-test.false c.loop-fact.invariant
