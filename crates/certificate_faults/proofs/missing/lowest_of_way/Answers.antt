use Rattle.certificate_faults.proofs.Lowered.{way_back, way_points, way_retrieves}
use Rattle.certificate_faults.proofs.missing.lowest_of_way.Goals as goal

pub returns-in_ok-lower-in-Points : goal.returns-in_ok-lower-in-Points
returns-in_ok-lower-in-Points g c =
    way_points c.args.exchange.now (g.K.KnownFacts.knows c.args.known.now) c.args.fact.entry c.args.fact.point
    c.args.way.now c.in-Points.points c.as_slice-ends.result.now c.args.least c.in_ok-lower-in-Points.lower
    c.in-Points.is c.as_slice-ends.ensures c.in_ok-lower-in-Points.ensures

pub returns-then-gives_answer : goal.returns-then-gives_answer
returns-then-gives_answer g c =
    way_back c.args.exchange.now (g.K.KnownFacts.knows c.args.known.now) c.args.fact.entry c.args.fact.point
    c.args.way.now c.in-Retrieves.answer c.gives_answer.result c.args.least c.in-Retrieves.is c.gives_answer.ensures
    c.if-gives_answer.true c.requires.missing

pub returns-in_ok-all-in-Retrieves : goal.returns-in_ok-all-in-Retrieves
returns-in_ok-all-in-Retrieves g c =
    way_retrieves c.args.exchange.now (g.K.KnownFacts.knows c.args.known.now) c.args.fact.entry c.args.fact.point
    c.args.way.now c.in-Retrieves.answer c.gives_answer.result c.args.least c.in_ok-all-in-Retrieves.all
    c.in-Retrieves.is c.gives_answer.ensures c.if-gives_answer.false c.in_ok-all-in-Retrieves.ensures
