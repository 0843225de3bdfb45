use Rattle.certificate_faults.proofs.Joining.{way_other, way_points, way_returns}
use Rattle.certificate_faults.proofs.returned.push_way.Goals as goal

pub returns-in-Points : goal.returns-in-Points
returns-in-Points g c = way_points c.args.exchange.now (g.K.KnownFacts.knows c.args.known.now) c.args.fact.entry
    c.args.fact.point c.args.way.now c.in-Points._points c.args.given.now c.in-Points.is

pub returns-then-not-gives_answer : goal.returns-then-not-gives_answer
returns-then-not-gives_answer g c = way_other c.args.exchange.now (g.K.KnownFacts.knows c.args.known.now)
    c.args.fact.entry c.args.fact.point c.args.way.now c.gives_answer.result c.args.given.now c.gives_answer.ensures
    c.if-not-gives_answer.true

pub returns-in_ok-push_flow-in-Retrieves : goal.returns-in_ok-push_flow-in-Retrieves
returns-in_ok-push_flow-in-Retrieves g c =
    way_returns c.args.exchange.now (g.K.KnownFacts.knows c.args.known.now) c.args.fact.entry c.args.fact.point
    c.args.way.now c.in-Retrieves.answer c.gives_answer.result c.in_ok-slots-in-Retrieves.slots
    c.as_slice-there.result.now c.args.given.now c.push_flow.new.facts c.in-Retrieves.is c.gives_answer.ensures
    c.if-not-gives_answer.false c.in_ok-slots-in-Retrieves.ensures c.as_slice-there.ensures
    c.in_ok-push_flow-in-Retrieves.ensures
