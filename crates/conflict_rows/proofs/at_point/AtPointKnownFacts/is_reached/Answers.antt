use Rattle.conflict_rows.proofs.Alone.{is_reached_here, not_reached}
use Rattle.conflict_rows.proofs.at_point.AtPointKnownFacts.is_reached.Goals as goal

pub returns-then-point-self : goal.returns-then-point-self
returns-then-point-self c = not_reached c.args.self.now.known.now c.args.self.now.point c.args.entry c.args.point c.if-point-self.true

pub returns : goal.returns
returns c = is_reached_here c.args.self.now.known.now c.args.self.now.point c.args.entry c.args.point
    c.is_reached.result c.if-point-self.false c.is_reached.ensures
