use Rattle.conflict_rows.proofs.Alone.{other_values, own_values}
use Rattle.conflict_rows.proofs.at_point.AtPointKnownFacts.values.Goals as goal

pub returns-then-point-self : goal.returns-then-point-self
returns-then-point-self c = other_values c.args.self.now.known.now c.args.self.now.point c.args.entry c.args.point
    c.args.slot c.new.result c.if-point-self.true c.new.ensures

pub returns : goal.returns
returns c = own_values c.args.self.now.known.now c.args.self.now.point c.args.entry c.args.point c.args.slot
    c.in_ok-values.values c.if-point-self.false c.in_ok-values.ensures
