use Rattle.certificate_faults.proofs.Joining.{returned_exact}
use Rattle.certificate_faults.proofs.returned.returned_from.Goals as goal

pub returns : goal.returns
returns g c =
    returned_exact c.args.exchange.now c.args.table.now (g.K.KnownFacts.knows c.args.known.now) c.args.reached.now
    c.new-given.result c.push_returned.new.given c.in_order.result c.in_ok-joined.joined c.requires.all
    c.new-given.ensures c.in_ok-push_returned.ensures c.in_order.ensures.same c.in_ok-joined.ensures
