use Rattle.entry_faults.proofs.Faulting.{misses_alike}
use Rattle.entry_faults.proofs.statement.any_misses.Goals as goal

pub returns : goal.returns
returns g c =
    misses_alike c.args.exchange.now (g.K.KnownFacts.knows c.args.known.now) c.args.entry c.args.point c.args.pointers
    c.each_once-each.result c.as_slice.result.now c.in_ok-misses.misses c.each_once-each.ensures c.as_slice.ensures
    c.in_ok-misses.ensures
