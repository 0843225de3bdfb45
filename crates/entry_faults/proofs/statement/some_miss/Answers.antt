use Rattle.entry_faults.proofs.Faulting.{misses_begin, misses_end}
use Rattle.entry_faults.proofs.statement.some_miss.Goals as goal

pub loop-pointer-init : goal.loop-pointer-init
loop-pointer-init g c = misses_begin c.args.exchange.now (g.K.KnownFacts.knows c.args.known.now) c.args.entry c.args.point c.args.pointers.now

pub returns : goal.returns
returns g c = misses_end c.args.exchange.now (g.K.KnownFacts.knows c.args.known.now) c.args.entry c.args.point
    c.args.pointers.now c.loop-pointer.pointer-index c.loop-pointer-test.false c.loop-pointer.invariant
