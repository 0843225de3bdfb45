use Rattle.std.proofs.Common.{ap, subst}
use Rattle.parallel_dispatch.specs.Moves.{IsLeft}
use Rattle.parallel_dispatch.specs.Windows.{View}
use Rattle.parallel_dispatch.proofs.Leaving.{left_back, left_bare}
use Rattle.parallel_dispatch.proofs.moves.drain.Goals as goal

pub returns-in_default : goal.returns-in_default
returns-in_default g c = left_bare g.B.Naming.store c.jobs.root c.jobs.window.loans c.in_default.ensures.0 c.jobs.invariant

pub jobs-preserved : goal.jobs-preserved
jobs-preserved g c =
    left_back g.B.Naming.exchange g.B.Naming.code g.B.Naming.store c.jobs.root c.take_back.new.root
    c.in-Some.oldest.flight c.pop.new.self.loans c.finish-seat.result.0 c.finish-seat.result.1.value
    c.finish-seat.ensures c.take_back.ensures
    (subst (IsLeft g.B.Naming.store c.jobs.root) (ap (λ (v : View). v.loans) c.in-Some.ensures.0) c.jobs.invariant)
