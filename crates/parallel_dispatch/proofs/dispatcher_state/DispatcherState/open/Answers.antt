use Rattle.std.proofs.Common.{◌∙◌}
use Rattle.parallel_dispatch.proofs.DispatcherMoves.{state_opened}
use Rattle.parallel_dispatch.proofs.dispatcher_state.DispatcherState.open.Goals as goal

pub invariant_of-result : goal.invariant_of-result
invariant_of-result g c =
    state_opened g.B.Naming.exchange g.B.Course.kept g.B.Naming.code g.B.Naming.store g.B.Course.workers g.B.Course.first g.B.Course.limit
    c.requires.suits.set c.args.setup.now.context.exchange.now c.requires.suits.exchange g.B.Naming.book c.args.pen c.args.run c.requires.begin
    c.in-Ok-new.books.value (c.in-Ok-new.ensures.ok ∙ c.in-Ok.ensures) c.args.setup.now.context.workers
    c.requires.suits.workers c.requires.suits.some c.in-Ok-new-2.window c.in-Ok-new-2.ensures
