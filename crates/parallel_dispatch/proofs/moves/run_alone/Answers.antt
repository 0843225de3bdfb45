use Rattle.std.proofs.Common.{length, sym, ap, ◌∙◌, subst}
use Rattle.machine_code.specs.Coded.{Code}
use Rattle.exchange_model.specs.declared.exchange.Exchange.{Exchange}
use Rattle.lone_job.specs.Turns.{HasTurnedAlone}
use Rattle.parallel_dispatch.proofs.Alone.{context_fits, may_turn, turned_alone}
use Rattle.parallel_dispatch.proofs.moves.run_alone.Goals as goal

pub turn_alone-turn-requires-clause-context : goal.turn_alone-turn-requires-clause-context
turn_alone-turn-requires-clause-context g c = context_fits c.requires.suits

pub turn_alone-turn-requires-clause-home : goal.turn_alone-turn-requires-clause-home
turn_alone-turn-requires-clause-home g c = c.requires.beside.home ∙ sym c.requires.suits.means.2

pub turn_alone-turn-requires-clause-may : goal.turn_alone-turn-requires-clause-may
turn_alone-turn-requires-clause-may g c =
    may_turn g.B.Naming.exchange c.args.setup.now.context.exchange.now g.B.Course.kept c.args.books.now c.args.root.1 c.args.window.now
    c.requires.suits.exchange c.requires.next c.requires.goes_on c.requires.beside.counted.limited c.requires.beside.flying

pub returns-in-Ok-turn-clause-turned : goal.returns-in-Ok-turn-clause-turned
returns-in-Ok-turn-clause-turned g c =
    let here = c.requires.suits in
    let turned : HasTurnedAlone g.B.Naming.exchange g.B.Naming.code c.args.books.now c.args.root.1
    c.turn_alone-turn.new.books c.in-Ok-turn.alone.root.1 c.in-Ok-turn.alone.steps =
    subst (λ (z : Exchange × Code). HasTurnedAlone z.0 z.1 c.args.books.now c.args.root.1 c.turn_alone-turn.new.books
    c.in-Ok-turn.alone.root.1 c.in-Ok-turn.alone.steps)
    (λ i. (here.exchange i, here.code i)) c.in-Ok-turn.ensures.turned in
    turned_alone g.B.Naming.exchange g.B.Course.kept g.B.Naming.code c.requires.suits.set.exchange c.args.books.now c.args.root.1 c.requires.goes_on
    (c.requires.beside.flying.1.running ∙ ap length c.requires.next.nobody) c.turn_alone-turn.new.books
    (record { root = c.in-Ok-turn.alone.root; steps = c.in-Ok-turn.alone.steps }) turned
    g.B.Naming.store c.args.window.now c.keep_run.new.self c.requires.next (c.keep_run.ensures ∙ c.idle_run.ensures)
    (c.in-Ok-turn.ensures.home ∙ c.requires.beside.home) c.requires.beside.counted
