use Rattle.std.proofs.Common.{◌∙◌, refl, sym, ap}
use Rattle.machine_meaning.specs.Private.{Private}
use Rattle.shared_store.specs.Seats.{RootView}
use Rattle.parallel_dispatch.specs.Windows.{View}
use Rattle.parallel_dispatch.proofs.Alone.{context_fits}
use Rattle.parallel_dispatch.proofs.Moving.{stores_here, turned_then}
use Rattle.parallel_dispatch.proofs.Leaving.{left_flying, left_oldest}
use Rattle.parallel_dispatch.proofs.Retiring.{Leaves}
use Rattle.parallel_dispatch.proofs.moves.retire.Goals as goal

pub retire_on_root-retired-requires-clause-layout : goal.retire_on_root-retired-requires-clause-layout
retire_on_root-retired-requires-clause-layout g c =
    (context_fits c.requires.suits).laid

pub retire_on_root-retired-requires-clause-home : goal.retire_on_root-retired-requires-clause-home
retire_on_root-retired-requires-clause-home g c = ap (λ (r : RootView). r.0) c.take_back.ensures ∙ c.requires.beside.home ∙ sym c.requires.suits.means.2

pub retire_on_root-retired-requires-clause-words : goal.retire_on_root-retired-requires-clause-words
retire_on_root-retired-requires-clause-words g c =
    let set = c.requires.suits.set in
    let leaves : Leaves c.finish-seat.result.1.value c.done-done.result.now = record {
      sends = c.done-done.ensures.sends ∙ ap (λ (r : Private). r.own.sends) c.deref-ended.ensures;
      chain = c.done-done.ensures.chain ∙ ap (λ (r : Private). r.own.chain) c.deref-ended.ensures;
      outcome = c.done-done.ensures.outcome ∙ ap (λ (r : Private). r.over) c.deref-ended.ensures;
    } in
    stores_here g.B.Naming.exchange g.B.Course.kept set.exchange set.checked set.true_of c.args.books.now c.args.root.1 c.args.window.now
    c.in-Some.oldest.flight c.pop.new.self.loans (ap (λ (v : View). v.loans) c.in-Some.ensures.0) g.B.Naming.code
    g.B.Naming.store c.finish-seat.result.0 c.finish-seat.result.1.value c.finish-seat.ensures
    c.deref-start.result.now (c.deref-start.ensures ∙ c.in-Some.ensures.1) c.done-done.result.now leaves
    c.args.setup.now.context.exchange.now c.requires.suits.exchange
    c.take_back.new.root.1 (ap (λ (r : RootView). r.1) c.take_back.ensures)
    c.requires.beside.flying.0 c.requires.beside.flying.1

pub returns-in-Ok-clause-turned : goal.returns-in-Ok-clause-turned
returns-in-Ok-clause-turned g c =
    let set = c.requires.suits.set in
    let leaves : Leaves c.finish-seat.result.1.value c.done-done.result.now = record {
      sends = c.done-done.ensures.sends ∙ ap (λ (r : Private). r.own.sends) c.deref-ended.ensures;
      chain = c.done-done.ensures.chain ∙ ap (λ (r : Private). r.own.chain) c.deref-ended.ensures;
      outcome = c.done-done.ensures.outcome ∙ ap (λ (r : Private). r.over) c.deref-ended.ensures;
    } in
    let there = c.in-Ok.ensures.retired in
    turned_then g.B.Naming.exchange g.B.Course.kept set.exchange set.checked set.true_of c.args.books.now c.args.root.1 c.args.window.now
    c.in-Some.oldest.flight c.pop.new.self.loans (ap (λ (v : View). v.loans) c.in-Some.ensures.0) g.B.Naming.code
    g.B.Naming.store c.finish-seat.result.0 c.finish-seat.result.1.value c.finish-seat.ensures
    c.deref-start.result.now (c.deref-start.ensures ∙ c.in-Some.ensures.1) c.done-done.result.now leaves
    c.args.setup.now.context.exchange.now c.requires.suits.exchange
    c.take_back.new.root.1 (ap (λ (r : RootView). r.1) c.take_back.ensures)
    there.settled c.retire_on_root-retired.new.books c.in-Ok.root.1.values _ _ there.retired there.next_is
    c.requires.beside.flying (record { root = c.in-Ok.root; steps = c.steps-steps.result }) c.keep_run.new.self
    refl there.loans (ap (λ (v : View). v.loans) c.keep_run.ensures)
    (c.steps-steps.ensures ∙ ap (λ (r : Private). r.made) c.deref-ended.ensures)
    (c.in-Ok.ensures.home ∙ ap (λ (r : RootView). r.0) c.take_back.ensures ∙ c.requires.beside.home)
    (ap (λ (v : View). v.room) c.keep_run.ensures ∙ sym (ap (λ (v : View). v.room) c.in-Some.ensures.0))
    (ap (λ (v : View). v.flown) c.keep_run.ensures ∙ sym (ap (λ (v : View). v.flown) c.in-Some.ensures.0))
    c.requires.beside.counted

pub returns-clause-left : goal.returns-clause-left
returns-clause-left g c =
    left_oldest g.B.Naming.exchange g.B.Naming.code g.B.Naming.store c.args.root c.take_back.new.root c.in-Err.root
    c.args.window.now.loans c.in-Some.oldest.flight c.pop.new.self.loans c.keep_run.new.self.loans
    c.finish-seat.result.0 c.finish-seat.result.1.value
    c.finish-seat.ensures c.take_back.ensures (ap (λ (v : View). v.loans) c.in-Some.ensures.0)
    (left_flying g.B.Naming.exchange g.B.Course.kept g.B.Naming.store c.args.books.now c.args.root c.args.window.now
    c.requires.beside.home c.requires.beside.flying)
    c.in-Err.ensures.left.home c.in-Err.ensures.left.loans (ap (λ (v : View). v.loans) c.keep_run.ensures)
