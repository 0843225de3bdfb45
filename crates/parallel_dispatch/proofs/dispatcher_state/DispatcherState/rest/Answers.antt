use Rattle.std.proofs.Common.{ap, refl, ◌∙◌, subst, sym}
use Rattle.shared_store.specs.declared.view.Top.{Top}
use Rattle.source_meaning.specs.SingleRun.{ending_at}
use Rattle.parallel_dispatch.specs.DispatcherStates.{DispatcherView}
use Rattle.parallel_dispatch.specs.Moves.{IsBare}
use Rattle.parallel_dispatch.proofs.DispatcherMoves.{state_bare, state_over, state_rests}
use Rattle.parallel_dispatch.proofs.DispatcherMoves.{rest_cells}
use Rattle.parallel_dispatch.proofs.dispatcher_state.DispatcherState.rest.Goals as goal

pub words_of-requires-clause-store : goal.words_of-requires-clause-store
words_of-requires-clause-store g c = c.self.invariant.home ∙ sym c.requires.suits.means.2

pub words_of-requires-clause-bare : goal.words_of-requires-clause-bare
words_of-requires-clause-bare g c =
    state_bare g.B.Naming.exchange g.B.Course.kept g.B.Naming.code g.B.Naming.store g.B.Course.workers g.B.Course.first g.B.Course.limit
    c.requires.suits.set c.self.inside.books.value c.self.inside.root c.self.inside.window c.self.inside.steps c.self.invariant
    (ap (λ (v : DispatcherView). v.window.loans) c.self.view_is ∙ c.requires.none)

pub words_of-requires-clause-cells : goal.words_of-requires-clause-cells
words_of-requires-clause-cells g c =
    rest_cells g.B.Naming.exchange g.B.Course.kept g.B.Naming.code g.B.Naming.store g.B.Course.workers g.B.Course.first g.B.Course.limit
    c.requires.suits.set c.self.inside.books.value c.self.inside.root c.self.inside.window c.self.inside.steps c.self.invariant
    (ap (λ (v : DispatcherView). v.window.loans) c.self.view_is ∙ c.requires.none)
    c.requires.valid c.words-cells.result (c.words-cells.ensures ∙ c.requires.suits.laid.cells)

pub returns-in-Ok-clause-rest : goal.returns-in-Ok-clause-rest
returns-in-Ok-clause-rest g c =
    state_rests g.B.Naming.exchange g.B.Course.kept g.B.Naming.code g.B.Naming.store g.B.Course.workers g.B.Course.first g.B.Course.limit
    c.requires.suits.set c.self.inside.books.value c.self.inside.root c.self.inside.window c.self.inside.steps c.self.invariant
    (ap (λ (v : DispatcherView). v.window.loans) c.self.view_is ∙ c.requires.none)
    c.requires.valid _ c.into_inner-books.ensures c.in-Ok.ensures.words refl

pub returns-in-Ok-clause-ends : goal.returns-in-Ok-clause-ends
returns-in-Ok-clause-ends g c e over =
    state_over g.B.Naming.exchange g.B.Course.kept g.B.Naming.code g.B.Naming.store g.B.Course.workers g.B.Course.first g.B.Course.limit
    c.requires.suits.set c.self.inside.books.value c.self.inside.root c.self.inside.window c.self.inside.steps c.self.invariant
    (ap (λ (v : DispatcherView). v.window.loans) c.self.view_is ∙ c.requires.none)
    c.requires.valid e (over ∙ sym (ap (λ (v : DispatcherView). ending_at v.books.limit v.books.state) c.self.view_is))
    _ c.into_inner-books.ensures c.in-Ok.ensures.words refl

pub returns-in-Err-clause-bare : goal.returns-in-Err-clause-bare
returns-in-Err-clause-bare g c =
    let bare = state_bare g.B.Naming.exchange g.B.Course.kept g.B.Naming.code g.B.Naming.store g.B.Course.workers g.B.Course.first g.B.Course.limit
    c.requires.suits.set c.self.inside.books.value c.self.inside.root c.self.inside.window c.self.inside.steps c.self.invariant
    (ap (λ (v : DispatcherView). v.window.loans) c.self.view_is ∙ c.requires.none) in
    subst (IsBare g.B.Naming.store) (sym c.words_of.ensures.root) (record { home = c.self.invariant.home; bare = ap (λ (t : Top). t.loans) bare })
