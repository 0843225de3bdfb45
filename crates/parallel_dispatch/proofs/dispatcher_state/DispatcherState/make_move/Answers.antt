use Rattle.std.proofs.Common.{◌≡◌, ◌+◌, [], None, Some, refl, sym, subst}
use Rattle.job_types.specs.declared.job.JobStart.{JobStart}
use Rattle.source_meaning.specs.SingleRun.{ending_at}
use Rattle.order_laws.specs.Keeps.{NoLineBefore}
use Rattle.run_books.specs.Accounts.{Account, upcoming}
use Rattle.parallel_dispatch.specs.DispatcherStates.{DispatcherView}
use Rattle.parallel_dispatch.specs.Events.{whole_turn}
use Rattle.parallel_dispatch.specs.Moves.{HasSummary}
use Rattle.parallel_dispatch.specs.Turning.{turn_of}
use Rattle.parallel_dispatch.proofs.DispatcherMoves.{state_issued, state_line, state_next}
use Rattle.parallel_dispatch.proofs.DispatcherMoves.{state_some, state_stands, state_turned}
use Rattle.parallel_dispatch.proofs.DispatcherMoves.{state_window}
use Rattle.parallel_dispatch.proofs.dispatcher_state.DispatcherState.make_move.Goals as goal

pub next_move-requires-clause-line : goal.next_move-requires-clause-line
next_move-requires-clause-line g c =
    subst (λ (b : Account). c.self.inside.window.loans ≡ [] → NoLineBefore (b.state.ended + 1) b.state.lines) (sym c.deref_mut-held.ensures.value)
    (state_line g.B.Naming.exchange g.B.Course.kept g.B.Naming.code g.B.Naming.store g.B.Course.workers g.B.Course.first g.B.Course.limit
    c.requires.suits.set
    c.self.inside.books.value c.self.inside.root c.self.inside.window c.self.inside.steps c.self.invariant
    (subst (λ (v : DispatcherView). v.window.loans ≡ [] → ending_at v.books.limit v.books.state ≡ None) (sym c.self.view_is) c.requires.goes_on))

pub next_move-requires-clause-next : goal.next_move-requires-clause-next
next_move-requires-clause-next g c =
    subst (λ (b : Account). (start : JobStart) → Some start ≡ upcoming b → HasSummary c.args.pairs.now start) (sym c.deref_mut-held.ensures.value)
    (state_next g.B.Naming.exchange g.B.Course.kept g.B.Naming.code g.B.Naming.store g.B.Course.workers g.B.Course.first g.B.Course.limit
    c.requires.suits.set
    c.self.inside.books.value c.self.inside.root c.self.inside.window c.self.inside.steps c.self.invariant c.args.pairs.now c.requires.pairs)

pub next_move-requires-clause-window : goal.next_move-requires-clause-window
next_move-requires-clause-window g c =
    state_window g.B.Naming.exchange g.B.Course.kept g.B.Naming.code g.B.Naming.store g.B.Course.workers g.B.Course.first g.B.Course.limit
    c.requires.suits.set
    c.self.inside.books.value c.self.inside.root c.self.inside.window c.self.inside.steps c.self.invariant c.args.pairs.now c.requires.pairs

pub run_alone-requires-clause-beside : goal.run_alone-requires-clause-beside
run_alone-requires-clause-beside g c =
    state_stands g.B.Naming.exchange g.B.Course.kept g.B.Naming.code g.B.Naming.store g.B.Course.workers g.B.Course.first g.B.Course.limit
    c.requires.suits.set
    c.self.inside.books.value c.self.inside.root c.self.inside.window c.self.inside.steps c.self.invariant
    c.deref_mut-held.result.now c.deref_mut-held.ensures.value

pub invariant_of-result : goal.invariant_of-result
invariant_of-result g c =
    state_turned g.B.Naming.exchange g.B.Course.kept g.B.Naming.code g.B.Naming.store g.B.Course.workers g.B.Course.first g.B.Course.limit
    c.requires.suits.set
    c.self.inside.books.value c.self.inside.root c.self.inside.window c.self.inside.steps c.self.invariant
    whole_turn c.deref_mut-held.result.now c.run_alone.new.books c.in-Ok.alone c.run_alone.new.window _
    c.deref_mut-held.ensures.value c.in-Ok.ensures.turned refl

pub issue-requires-clause-beside : goal.issue-requires-clause-beside
issue-requires-clause-beside g c =
    state_stands g.B.Naming.exchange g.B.Course.kept g.B.Naming.code g.B.Naming.store g.B.Course.workers g.B.Course.first g.B.Course.limit
    c.requires.suits.set
    c.self.inside.books.value c.self.inside.root c.self.inside.window c.self.inside.steps c.self.invariant
    c.deref_mut-held.result.now c.deref_mut-held.ensures.value

pub invariant_of-result-in-Ok-issue : goal.invariant_of-result-in-Ok-issue
invariant_of-result-in-Ok-issue g c =
    state_issued g.B.Naming.exchange g.B.Course.kept g.B.Naming.code g.B.Naming.store g.B.Course.workers g.B.Course.first g.B.Course.limit
    c.requires.suits.set
    c.self.inside.books.value c.self.inside.root c.self.inside.window c.self.inside.steps c.self.invariant
    c.deref_mut-held.result.now c.issue.new.books c.issue.new.root c.issue.new.window c.deref_mut-held.ensures.value
    c.in-Ok-issue.ensures.issued.event c.in-Ok-issue.ensures.counted.0 c.in-Ok-issue.ensures.issued.fly
    c.issue.ensures.root c.issue.ensures.room c.in-Ok-issue.ensures.counted.1

pub retire-requires-clause-some : goal.retire-requires-clause-some
retire-requires-clause-some g c =
    state_some g.B.Naming.exchange g.B.Course.kept g.B.Naming.code g.B.Naming.store g.B.Course.workers g.B.Course.first g.B.Course.limit
    c.requires.suits.set
    c.self.inside.books.value c.self.inside.root c.self.inside.window c.self.inside.steps c.self.invariant
    (subst (λ (v : DispatcherView). v.window.loans ≡ [] → ending_at v.books.limit v.books.state ≡ None) (sym c.self.view_is) c.requires.goes_on)
    (λ none. subst (λ (b : Account). None ≡ upcoming b) c.deref_mut-held.ensures.value (c.in-Retire.ensures.may none))

pub retire-requires-clause-beside : goal.retire-requires-clause-beside
retire-requires-clause-beside g c =
    state_stands g.B.Naming.exchange g.B.Course.kept g.B.Naming.code g.B.Naming.store g.B.Course.workers g.B.Course.first g.B.Course.limit
    c.requires.suits.set
    c.self.inside.books.value c.self.inside.root c.self.inside.window c.self.inside.steps c.self.invariant
    c.deref_mut-held.result.now c.deref_mut-held.ensures.value

pub invariant_of-result-in-Ok-retire : goal.invariant_of-result-in-Ok-retire
invariant_of-result-in-Ok-retire g c =
    state_turned g.B.Naming.exchange g.B.Course.kept g.B.Naming.code g.B.Naming.store g.B.Course.workers g.B.Course.first g.B.Course.limit
    c.requires.suits.set
    c.self.inside.books.value c.self.inside.root c.self.inside.window c.self.inside.steps c.self.invariant
    turn_of c.deref_mut-held.result.now c.retire.new.books c.in-Ok-retire.oldest c.retire.new.window _
    c.deref_mut-held.ensures.value c.in-Ok-retire.ensures.turned refl
