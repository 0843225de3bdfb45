use Rattle.std.proofs.Common.{◌≡◌, Some, ◌∙◌, rules, sym, subst}
use Rattle.std.proofs.lemmas.Grind.{common_steps}
use Rattle.std.specs.List.{AllByRecursion}
use Rattle.run_books.specs.Accounts.{upcoming}
use Rattle.parallel_dispatch.specs.Flying.{starts_of}
use Rattle.parallel_dispatch.specs.Moves.{HasSummary}
use Rattle.parallel_dispatch.proofs.Choosing.{may_issue_alone, may_issue_beside}
use Rattle.parallel_dispatch.proofs.moves.next_move.Goals as goal

pub blockers-behind-requires-clause-window : goal.blockers-behind-requires-clause-window
blockers-behind-requires-clause-window g c = subst
    (λ k. AllByRecursion (HasSummary k) (starts_of c.args.window.now.loans)) (sym c.asking-tests.ensures)
    c.requires.window

pub blockers-behind-requires-clause-later : goal.blockers-behind-requires-clause-later
blockers-behind-requires-clause-later g c = subst (λ k. HasSummary k c.in-Some.start) (sym c.asking-tests.ensures)
    (c.requires.next c.in-Some.start (sym c.in-Some.is ∙ c.peek-next.ensures))

pub returns-then-may_fly_first-clause-may : goal.returns-then-may_fly_first-clause-may
returns-then-may_fly_first-clause-may g c =
    let next : Some c.in-Some.start ≡ upcoming c.args.books.now = sym c.in-Some.is ∙ c.peek-next.ensures in
    search (rules, next, may_issue_alone, common_steps)

pub returns-then-behind-eq0-clause-may : goal.returns-then-behind-eq0-clause-may
returns-then-behind-eq0-clause-may g c =
    let next : Some c.in-Some.start ≡ upcoming c.args.books.now = sym c.in-Some.is ∙ c.peek-next.ensures in
    search (rules, next, may_issue_beside, common_steps)
