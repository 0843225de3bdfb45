use Rattle.std.proofs.Common.{sym, ◌∙◌}
use Rattle.core_tests.proofs.Lending.{first_may_run}
use Rattle.core_tests.proofs.lent.steps_of_first.Goals as goal

pub steps_on-requires-clause-start : goal.steps_on-requires-clause-start
steps_on-requires-clause-start c = first_may_run c.args.exchange.now c.in_ok-books.books c.in_ok-words.words
    c.in-Some.start (sym c.in-Some.is ∙ c.peek.ensures) c.in_ok-words.ensures c.in_ok-books.ensures.valid
