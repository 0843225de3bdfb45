use Rattle.std.proofs.Common.{map}
use Rattle.run_books.specs.Lines.{coming_of}
use Rattle.core_tests.proofs.Making.{begins_quiet, begins_valid}
use Rattle.core_tests.proofs.given.books_of.Goals as goal

pub returns-clause-valid : goal.returns-clause-valid
returns-clause-valid c = begins_valid c.args.exchange.now c.kept.ensures (map coming_of c.args.lines) _ c.requires.fit
    c.new-books.result c.let_arrive.new.books c.new-books.ensures c.in_ok-let_arrive.ensures

pub returns-clause-quiet : goal.returns-clause-quiet
returns-clause-quiet c = begins_quiet c.args.exchange.now c.kept.ensures (map coming_of c.args.lines) _ c.requires.fit
    c.new-books.result c.let_arrive.new.books c.new-books.ensures c.in_ok-let_arrive.ensures
