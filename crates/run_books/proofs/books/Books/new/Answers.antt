use Rattle.run_books.proofs.Keeping.{opening_kept}
use Rattle.run_books.proofs.books.Books.new.Goals as goal

-- src/books.rt:70:5
pub invariant_of-result : goal.invariant_of-result
invariant_of-result c = opening_kept c.new.result c.args.lines c.new-2.result.waiting c.new-3.result.chains
    c.new-3.result.dead c.new-4.result.events c.args.limit
    c.new.ensures.lines c.new.ensures.arrived c.new-3.ensures.chains c.requires.limit c.requires.lines
