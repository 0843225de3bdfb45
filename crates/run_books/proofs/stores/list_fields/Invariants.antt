use Rattle.run_books.proofs.Listed.{Fielded}
use Rattle.run_books.proofs.stores.list_fields.Given as goal

abbrev pub invariant-loop-field : goal.invariant-loop-field
invariant-loop-field l = Fielded l.fn.stores l.stores l.first l.word l.fields l.field-index
