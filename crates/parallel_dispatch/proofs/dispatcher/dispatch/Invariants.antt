use Rattle.run_books.specs.Accounts.{with_words}
use Rattle.parallel_dispatch.proofs.dispatcher.dispatch.Given as goal

abbrev pub ghosts-run_named-B-Naming : goal.ghosts-run_named-B-Naming
ghosts-run_named-B-Naming g a = record { exchange = a.means.now.exchange.now; code = a.means.now.code.now; store = a.means.now.store.now; book = a.book.now }

abbrev pub ghosts-run_named-B-Course : goal.ghosts-run_named-B-Course
ghosts-run_named-B-Course g a = record {
  kept = a.context.now.checked.now;
  workers = a.context.now.workers;
  first = with_words a.run.books.state a.run.root.1.values;
  limit = a.run.books.limit;
}
