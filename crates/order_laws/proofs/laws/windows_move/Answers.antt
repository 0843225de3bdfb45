use Rattle.order_laws.proofs.Moving.{window_books, window_fits, window_grows, window_none}
use Rattle.order_laws.proofs.Moving.{window_retired}
use Rattle.order_laws.proofs.laws.windows_move.Goals as goal

pub returns-clause-none : goal.returns-clause-none
returns-clause-none c = window_none

pub returns-clause-grows : goal.returns-clause-grows
returns-clause-grows c = window_grows

pub returns-clause-retired : goal.returns-clause-retired
returns-clause-retired c = λ x s oldest rest v w. window_retired x s v oldest rest w

pub returns-clause-books : goal.returns-clause-books
returns-clause-books c = λ x s oldest rest words v w. window_books x s v oldest rest words w

pub returns-clause-fits : goal.returns-clause-fits
returns-clause-fits c = window_fits
