use Rattle.std.proofs.Common.{map}
use Rattle.source_meaning.proofs.Opening.{opening_valid}
use Rattle.run_books.specs.Lines.{coming_of}
use Rattle.run_books.proofs.Fitting.{signal_lines_few, signal_lines_fit}
use Rattle.run_books.proofs.laws.lines_fit_their_exchange.Goals as goal

pub returns-clause-lines : goal.returns-clause-lines
returns-clause-lines c x text lines is = signal_lines_fit x text lines is

pub returns-clause-few : goal.returns-clause-few
returns-clause-few c x text lines is short = signal_lines_few x text lines short is

pub returns-clause-opening : goal.returns-clause-opening
returns-clause-opening c x text lines is kept = opening_valid x kept (map coming_of lines) (signal_lines_fit x text lines is)
