use Rattle.std.proofs.Common.{map}
use Rattle.run_books.specs.Lines.{coming_of}
use Rattle.exchange_run.proofs.Opened.{may_begin}
use Rattle.exchange_run.proofs.turns.before_lines.Goals as goal

pub returns-clause-may : goal.returns-clause-may
returns-clause-may c = may_begin c.args.exchange.now (map coming_of c.args.lines) c.args.limit c.new-books.result
    c.in_ok-words.words c.kept.ensures c.requires.lines c.new-books.ensures c.in_ok-words.ensures
