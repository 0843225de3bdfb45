-- The lines of a signal file after reading.
use Rattle.std.specs.Prelude.{◌≡◌, ℕ, ◌<◌, ◌^◌, List, [], length, map, Ok}
use Rattle.exchange_model.specs.declared.exchange.Exchange.{Exchange}
use Rattle.signal_file.specs.declared.line.Line.{Line}
use Rattle.signal_file.specs.Lines.{signal_lines}
use Rattle.source_meaning.specs.Valid.{LinesFit}
use Rattle.run_books.specs.Lines.{coming_of}

-- the lines fit the exchange, and there are fewer than 2^32
pub record AreRead (x : Exchange) (lines : List Line) : Type 0 where
  pub fit : LinesFit x [] (map coming_of lines)
  pub few : length lines < 2 ^ 32

-- the lines are those of the text of a signal file
pub record AreOfText (x : Exchange) (lines : List Line) : Type 0 where
  pub text : List ℕ
  pub are : signal_lines x text ≡ Ok lines
