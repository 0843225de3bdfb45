-- The text of a signal file with certain lines.
use Rattle.std.specs.Prelude.{ℕ, List, [], ◌∷◌, ◌++◌, codes, flat_map}
use Rattle.std.specs.Fmt.{decimal}
use Rattle.exchange_model.specs.declared.exchange.Exchange.{Exchange}
use Rattle.exchange_model.specs.Names.{name_of_entry}
use Rattle.signal_file.specs.declared.line.Line.{Line}
use Rattle.signal_file.specs.declared.line.LineKind.{LineKind}
use Rattle.signal_file.specs.declared.line.LineKind.TheVariants.{Fresh, Bare, Same}

abbrev pub value_words : List ℕ → List ℕ
value_words values = flat_map (λ v. codes " " ++ decimal v) values

abbrev pub ending_words : LineKind → List ℕ
ending_words Fresh = codes " NEW"
ending_words Bare = codes " NONE"
ending_words (Same line) = codes " AS " ++ decimal line

-- a line, without its end
abbrev pub line_words : Exchange → Line → List ℕ
line_words x l = codes "AFTER " ++ decimal l.after ++ codes " " ++ name_of_entry x l.entry
    ++ value_words l.values ++ ending_words l.kind

abbrev pub written_out : Exchange → List Line → List ℕ
written_out x lines = flat_map (λ l. line_words x l ++ 10 ∷ []) lines
