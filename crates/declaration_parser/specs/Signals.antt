-- The grammar of signals, read by descent with one token of sight.
use Rattle.std.specs.Prelude.{ℕ}
use Rattle.token_grammar.specs.declared.named.Named.{Named}
use Rattle.token_grammar.specs.declared.named.Numbered.{Numbered}
use Rattle.token_grammar.specs.declared.named.Leveled.{Leveled}
use Rattle.token_grammar.specs.Reading.{Reader, branch, lined, after, ended, pair, name_read}
use Rattle.token_grammar.specs.Reading.{number_read, level_read}
use Rattle.plex_ast.specs.declared.tree.Signal.{Signal}
use Rattle.plex_ast.specs.declared.tree.Shape.{Shape}
use Rattle.plex_ast.specs.declared.tree.ShapeKind.{ShapeKind}
use Rattle.plex_ast.specs.declared.tree.ShapeKind.TheVariants as shapes
use Rattle.plex_ast.specs.Words.{SIGNAL, SINGLE, COMBINED, BUFFERED, DIRECT, OUTSIDE, DATA, ANSWER}
use Rattle.plex_ast.specs.Words.{SEMI}

unfoldable pub data_read : Reader Numbered
data_read = after DATA number_read

unfoldable pub buffered_read : Reader ShapeKind
buffered_read = lined (λ _ (p : Leveled × Numbered). shapes.Buffered p.0 p.1)
    (after BUFFERED (pair level_read data_read))

unfoldable pub direct_read : Reader ShapeKind
direct_read = lined (λ _ (n : Numbered). shapes.Direct n) (after DIRECT data_read)

unfoldable pub single_read : Reader ShapeKind
single_read = after SINGLE (branch BUFFERED buffered_read direct_read)

unfoldable pub combined_read : Reader ShapeKind
combined_read = lined (λ _ (p : Numbered × (Named × Numbered)). shapes.Combined p.0 p.1.0 p.1.1)
    (after COMBINED (pair data_read (after ANSWER (pair name_read data_read))))

unfoldable pub outside_read : Reader ShapeKind
outside_read = lined (λ _ (n : Numbered). shapes.Outside n) (after OUTSIDE data_read)

unfoldable pub shape_kind_read : Reader ShapeKind
shape_kind_read = branch SINGLE single_read (branch COMBINED combined_read outside_read)

abbrev pub shape_made : ℕ → ShapeKind → Shape
shape_made line k = record { line = line; kind = k }

unfoldable pub shape_read : Reader Shape
shape_read = lined shape_made shape_kind_read

abbrev pub signal_made : ℕ → Named × Shape → Signal
signal_made line p = record { line = line; name = p.0; shape = p.1 }

unfoldable pub signal_read : Reader Signal
signal_read = lined signal_made (after SIGNAL (pair name_read (ended shape_read SEMI)))
