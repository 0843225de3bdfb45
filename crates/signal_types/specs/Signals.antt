-- The signals that a text declares, with their answers: a signal's number is its place in the list.
-- A combined signal's answer takes the next number.
use Rattle.std.specs.Prelude.{ℕ, ◌+◌, List, [], ◌∷◌, ◌++◌, length}
use Rattle.exchange_model.specs.declared.signal.SignalKind.{SignalKind}
use Rattle.exchange_model.specs.declared.signal.SignalKind.TheVariants as signal
use Rattle.plex_ast.specs.declared.tree.ShapeKind.{ShapeKind}
use Rattle.plex_ast.specs.declared.tree.ShapeKind.TheVariants.{Buffered, Direct, Combined, Outside}
use Rattle.plex_ast.specs.declared.tree.Signal.{Signal}
use Rattle.plex_ast.specs.declared.tree.Tree.{Tree}

-- the signal of this number and name, and its answer
abbrev pub shape_kinds : ℕ → List ℕ → ShapeKind → List SignalKind
shape_kinds number name (Buffered level values) = signal.Buffered name level.level values.value ∷ []
shape_kinds number name (Direct values) = signal.Direct name values.value ∷ []
shape_kinds number name (Combined values answer answer_values) =
    signal.Combined name values.value (number + 1)
    ∷ signal.Answer answer.name answer_values.value number ∷ []
shape_kinds number name (Outside values) = signal.Outside name values.value ∷ []

abbrev pub kinds_of : ℕ → Signal → List SignalKind
kinds_of number s = shape_kinds number s.name.name s.shape.kind

-- the signals from this number on
unfoldable pub signals_from : ℕ → List Signal → List SignalKind
signals_from number [] = []
signals_from number (s ∷ rest) =
    kinds_of number s ++ signals_from (number + length (kinds_of number s)) rest

abbrev pub signals_of : Tree → List SignalKind
signals_of t = signals_from 0 t.signals
