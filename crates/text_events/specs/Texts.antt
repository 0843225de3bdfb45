-- What stands in a text, in its order. It stands in parts: the signals, and each of the blocks.
use Rattle.std.specs.Prelude.{ℕ, List, [], ◌∷◌, map}
use Rattle.token_grammar.specs.declared.named.Named.{Named}
use Rattle.token_grammar.specs.declared.named.Numbered.{Numbered}
use Rattle.plex_ast.specs.declared.tree.ShapeKind.{ShapeKind}
use Rattle.plex_ast.specs.declared.tree.ShapeKind.TheVariants.{Buffered, Direct, Combined, Outside}
use Rattle.plex_ast.specs.declared.tree.Signal.{Signal}
use Rattle.plex_ast.specs.declared.tree.Tree.{Tree}
use Rattle.text_events.specs.Note.{Event}
use Rattle.text_events.specs.Note as note
use Rattle.text_events.specs.Walk.{EventWalk, add, in_turn}
use Rattle.text_events.specs.Blocks.{block_events}

abbrev pub name_said : Named → EventWalk
name_said n out = add n.line (note.Signal n.name) out

abbrev pub values_said : Numbered → EventWalk
values_said n out = add n.line (note.Carries n.value) out

-- a combined signal makes two: itself and its answer
abbrev pub signals_made : ShapeKind → ℕ
signals_made (Combined values answer answer_values) = 2
signals_made _ = 1

abbrev pub shape_walk : ShapeKind → EventWalk
shape_walk (Buffered level values) out = values_said values out
shape_walk (Direct values) out = values_said values out
shape_walk (Combined values answer answer_values) out =
    values_said answer_values (name_said answer (values_said values out))
shape_walk (Outside values) out = values_said values out

abbrev pub signal_walk : Signal → EventWalk
signal_walk s out = shape_walk s.shape.kind (name_said s.name
    (add s.line (note.Signals (signals_made s.shape.kind)) out))

abbrev pub signal_events : Tree → List Event
signal_events t = in_turn (map signal_walk t.signals) []

unfoldable pub text_events : Tree → List (List Event)
text_events t = signal_events t ∷ map block_events t.blocks
