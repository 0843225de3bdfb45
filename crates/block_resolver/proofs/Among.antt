-- A block among the signals and blocks of its tables is one among those signals and blocks.
use Rattle.std.proofs.Common.{◌≡◌, List, ◌∙◌, ap}
use Rattle.exchange_model.specs.declared.signal.SignalKind.{SignalKind}
use Rattle.plex_ast.specs.declared.block.Block.{Block}
use Rattle.text_events.specs.Blocks.{block_events}
use Rattle.text_events.specs.Note.{Event}
use Rattle.text_events.specs.declared.role.Meaning.{Meaning}
use Rattle.resolved_block.specs.declared.parts.First.{First}
use Rattle.resolved_block.specs.declared.parts.Typed.{Typed}
use Rattle.resolved_block.specs.Names.{Naming, meanings_of}
use Rattle.resolved_block.specs.Blocks.{typed_of, typed_with}

pub among_is : (signals : List SignalKind) (blocks : List Block) (first : First) (b : Block) (events : List Event)
    (names : Naming Meaning) (t : Typed) → events ≡ block_events b → names ≡ meanings_of first.file events
    → t ≡ typed_with (record { name = names; signals = signals; blocks = blocks }) first b
    → t ≡ typed_of signals blocks first b
unfolding typed_of
among_is signals blocks first b events names t those meant is =
    is ∙ ap (λ m. typed_with (record { name = m; signals = signals; blocks = blocks }) first b) (meant ∙ ap (meanings_of first.file) those)
