-- What the surveys and the programs of blocks say of signals, by their names.
use Rattle.std.specs.Prelude.{ℕ, Bool, false, List, Option, Some, None, position, slice_get}
use Rattle.std.specs.Str.{bytes_eq}
use Rattle.first_fault.specs.First.{any, count}
use Rattle.plex_ast.specs.declared.block.Block.{Block}
use Rattle.plex_ast.specs.declared.block.Survey.{Survey}
use Rattle.plex_ast.specs.declared.block.SurveyKind.{SurveyKind}
use Rattle.plex_ast.specs.declared.block.SurveyKind.TheVariants as survey
use Rattle.plex_ast.specs.declared.block.Item.{Item}
use Rattle.plex_ast.specs.declared.block.ItemKind.{ItemKind}
use Rattle.plex_ast.specs.declared.block.ItemKind.TheVariants as item

-- a line of a survey receives a signal, and sends one

abbrev pub kind_receives : List ℕ → SurveyKind → Bool
kind_receives s (survey.Receive n) = bytes_eq n.name s
kind_receives s (survey.Send n) = false

abbrev pub line_receives : List ℕ → Survey → Bool
line_receives s l = kind_receives s l.kind

abbrev pub kind_sends : List ℕ → SurveyKind → Bool
kind_sends s (survey.Receive n) = false
kind_sends s (survey.Send n) = bytes_eq n.name s

abbrev pub line_sends : List ℕ → Survey → Bool
line_sends s l = kind_sends s l.kind

-- an item enters a signal

abbrev pub kind_enters : List ℕ → ItemKind → Bool
kind_enters s (item.Label n) = false
kind_enters s (item.Enter n ns) = bytes_eq n.name s
kind_enters s (item.Stmt x) = false

abbrev pub item_enters : List ℕ → Item → Bool
item_enters s x = kind_enters s x.kind

-- a block receives, sends and enters a signal

abbrev pub receives : List ℕ → Block → Bool
receives s b = any (line_receives s) b.surveys

abbrev pub sends : List ℕ → Block → Bool
sends s b = any (line_sends s) b.surveys

abbrev pub enters : List ℕ → Block → Bool
enters s b = any (item_enters s) b.items

-- the number of the first block of a name, and of the first one that receives a signal; how many
-- receive it

abbrev pub has_name : List ℕ → Block → Bool
has_name n b = bytes_eq b.name.name n

abbrev pub block_named : List Block → List ℕ → Option ℕ
block_named blocks n = position (has_name n) blocks

abbrev pub first_receiver : List Block → List ℕ → Option ℕ
first_receiver blocks s = position (receives s) blocks

abbrev pub receiver_count : List Block → List ℕ → ℕ
receiver_count blocks s = count (receives s) blocks

-- the same of a block that may be there

abbrev pub is_so : (Block → Bool) → Option Block → Bool
is_so test None = false
is_so test (Some b) = test b

-- the block of a number receives a signal
abbrev pub receives_at : List Block → ℕ → List ℕ → Bool
receives_at blocks b s = is_so (receives s) (slice_get blocks b)
