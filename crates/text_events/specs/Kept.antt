-- What is kept of an event, and the line and the note that it stands for: the tree tells what it
-- can, so that little is kept.
use Rattle.std.specs.Prelude.{ℕ, List, get_or, map}
use Rattle.plex_ast.specs.declared.block.Item.{Item}
use Rattle.plex_ast.specs.declared.block.ItemKind.{ItemKind}
use Rattle.plex_ast.specs.declared.block.ItemKind.TheVariants as items
use Rattle.plex_ast.specs.declared.stmt.Stmt.{Stmt}
use Rattle.text_events.specs.declared.kept.PackedEvent.{PackedEvent}
use Rattle.text_events.specs.declared.kept.PackedEvent.TheVariants as kept
use Rattle.text_events.specs.declared.role.Meaning.TheVariants as meaning
use Rattle.text_events.specs.Note.{Event, Note}
use Rattle.text_events.specs.Note as note
use Rattle.text_events.specs.Seen.{begins_at, stmt_heads, item_heads}

-- the line of the statement at a place of a list
abbrev pub stmt_line_at : List Stmt → ℕ → ℕ
stmt_line_at ss i = get_or (map (λ (s : Stmt). s.line) ss) i 0

-- the line of an item, of which a statement tells its own
abbrev pub own_line : ItemKind → ℕ → ℕ
own_line (items.Stmt s) line = s.line
own_line _ line = line

abbrev pub item_line_at : List Item → ℕ → ℕ
item_line_at xs i = get_or (map (λ (x : Item). own_line x.kind x.line) xs) i 0

abbrev pub line_kept : PackedEvent → ℕ
line_kept (kept.Signals line count) = line
line_kept (kept.Signal line name) = line
line_kept (kept.Carries line count) = line
line_kept (kept.Block line) = line
line_kept (kept.BlockName line name) = line
line_kept (kept.Cells line count) = line
line_kept (kept.Variable number name) = name.now.line
line_kept (kept.Temporary number name) = name.now.line
line_kept (kept.File forlopp file name) = name.now.line
line_kept (kept.Field here) = here.name.now.line
line_kept (kept.Label number name) = name.now.line
line_kept (kept.Width line bits) = line
line_kept (kept.Init line value bits) = line
line_kept (kept.Size line records) = line
line_kept (kept.Receives line signal) = line
line_kept (kept.Names role line signal) = line
line_kept (kept.Begins at list) = stmt_line_at list.now at
line_kept (kept.BeginsItem at list) = item_line_at list.now at
line_kept (kept.Uses need line name) = line
line_kept (kept.Reads need owner name) = name.now.line
line_kept (kept.Counts line owner) = line
line_kept (kept.Refers owner block) = block.now.line
line_kept (kept.Goes line label) = line
line_kept (kept.Searches line file) = line
line_kept (kept.Compares both) = both.field.now.line
line_kept (kept.Holds line file) = line
line_kept (kept.Chooses line owner number) = line
line_kept (kept.Ends line) = line

abbrev pub note_kept : PackedEvent → Note
note_kept (kept.Signals line count) = note.Signals count
note_kept (kept.Signal line name) = note.Signal name.now
note_kept (kept.Carries line count) = note.Carries count
note_kept (kept.Block line) = note.Block
note_kept (kept.BlockName line name) = note.BlockName name.now
note_kept (kept.Cells line count) = note.Cells count
note_kept (kept.Variable number name) = note.Declares name.now.name (meaning.Variable number)
note_kept (kept.Temporary number name) = note.Declares name.now.name (meaning.Temporary number)
note_kept (kept.File forlopp file name) = note.Declares name.now.name (meaning.File file forlopp)
note_kept (kept.Field here) = note.Declares here.name.now.name (meaning.Field here.file here.field)
note_kept (kept.Label number name) = note.Declares name.now.name (meaning.Label number)
note_kept (kept.Width line bits) = note.Width bits
note_kept (kept.Init line value bits) = note.Init value bits
note_kept (kept.Size line records) = note.Size records
note_kept (kept.Receives line signal) = note.Receives signal.now
note_kept (kept.Names role line signal) = note.Names signal.now role
note_kept (kept.Begins at list) = begins_at (stmt_heads list.now) at
note_kept (kept.BeginsItem at list) = begins_at (item_heads list.now) at
note_kept (kept.Uses need line name) = note.Uses name.now need
note_kept (kept.Reads need owner name) = note.Reads name.now.name need owner
note_kept (kept.Counts line owner) = note.Counts owner
note_kept (kept.Refers owner block) = note.Refers block.now.name owner
note_kept (kept.Goes line label) = note.Goes label.now
note_kept (kept.Searches line file) = note.Searches file.now
note_kept (kept.Compares both) = note.Compares both.field.now.name both.file.now.name
note_kept (kept.Holds line file) = note.Holds file.now
note_kept (kept.Chooses line owner number) = note.Chooses owner number
note_kept (kept.Ends line) = note.Ends

-- the event of which this is kept
abbrev pub said_of : PackedEvent → Event
said_of k = record { line = line_kept k; note = note_kept k }
