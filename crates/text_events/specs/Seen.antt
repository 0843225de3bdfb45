-- What the program keeps of a place, and the note that it stands for: names stand in the tree, and
-- what begins at a place is told by the list and the number of the statement in it.
use Rattle.std.specs.Prelude.{ℕ, zero, suc, List, get_or, map}
use Rattle.plex_ast.specs.declared.block.Item.{Item}
use Rattle.plex_ast.specs.declared.stmt.Stmt.{Stmt}
use Rattle.text_events.specs.declared.event.EventKind.{EventKind}
use Rattle.text_events.specs.declared.event.EventKind.TheVariants as kind
use Rattle.text_events.specs.declared.heads.Head.{Head as SeenHead}
use Rattle.text_events.specs.declared.heads.Head.TheVariants as seen
use Rattle.text_events.specs.declared.heads.Way.{Way as SeenWay}
use Rattle.text_events.specs.declared.heads.Way.TheVariants as way
use Rattle.text_events.specs.Note.{Note, Head, SignalWay}
use Rattle.text_events.specs.Note as note
use Rattle.text_events.specs.Walk.{EventWalk, head_of}
use Rattle.text_events.specs.Blocks.{item_head_at, item_walk_at}

abbrev pub way_seen : SeenWay → SignalWay
way_seen way.Open = note.Open
way_seen (way.To name) = note.To name.now
way_seen way.Held = note.Held

abbrev pub head_seen : SeenHead → Head
head_seen seen.Nothing = note.Nothing
head_seen seen.Other = note.Other
head_seen (seen.Enters signal count) = note.Enters signal.now count
head_seen (seen.Sends signal way count fresh) = note.Sends signal.now (way_seen way) count fresh
head_seen (seen.Retrieves signal count) = note.Retrieves signal.now count
head_seen (seen.Returns signal count) = note.Returns signal.now count
head_seen (seen.Transfers signal way) = note.Transfers signal.now (way_seen way)

-- the head at a place of a list, and the one before it
abbrev pub head_at : List Head → ℕ → Head
head_at heads i = get_or heads i note.Nothing

abbrev pub head_before : List Head → ℕ → Head
head_before heads zero = note.Nothing
head_before heads (suc i) = head_at heads i

abbrev pub begins_at : List Head → ℕ → Note
begins_at heads i = note.Begins (head_at heads i) (head_before heads i) (head_at heads (suc i))

abbrev pub stmt_heads : List Stmt → List Head
stmt_heads ss = map head_of ss

abbrev pub item_heads : List Item → List Head
item_heads xs = map (λ (x : Item). item_head_at x.kind) xs

abbrev pub note_of : EventKind → Note
note_of (kind.Signals count) = note.Signals count
note_of (kind.Signal name) = note.Signal name.now
note_of (kind.Carries count) = note.Carries count
note_of kind.Block = note.Block
note_of (kind.BlockName name) = note.BlockName name.now
note_of (kind.Cells count) = note.Cells count
note_of (kind.Declares name meaning) = note.Declares name.now meaning
note_of (kind.Width bits) = note.Width bits
note_of (kind.Init value bits) = note.Init value bits
note_of (kind.Size records) = note.Size records
note_of (kind.Receives signal) = note.Receives signal.now
note_of (kind.Names signal role) = note.Names signal.now role
note_of (kind.Begins list at) = begins_at (stmt_heads list.now) at
note_of (kind.BeginsItem list at) = begins_at (item_heads list.now) at
note_of (kind.Uses name need) = note.Uses name.now need
note_of (kind.Reads name need owner) = note.Reads name.now need owner
note_of (kind.Counts owner) = note.Counts owner
note_of (kind.Refers block owner) = note.Refers block.now owner
note_of (kind.Goes label) = note.Goes label.now
note_of (kind.Searches file) = note.Searches file.now
note_of (kind.Compares field file) = note.Compares field.now file.now
note_of (kind.Holds file) = note.Holds file.now
note_of (kind.Chooses owner number) = note.Chooses owner number
note_of kind.Ends = note.Ends

-- the walk of the item at a place, after as many labels
abbrev pub item_walk_in : Item → List Item → ℕ → ℕ → EventWalk
item_walk_in x items at label out = item_walk_at x.kind x.line label
    (head_before (item_heads items) at) (head_at (item_heads items) (suc at)) out
