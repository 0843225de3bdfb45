-- What stands in a block, in the order of its text.
use Rattle.std.specs.Prelude.{ℕ, ◌+◌, ◌*◌, List, [], ◌∷◌, length, map, Option, Some, None, false}
use Rattle.token_grammar.specs.declared.named.Numbered.{Numbered}
use Rattle.plex_ast.specs.declared.block.Block.{Block}
use Rattle.plex_ast.specs.declared.block.Decl.{Decl}
use Rattle.plex_ast.specs.declared.block.DeclKind.{DeclKind}
use Rattle.plex_ast.specs.declared.block.DeclKind.TheVariants as decls
use Rattle.plex_ast.specs.declared.block.Field.{Field}
use Rattle.plex_ast.specs.declared.block.Survey.{Survey}
use Rattle.plex_ast.specs.declared.block.SurveyKind.{SurveyKind}
use Rattle.plex_ast.specs.declared.block.SurveyKind.TheVariants as surveys
use Rattle.plex_ast.specs.declared.block.Item.{Item}
use Rattle.plex_ast.specs.declared.block.ItemKind.{ItemKind}
use Rattle.plex_ast.specs.declared.block.ItemKind.TheVariants as items
use Rattle.exchange_model.specs.Cells.{marks}
use Rattle.text_events.specs.declared.role.Meaning.TheVariants as meaning
use Rattle.text_events.specs.declared.role.Role.TheVariants as role
use Rattle.text_events.specs.Note.{Event, Head}
use Rattle.text_events.specs.Note as note
use Rattle.text_events.specs.Walk.{EventWalk, add, in_turn, names_of, names_walk, stmt_walk}
use Rattle.text_events.specs.Walk.{head_of}

-- declarations

abbrev pub init_walk : Option Numbered → ℕ → EventWalk
init_walk None bits out = out
init_walk (Some i) bits out = add i.line (note.Init i.value bits) out

-- WIDTH, and INIT where it stands
abbrev pub width_walk : Numbered → Option Numbered → EventWalk
width_walk width init out = init_walk init width.value (add width.line (note.Width width.value) out)

-- the field of this number in this file
abbrev pub field_walk : Field → ℕ → ℕ → EventWalk
field_walk d file field out = width_walk d.width d.init
    (add d.name.line (note.Declares d.name.name (meaning.Field file field)) out)

abbrev pub fields_walk : List Field → ℕ → ℕ → EventWalk
fields_walk [] file field out = out
fields_walk (d ∷ rest) file field out =
    fields_walk rest file (field + 1) (field_walk d file field out)

abbrev pub variables_of : DeclKind → ℕ
variables_of (decls.Variable n w i clear) = 1
variables_of _ = 0

abbrev pub temporaries_of : DeclKind → ℕ
temporaries_of (decls.Temporary n) = 1
temporaries_of _ = 0

abbrev pub files_of : DeclKind → ℕ
files_of (decls.File forlopp n size fields) = 1
files_of _ = 0

-- a file with its fields is one declaration
abbrev pub cells_of : DeclKind → ℕ
cells_of (decls.Variable n w i clear) = 1
cells_of (decls.Temporary n) = 0
cells_of (decls.File forlopp n size fields) = size.value * (length fields + marks forlopp)

-- a declaration, after as many variables, temporaries and files
abbrev pub decl_walk : DeclKind → ℕ → ℕ → ℕ → EventWalk
decl_walk (decls.Variable n w i clear) v t f out =
    width_walk w i (add n.line (note.Declares n.name (meaning.Variable v)) out)
decl_walk (decls.Temporary n) v t f out =
    add n.line (note.Declares n.name (meaning.Temporary t)) out
decl_walk (decls.File forlopp n size fields) v t f out = fields_walk fields f 0
    (add size.line (note.Size size.value) (add n.line
    (note.Declares n.name (meaning.File f forlopp)) out))

abbrev pub decls_walk : List Decl → ℕ → ℕ → ℕ → EventWalk
decls_walk [] v t f out = out
decls_walk (d ∷ rest) v t f out =
    decls_walk rest (v + variables_of d.kind) (t + temporaries_of d.kind) (f + files_of d.kind)
    (decl_walk d.kind v t f (add d.line (note.Cells (cells_of d.kind)) out))

-- the survey

abbrev pub survey_walk_at : SurveyKind → ℕ → EventWalk
survey_walk_at (surveys.Receive s) line out =
    add s.line (note.Names s.name role.Received) (add line (note.Receives s.name) out)
survey_walk_at (surveys.Send s) line out = add s.line (note.Names s.name (role.Sent false)) out

abbrev pub survey_walk : Survey → EventWalk
survey_walk s out = survey_walk_at s.kind s.line out

-- the program: a label and an ENTER are neighbours too

abbrev pub item_head_at : ItemKind → Head
item_head_at (items.Label n) = note.Other
item_head_at (items.Enter s ns) = note.Enters s.name (length (names_of ns))
item_head_at (items.Stmt s) = head_of s

abbrev pub labels_of : ItemKind → ℕ
labels_of (items.Label n) = 1
labels_of _ = 0

-- an item on its line, after as many labels
abbrev pub item_walk_at : ItemKind → ℕ → ℕ → Head → Head → EventWalk
item_walk_at (items.Label n) line k before after out =
    add n.line (note.Declares n.name (meaning.Label k)) out
item_walk_at (items.Enter s ns) line k before after out =
    names_walk ns (add s.line (note.Names s.name role.Received)
    (add line (note.Begins (note.Enters s.name (length (names_of ns))) before after) out))
item_walk_at (items.Stmt s) line k before after out = (stmt_walk s).walk before after out

abbrev pub first_item : List Item → Head
first_item [] = note.Nothing
first_item (x ∷ rest) = item_head_at x.kind

abbrev pub items_walk : List Item → ℕ → Head → EventWalk
items_walk [] k before out = out
items_walk (x ∷ rest) k before out = items_walk rest (k + labels_of x.kind) (item_head_at x.kind)
    (item_walk_at x.kind x.line k before (first_item rest) out)

-- its name stands before all else, and its END after all else
abbrev pub block_head : Block → List Event
block_head b = add b.name.line (note.BlockName b.name.name) (add b.line note.Block [])

abbrev pub block_body : Block → List Event
block_body b = items_walk b.items 0 note.Nothing
    (in_turn (map survey_walk b.surveys) (decls_walk b.decls 0 0 0 (block_head b)))

abbrev pub block_events : Block → List Event
block_events b = add b.end_line note.Ends (block_body b)
