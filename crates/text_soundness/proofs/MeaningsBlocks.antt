-- What a block declares: its declarations, and then its labels.
use Rattle.std.proofs.Common.{ℕ, ◌+◌, false, List, [], ◌∷◌, ◌++◌, length, map, Option, Some, None}
use Rattle.std.proofs.Common.{subst}
use Rattle.std.proofs.lemmas.List.{append-nil}
use Rattle.token_grammar.specs.declared.named.Numbered.{Numbered}
use Rattle.plex_ast.specs.declared.block.Block.{Block}
use Rattle.plex_ast.specs.declared.block.Decl.{Decl}
use Rattle.plex_ast.specs.declared.block.DeclKind.{DeclKind}
use Rattle.plex_ast.specs.declared.block.DeclKind.TheVariants as decls
use Rattle.plex_ast.specs.declared.block.Field.{Field}
use Rattle.plex_ast.specs.declared.block.Survey.{Survey}
use Rattle.plex_ast.specs.declared.block.SurveyKind.{SurveyKind}
use Rattle.plex_ast.specs.declared.block.SurveyKind.TheVariants as surveys
use Rattle.plex_ast.specs.declared.block.Item.{Item}
use Rattle.plex_ast.specs.declared.block.ItemKind.{ItemKind}
use Rattle.plex_ast.specs.declared.block.ItemKind.TheVariants as items
use Rattle.text_events.specs.Note.{Event}
use Rattle.text_events.specs.Note.{Head}
use Rattle.text_events.specs.declared.role.Meaning.TheVariants as meaning
use Rattle.text_events.specs.Note as note
use Rattle.text_events.specs.declared.role.Role.TheVariants as role
use Rattle.text_events.specs.Walk.{add, in_turn, names_of, names_walk}
use Rattle.text_events.specs.Blocks.{width_walk, field_walk, fields_walk, variables_of}
use Rattle.text_events.specs.Blocks.{temporaries_of, files_of, cells_of, decl_walk, decls_walk}
use Rattle.text_events.specs.Blocks.{survey_walk, survey_walk_at, item_head_at, labels_of}
use Rattle.text_events.specs.Blocks.{item_walk_at, first_item, items_walk, block_head, block_body}
use Rattle.text_events.specs.Blocks.{block_events}
use Rattle.text_soundness.proofs.MeaningsSaid.{Said, Adds, adds_none, adds_one, adds_then, Quiet}
use Rattle.text_soundness.proofs.MeaningsSaid.{quiet_then, in_turn_quiet}
use Rattle.text_soundness.proofs.BuiltText.{Begin, begin_then, begin_add}
use Rattle.text_soundness.proofs.MeaningsStmts.{names_quiet, stmt_quiet}

-- the fields of a file, from this place on
unfoldable pub fields_said : List Field → ℕ → ℕ → List Said
fields_said [] file field = []
fields_said (d ∷ rest) file field = record { name = d.name.name; meaning = meaning.Field file field } ∷ fields_said rest file (field + 1)

abbrev pub kind_said : DeclKind → ℕ → ℕ → ℕ → List Said
kind_said (decls.Variable n w i clear) v t f = record { name = n.name; meaning = meaning.Variable v } ∷ []
kind_said (decls.Temporary n) v t f = record { name = n.name; meaning = meaning.Temporary t } ∷ []
kind_said (decls.File forlopp n size fields) v t f = record { name = n.name; meaning = meaning.File f forlopp } ∷ fields_said fields f 0

unfoldable pub decls_said : List Decl → ℕ → ℕ → ℕ → List Said
decls_said [] v t f = []
decls_said (d ∷ rest) v t f = kind_said d.kind v t f ++ decls_said rest (v + variables_of d.kind) (t + temporaries_of d.kind) (f + files_of d.kind)

abbrev pub item_said : ItemKind → ℕ → List Said
item_said (items.Label n) k = record { name = n.name; meaning = meaning.Label k } ∷ []
item_said _ k = []

unfoldable pub labels_said : List Item → ℕ → List Said
labels_said [] k = []
labels_said (x ∷ rest) k = item_said x.kind k ++ labels_said rest (k + labels_of x.kind)

pub width_quiet : (width : Numbered) (init : Option Numbered) → Quiet (width_walk width init)
width_quiet width None = adds_one width.line (note.Width width.value)
width_quiet width (Some i) = quiet_then (add width.line (note.Width width.value))
    (add i.line (note.Init i.value width.value)) (adds_one width.line (note.Width width.value))
    (adds_one i.line (note.Init i.value width.value))

pub fields_add : (fields : List Field) (file field : ℕ) (out : List Event) → Adds out (fields_walk fields file field out) (fields_said fields file field)
unfolding fields_said
fields_add [] file field out = adds_none out
fields_add (d ∷ rest) file field out =
    let named = add d.name.line (note.Declares d.name.name (meaning.Field file field)) out in
    let said : Said = record { name = d.name.name; meaning = meaning.Field file field } in
    adds_then out (field_walk d file field out) (fields_walk rest file (field + 1) (field_walk d file field out))
    (said ∷ []) (fields_said rest file (field + 1))
    (adds_then out named (width_walk d.width d.init named) (said ∷ []) []
    (adds_one d.name.line (note.Declares d.name.name (meaning.Field file field)) out)
    (width_quiet d.width d.init named))
    (fields_add rest file (field + 1) (field_walk d file field out))

pub decl_adds : (kind : DeclKind) (v t f : ℕ) (out : List Event) → Adds out (decl_walk kind v t f out) (kind_said kind v t f)
decl_adds (decls.Variable n w i clear) v t f out =
    let named = add n.line (note.Declares n.name (meaning.Variable v)) out in
    adds_then out named (width_walk w i named) (record { name = n.name; meaning = meaning.Variable v } ∷ []) []
    (adds_one n.line (note.Declares n.name (meaning.Variable v)) out) (width_quiet w i named)
decl_adds (decls.Temporary n) v t f out = adds_one n.line (note.Declares n.name (meaning.Temporary t)) out
decl_adds (decls.File forlopp n size fields) v t f out =
    let named = add n.line (note.Declares n.name (meaning.File f forlopp)) out in
    let sized = add size.line (note.Size size.value) named in
    let said : Said = record { name = n.name; meaning = meaning.File f forlopp } in
    adds_then out sized (fields_walk fields f 0 sized) (said ∷ []) (fields_said fields f 0)
    (adds_then out named sized (said ∷ []) [] (adds_one n.line (note.Declares n.name (meaning.File f forlopp)) out)
    (adds_one size.line (note.Size size.value) named))
    (fields_add fields f 0 sized)

pub decls_add : (ds : List Decl) (v t f : ℕ) (out : List Event) → Adds out (decls_walk ds v t f out) (decls_said ds v t f)
unfolding decls_said
decls_add [] v t f out = adds_none out
decls_add (d ∷ rest) v t f out =
    let counted = add d.line (note.Cells (cells_of d.kind)) out in
    let after = decl_walk d.kind v t f counted in
    let w = v + variables_of d.kind in
    let u = t + temporaries_of d.kind in
    let g = f + files_of d.kind in
    adds_then out after (decls_walk rest w u g after) (kind_said d.kind v t f) (decls_said rest w u g)
    (adds_then out counted after [] (kind_said d.kind v t f) (adds_one d.line (note.Cells (cells_of d.kind)) out)
    (decl_adds d.kind v t f counted)) (decls_add rest w u g after)

survey_kind_quiet : (s : SurveyKind) (line : ℕ) → Quiet (survey_walk_at s line)
survey_kind_quiet (surveys.Receive s) line = quiet_then (add line (note.Receives s.name))
    (add s.line (note.Names s.name role.Received)) (adds_one line (note.Receives s.name))
    (adds_one s.line (note.Names s.name role.Received))
survey_kind_quiet (surveys.Send s) line = adds_one s.line (note.Names s.name (role.Sent false))

survey_quiet : (s : Survey) → Quiet (survey_walk s)
survey_quiet s = survey_kind_quiet s.kind s.line

pub surveys_quiet : (ss : List Survey) → Quiet (in_turn (map survey_walk ss))
surveys_quiet ss = in_turn_quiet survey_walk survey_quiet ss

pub item_adds : (kind : ItemKind) (line k : ℕ) (before after : Head) (out : List Event)
    → Adds out (item_walk_at kind line k before after out) (item_said kind k)
item_adds (items.Label n) line k before after out = adds_one n.line (note.Declares n.name (meaning.Label k)) out
item_adds (items.Enter s ns) line k before after out =
    let begins = note.Begins (note.Enters s.name (length (names_of ns))) before after in
    quiet_then (λ o. add s.line (note.Names s.name role.Received) (add line begins o)) (names_walk ns)
    (quiet_then (add line begins) (add s.line (note.Names s.name role.Received)) (adds_one line begins) (adds_one s.line (note.Names s.name role.Received)))
    (names_quiet ns) out
item_adds (items.Stmt s) line k before after out = stmt_quiet s before after out

pub items_add : (xs : List Item) (k : ℕ) (before : Head) (out : List Event) → Adds out (items_walk xs k before out) (labels_said xs k)
unfolding labels_said
items_add [] k before out = adds_none out
items_add (x ∷ rest) k before out =
    let after = item_walk_at x.kind x.line k before (first_item rest) out in
    adds_then out after (items_walk rest (k + labels_of x.kind) (item_head_at x.kind) after) (item_said x.kind k) (labels_said rest (k + labels_of x.kind))
    (item_adds x.kind x.line k before (first_item rest) out) (items_add rest (k + labels_of x.kind) (item_head_at x.kind) after)

-- all that a block declares, in the order of its text
abbrev pub block_said : Block → List Said
block_said b = decls_said b.decls 0 0 0 ++ labels_said b.items 0

pub block_adds : (b : Block) → Adds [] (block_events b) (block_said b)
block_adds b =
    let head = block_head b in
    let declared = decls_walk b.decls 0 0 0 head in
    let begun = adds_then [] (add b.line note.Block []) head [] [] (adds_one b.line note.Block [])
    (adds_one b.name.line (note.BlockName b.name.name) (add b.line note.Block [])) in
    let surveyed = in_turn (map survey_walk b.surveys) declared in
    let d = adds_then [] head declared [] (decls_said b.decls 0 0 0) begun (decls_add b.decls 0 0 0 head) in
    let g = adds_then [] declared surveyed (decls_said b.decls 0 0 0) [] d (surveys_quiet b.surveys declared) in
    let h : Adds [] surveyed (decls_said b.decls 0 0 0) = subst (Adds [] surveyed) (append-nil (decls_said b.decls 0 0 0)) g in
    let body = adds_then [] surveyed (block_body b) (decls_said b.decls 0 0 0) (labels_said b.items 0) h (items_add b.items 0 note.Nothing surveyed) in
    subst (Adds [] (block_events b)) (append-nil (block_said b))
    (adds_then [] (block_body b) (block_events b) (block_said b) [] body
    (adds_one b.end_line note.Ends (block_body b)))

-- a block begins with its name
pub block_begins : (b : Block) → Begin (block_head b) (block_events b)
block_begins b =
    let head = block_head b in
    let declared = decls_walk b.decls 0 0 0 head in
    let surveyed = in_turn (map survey_walk b.surveys) declared in
    let d = begins (decls_add b.decls 0 0 0 head) in
    let s = begins (surveys_quiet b.surveys declared) in
    let i = begins (items_add b.items 0 note.Nothing surveyed) in
    begin_add head (block_body b) b.end_line note.Ends (begin_then head surveyed (block_body b) (begin_then head declared surveyed d s) i)
  where
    begins : {out new : List Event} {saids : List Said} → Adds out new saids → Begin out new
    begins a = record { more = a.more; same = a.same }
