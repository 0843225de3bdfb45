-- What one step adds to a list, whatever is added after it.
use Rattle.std.specs.Prelude.{◌≡◌, ℕ, List, ◌++◌}
use Rattle.first_fault.specs.First.{or_else}
use Rattle.plex_ast.specs.declared.block.DeclKind.{DeclKind}
use Rattle.plex_ast.specs.declared.block.Item.{Item}
use Rattle.plex_ast.specs.declared.block.ItemKind.{ItemKind}
use Rattle.exchange_model.specs.declared.block.File.{File}
use Rattle.exchange_model.specs.declared.block.Label.{Label}
use Rattle.exchange_model.specs.declared.stmt.Stmt.{Stmt}
use Rattle.text_events.specs.Named.{meaning_of_note}
use Rattle.text_events.specs.Note.{Note}
use Rattle.text_events.specs.declared.role.Meaning.{Meaning}
use Rattle.resolved_block.specs.Names.{Naming, Env, counted_on}
use Rattle.resolved_block.specs.Statements.{Made}
use Rattle.resolved_block.specs.Blocks.{kind_made, kind_labels, kind_files}

-- an item adds to the statements before it, and goes on from a number to the next
abbrev pub AddsItem : Env → Item → List Stmt → List Stmt → ℕ → ℕ → Type 0
AddsItem env i before after point next =
    (rest : Made (List Stmt)) → after ++ (rest next).0 ≡ before
    ++ (kind_made env i.line i.kind rest point).0

abbrev pub CountsItem : Env → Item → ℕ → ℕ → Type 0
CountsItem env i point next =
    (rest : Made (List Stmt)) → (rest next).1 ≡ (kind_made env i.line i.kind rest point).1

-- an item adds to the labels before it, and goes on from a place to the next
abbrev pub AddsLabel : ItemKind → List Label → List Label → ℕ → ℕ → Type 0
AddsLabel kind before after place next =
    (rest : ℕ → List Label) → after ++ rest next ≡ before ++ kind_labels kind place rest

-- a declaration adds to the files before it, and goes on from a number to the next
abbrev pub AddsFile : DeclKind → List File → List File → ℕ → ℕ → Type 0
AddsFile kind before after number next =
    (rest : ℕ → List File) → after ++ rest next ≡ before ++ kind_files kind number rest

-- a note adds to what names stand for
abbrev pub AddsMeaning : ℕ → Note → Naming Meaning → Naming Meaning → Type 0
AddsMeaning first note before after =
    (n : List ℕ) → after n ≡ or_else (counted_on first (meaning_of_note n note)) (before n)
