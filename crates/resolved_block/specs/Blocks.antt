-- A block: what it declares, what its names stand for, its survey and its body.
use Rattle.std.specs.Prelude.{ℕ, ◌+◌, Bool, false, List, [], ◌∷◌, ◌++◌, map, filter_map, fold}
use Rattle.std.specs.Prelude.{length, Option, Some, None, if◌then◌else◌, nat_eq}
use Rattle.std.specs.List.{list_any}
use Rattle.token_grammar.specs.declared.named.Named.{Named}
use Rattle.token_grammar.specs.declared.named.Numbered.{Numbered}
use Rattle.plex_ast.specs.declared.block.Block.{Block}
use Rattle.plex_ast.specs.declared.block.Decl.{Decl}
use Rattle.plex_ast.specs.declared.block.DeclKind.{DeclKind}
use Rattle.plex_ast.specs.declared.block.DeclKind.TheVariants as decl
use Rattle.plex_ast.specs.declared.block.Field.{Field}
use Rattle.plex_ast.specs.declared.block.Survey.{Survey}
use Rattle.plex_ast.specs.declared.block.SurveyKind.{SurveyKind}
use Rattle.plex_ast.specs.declared.block.SurveyKind.TheVariants as survey
use Rattle.plex_ast.specs.declared.block.Item.{Item}
use Rattle.plex_ast.specs.declared.block.ItemKind.{ItemKind}
use Rattle.plex_ast.specs.declared.block.ItemKind.TheVariants as item
use Rattle.exchange_model.specs.declared.block.Variable.{Variable}
use Rattle.exchange_model.specs.declared.block.File.{File}
use Rattle.exchange_model.specs.declared.block.Label.{Label}
use Rattle.exchange_model.specs.declared.stmt.Stmt.{Stmt as MStmt}
use Rattle.exchange_model.specs.declared.stmt.StmtKind.TheVariants as stmt
use Rattle.exchange_model.specs.Kept.{enters_from}
use Rattle.exchange_model.specs.declared.signal.SignalKind.{SignalKind}
use Rattle.text_events.specs.Blocks.{block_events}
use Rattle.resolved_block.specs.declared.parts.First.{First}
use Rattle.resolved_block.specs.declared.parts.Typed.{Typed}
use Rattle.resolved_block.specs.Names.{Env, meanings_of}
use Rattle.resolved_block.specs.Meant.{byte_of, signal_of}
use Rattle.resolved_block.specs.Expressions.{typed_temps}
use Rattle.resolved_block.specs.Statements.{Made, typed_stmt}

-- what is declared

-- an INIT value: 0 where none is written
abbrev pub init_of : Option Numbered → ℕ
init_of None = 0
init_of (Some n) = n.value

-- `clear` says whether a restart gives it its INIT value again
abbrev pub variable_of : Named → Numbered → Option Numbered → Bool → Variable
variable_of n width init clear =
    record { name = n.name; width = byte_of width.value; init = init_of init; clear = clear }

-- no restart gives a field its INIT value again
abbrev pub field_of : Field → Variable
field_of f = variable_of f.name f.width f.init false

abbrev pub kind_variable : DeclKind → Option Variable
kind_variable (decl.Variable n width init clear) = Some (variable_of n width init clear)
kind_variable _ = None

abbrev pub variable_in : Decl → Option Variable
variable_in d = kind_variable d.kind

abbrev pub kind_temporary : DeclKind → Option (List ℕ)
kind_temporary (decl.Temporary n) = Some n.name
kind_temporary _ = None

abbrev pub temporary_in : Decl → Option (List ℕ)
temporary_in d = kind_temporary d.kind

-- a file, before those of the rest, which are numbered from the next number on
abbrev pub kind_files : DeclKind → ℕ → (ℕ → List File) → List File
kind_files (decl.File forlopp n size fields) number rest =
    record {
      name = n.name;
      number = number;
      forlopp = forlopp;
      size = size.value;
      fields = map field_of fields;
    } ∷ rest (number + 1)
kind_files _ number rest = rest number

unfoldable pub files_from : List Decl → ℕ → List File
files_from [] number = []
files_from (d ∷ rest) number = kind_files d.kind number (files_from rest)

-- the survey

abbrev pub kind_sent : Env → SurveyKind → Option ℕ
kind_sent env (survey.Receive s) = None
kind_sent env (survey.Send s) = Some (signal_of env s)

-- the signal that a line sends
abbrev pub sent_in : Env → Survey → Option ℕ
sent_in env s = kind_sent env s.kind

-- a number joins those before it, where it is new
abbrev pub joined_once : List ℕ → ℕ → List ℕ
joined_once numbers n = if list_any (nat_eq n) numbers then numbers else numbers ++ n ∷ []

-- each number once, in the order of their first mentions
abbrev pub first_mentions : List ℕ → List ℕ
first_mentions numbers = fold joined_once [] numbers

abbrev pub sends_of : Env → Block → List ℕ
sends_of env b = first_mentions (filter_map (sent_in env) b.surveys)

-- the body

-- a label is at the statement that follows it
abbrev pub kind_labels : ItemKind → ℕ → (ℕ → List Label) → List Label
kind_labels (item.Label n) place rest = record { name = n.name; place = place } ∷ rest place
kind_labels _ place rest = rest (place + 1)

unfoldable pub labels_from : List Item → ℕ → List Label
labels_from [] place = []
labels_from (i ∷ rest) place = kind_labels i.kind place (labels_from rest)

-- what an item gives, before the rest; a label gives no statement
abbrev pub kind_made : Env → ℕ → ItemKind → Made (List MStmt) → Made (List MStmt)
kind_made env line (item.Label n) rest point = rest point
kind_made env line (item.Enter s ns) rest point =
    let r = rest (point + 1) in (
      record {
        point = point;
        line = line;
        kind = stmt.Enter (signal_of env s) (typed_temps env ns);
      }
          ∷ r.0,
      r.1,
    )
kind_made env line (item.Stmt s) rest point =
    let m = typed_stmt env s point in
    let r = rest m.1 in
    (m.0 ∷ r.0, r.1)

unfoldable pub items_made : Env → List Item → Made (List MStmt)
items_made env [] point = ([], point)
items_made env (i ∷ rest) point = kind_made env i.line i.kind (items_made env rest) point

-- the end of the text is the last statement
abbrev pub ended : ℕ → List MStmt × ℕ → List MStmt
ended line made = made.0 ++ record { point = made.1; line = line; kind = stmt.Finish } ∷ []

abbrev pub body_of : Env → First → Block → List MStmt
body_of env first b = ended b.end_line (items_made env b.items first.point)

-- all of it: the block, and the numbers with which the next one begins

abbrev pub after : First → List File → ℕ → First
after first files point = record { point = point + 1; file = first.file + length files }

abbrev pub typed_with : Env → First → Block → Typed
typed_with env first b = record {
  block = record {
    name = b.name.name;
    variables = filter_map variable_in b.decls;
    temporaries = filter_map temporary_in b.decls;
    files = files_from b.decls first.file;
    sends = sends_of env b;
    enters = enters_from 0 (body_of env first b);
    labels = labels_from b.items 0;
    body = body_of env first b;
  };
  next = after first (files_from b.decls first.file) (items_made env b.items first.point).1;
}

-- what names stand for in a block, among these signals and the blocks of a text
abbrev pub env_of : List SignalKind → List Block → First → Block → Env
env_of signals blocks first b =
    record { name = meanings_of first.file (block_events b); signals = signals; blocks = blocks }

unfoldable pub typed_of : List SignalKind → List Block → First → Block → Typed
typed_of signals blocks first b = typed_with (env_of signals blocks first b) first b
