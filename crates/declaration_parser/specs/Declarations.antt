-- The grammar of declarations and surveys, read by descent with one token of sight.
use Rattle.std.specs.Prelude.{ℕ, Bool, List, ◌++◌, Option}
use Rattle.token_grammar.specs.declared.named.Named.{Named}
use Rattle.token_grammar.specs.declared.named.Numbered.{Numbered}
use Rattle.token_grammar.specs.Reading.{Reader, word_of, many, branch, lined, after, ended, pair}
use Rattle.token_grammar.specs.Reading.{optional, flag_read, name_read, number_read}
use Rattle.plex_ast.specs.declared.block.Survey.{Survey}
use Rattle.plex_ast.specs.declared.block.SurveyKind.{SurveyKind}
use Rattle.plex_ast.specs.declared.block.SurveyKind.TheVariants as surveys
use Rattle.plex_ast.specs.declared.block.Decl.{Decl}
use Rattle.plex_ast.specs.declared.block.DeclKind.{DeclKind}
use Rattle.plex_ast.specs.declared.block.DeclKind.TheVariants as decls
use Rattle.plex_ast.specs.declared.block.Field.{Field}
use Rattle.plex_ast.specs.Words.{DECLARE, VARIABLE, TEMPORARY, FILE, FORLOPP, FIELD, WIDTH, SIZE}
use Rattle.plex_ast.specs.Words.{INIT, CLEAR, SURVEY, RECEIVE, SEND, SEMI}

-- declarations

unfoldable pub init_read : Reader (Option Numbered)
init_read = optional INIT (after INIT number_read)

abbrev pub Width : Type 0
Width = Named × (Numbered × Option Numbered)

abbrev pub opened_read : Reader (Numbered × Option Numbered)
opened_read = after WIDTH (pair number_read (ended init_read SEMI))

unfoldable pub width_read : Reader Width
width_read = pair name_read opened_read

abbrev pub field_made : ℕ → Width → Field
field_made line p = record { line = line; name = p.0; width = p.1.0; init = p.1.1 }

unfoldable pub field_read : Reader Field
field_read = lined field_made (after FIELD width_read)

unfoldable pub clear_read : Reader Bool
clear_read = flag_read CLEAR (word_of CLEAR)

abbrev pub variable_made : ℕ → Named × (Numbered × (Option Numbered × Bool)) → DeclKind
variable_made _ p = decls.Variable p.0 p.1.0 p.1.1.0 p.1.1.1

abbrev pub stored_read : Reader (Numbered × (Option Numbered × Bool))
stored_read = after WIDTH (pair number_read (pair init_read (ended clear_read SEMI)))

unfoldable pub variable_read : Reader DeclKind
variable_read = lined variable_made (after VARIABLE (pair name_read stored_read))

unfoldable pub temporary_read : Reader DeclKind
temporary_read = lined (λ _ (n : Named). decls.Temporary n) (after TEMPORARY (ended name_read SEMI))

unfoldable pub forlopp_read : Reader Bool
forlopp_read = flag_read FORLOPP (word_of FORLOPP)

abbrev pub file_made : ℕ → Bool × (Named × (Numbered × List Field)) → DeclKind
file_made _ p = decls.File p.0 p.1.0 p.1.1.0 p.1.1.1

abbrev pub records_read : Reader (Numbered × List Field)
records_read = after SIZE (pair number_read (after SEMI (many FIELD field_read)))

unfoldable pub file_read : Reader DeclKind
file_read = lined file_made (pair forlopp_read (after FILE (pair name_read records_read)))

unfoldable pub decl_kind_read : Reader DeclKind
decl_kind_read = branch VARIABLE variable_read (branch TEMPORARY temporary_read file_read)

abbrev pub decl_made : ℕ → DeclKind → Decl
decl_made line k = record { line = line; kind = k }

unfoldable pub decl_read : Reader Decl
decl_read = lined decl_made decl_kind_read

abbrev pub DECL : List ℕ
DECL = VARIABLE ++ (TEMPORARY ++ (FORLOPP ++ FILE))

unfoldable pub decls_read : Reader (List Decl)
decls_read = after DECLARE (after SEMI (many DECL decl_read))

-- surveys

unfoldable pub survey_kind_read : Reader SurveyKind
survey_kind_read = branch RECEIVE (lined (λ _ (n : Named). surveys.Receive n)
    (after RECEIVE (ended name_read SEMI))) (lined (λ _ (n : Named). surveys.Send n)
    (after SEND (ended name_read SEMI)))

abbrev pub survey_made : ℕ → SurveyKind → Survey
survey_made line k = record { line = line; kind = k }

unfoldable pub survey_read : Reader Survey
survey_read = lined survey_made survey_kind_read

unfoldable pub surveys_read : Reader (List Survey)
surveys_read = after SURVEY (after SEMI (many (RECEIVE ++ SEND) survey_read))
