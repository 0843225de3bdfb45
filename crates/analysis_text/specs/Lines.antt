-- The lines of an analysis.
use Rattle.std.specs.Prelude.{ℕ, Bool, true, false, List, [], ◌∷◌, ◌++◌, codes, flat_map, map}
use Rattle.std.specs.List.{enumerate_from}
use Rattle.std.specs.Fmt.{decimal}
use Rattle.plex_num.specs.declared.level.Level.{Level}
use Rattle.exchange_model.specs.declared.exchange.Exchange.{Exchange}
use Rattle.entry_summary.specs.declared.summary.Access.{Access}
use Rattle.entry_summary.specs.declared.summary.Access.TheVariants.{Variable, Field, Own, Seizes}
use Rattle.entry_summary.specs.declared.summary.Access.TheVariants.{Frees}
use Rattle.entry_summary.specs.declared.summary.Summary.{Summary}
use Rattle.pair_tests.specs.declared.pair.Conflict.{Conflict}
use Rattle.pair_tests.specs.declared.pair.Conflict.TheVariants as conflict
use Rattle.pair_tests.specs.declared.pair.Test.{Test}
use Rattle.pair_tests.specs.declared.pair.Test.TheVariants as test
use Rattle.analysis_text.specs.declared.names.Names.{Names}
use Rattle.analysis_text.specs.Names.{level_word, name_at, value_words}
use Rattle.exchange_model.specs.Names.{name_of_entry}

-- a line as it is written, with its end
abbrev pub written : List ℕ → List ℕ
written line = line ++ 10 ∷ []

-- lines, one after the other
abbrev pub text_of : List (List ℕ) → List ℕ
text_of lines = flat_map written lines

-- entries

abbrev pub use_word : Bool → List ℕ
use_word false = codes "READ "
use_word true = codes "WRITE "

abbrev pub access_line : Names → Access → List ℕ
access_line names (Variable w n) = use_word w ++ codes "VAR " ++ name_at names.variables n
access_line names (Field w n v) =
    use_word w ++ codes "FIELD " ++ name_at names.fields n ++ codes " " ++ value_words v
access_line names (Own w n) = use_word w ++ codes "OWN " ++ name_at names.fields n
access_line names (Seizes f) = codes "SEIZE " ++ name_at names.files f
access_line names (Frees f) = codes "FREE " ++ name_at names.files f

abbrev pub send_line : Level → List ℕ
send_line level = codes "SEND " ++ level_word level

abbrev pub fault_text : Bool → List ℕ
fault_text false = []
fault_text true = written (codes "FAULT")

-- `ENTRY i SIG BLOCK LEVEL l`
abbrev pub entry_line : Exchange → ℕ → Level → List ℕ
entry_line x i level = codes "ENTRY " ++ decimal i ++ codes " " ++ name_of_entry x i
    ++ codes " LEVEL " ++ level_word level

-- what the jobs of an entry may do
abbrev pub summary_text : Exchange → Names → ℕ → Summary → List ℕ
summary_text x names i s =
    written (entry_line x i s.level) ++ text_of (map (access_line names) s.accesses)
    ++ text_of (map send_line s.levels) ++ fault_text s.fault

-- what the jobs of all entries may do
abbrev pub entries_text : Exchange → Names → List Summary → List ℕ
entries_text x names summaries =
    flat_map (λ (s : ℕ × Summary). summary_text x names s.0 s.1) (enumerate_from 0 summaries)

-- pairs

abbrev pub conflict_words : Names → Conflict → List ℕ
conflict_words names (conflict.Variable n) = codes "VARIABLE " ++ name_at names.variables n
conflict_words names (conflict.Field n u v) = codes "FIELD " ++ name_at names.fields n ++ codes " "
    ++ value_words u ++ codes " WITH " ++ value_words v
conflict_words names (conflict.Seizing f) = codes "SEIZE " ++ name_at names.files f
conflict_words names (conflict.Above level) = codes "LEVEL " ++ level_word level

abbrev pub test_words : Names → Test → List ℕ
test_words names (test.Differ a b) = codes "FIRST " ++ decimal a ++ codes " NOT LATER " ++ decimal b
test_words names (test.FirstNot a c) = codes "FIRST " ++ decimal a ++ codes " NOT " ++ decimal c
test_words names (test.LaterNot b c) = codes "LATER " ++ decimal b ++ codes " NOT " ++ decimal c
test_words names test.InForlopp = codes "FORLOPP"
test_words names (test.HoldsNo f) = codes "FIRST HOLDS NO " ++ name_at names.files f

-- `PAIR i j`
abbrev pub pair_words : ℕ → ℕ → List ℕ
pair_words i j = codes "PAIR " ++ decimal i ++ codes " " ++ decimal j

abbrev pub never_line : Names → ℕ → ℕ → Conflict → List ℕ
never_line names i j c = pair_words i j ++ codes " NEVER " ++ conflict_words names c

abbrev pub if_line : Names → ℕ → ℕ → Test → List ℕ
if_line names i j t = pair_words i j ++ codes " IF " ++ test_words names t
