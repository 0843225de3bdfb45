-- The lines of additions.
use Rattle.std.specs.Prelude.{ℕ, List, [], ◌∷◌, ◌++◌, codes, map, Option, Some, None}
use Rattle.std.specs.Fmt.{decimal}
use Rattle.pair_tests.specs.declared.pair.Conflict.{Conflict}
use Rattle.pair_tests.specs.declared.pair.Test.{Test}
use Rattle.analysis_text.specs.declared.names.Names.{Names}
use Rattle.analysis_text.specs.Lines.{conflict_words, pair_words, test_words, text_of, written}
use Rattle.analysis_text.specs.Names.{name_at}
use Rattle.conflicts_meaning.specs.declared.rows.EntryPair.{EntryPair}
use Rattle.additions_meaning.specs.Additions.{Targets}
use Rattle.addition_pairs.specs.declared.told.Told.{Told}
use Rattle.addition_pairs.specs.declared.told.Told.TheVariants.{Never, Asks}

-- `ADDS e VAR B.V`, `ADDS e FIELD B.F`: entry e's jobs only add to this variable or field

abbrev pub variable_line : Names → ℕ → ℕ → List ℕ
variable_line names e n = codes "ADDS " ++ decimal e ++ codes " VAR " ++ name_at names.variables n

abbrev pub field_line : Names → ℕ → ℕ → List ℕ
field_line names e n = codes "ADDS " ++ decimal e ++ codes " FIELD " ++ name_at names.fields n

abbrev pub adds_text : Names → ℕ → Targets → List ℕ
adds_text names e d =
    text_of (map (variable_line names e) d.variables) ++ text_of (map (field_line names e) d.fields)

-- `PAIR i j ADDING NEVER` and the conflict, `PAIR i j ADDING IF` and a test, or
-- `PAIR i j ADDING ALWAYS`

abbrev pub never_text : Names → EntryPair → Conflict → List ℕ
never_text names p c =
    written (pair_words p.first p.later ++ codes " ADDING NEVER " ++ conflict_words names c)

abbrev pub test_line : Names → EntryPair → Test → List ℕ
test_line names p t = pair_words p.first p.later ++ codes " ADDING IF " ++ test_words names t

abbrev pub always_text : EntryPair → List ℕ
always_text p = written (pair_words p.first p.later ++ codes " ADDING ALWAYS")

-- a line for each test, or the line for none
abbrev pub tests_text : Names → EntryPair → List Test → List ℕ
tests_text names p [] = always_text p
tests_text names p (t ∷ tests) = text_of (map (test_line names p) (t ∷ tests))

abbrev pub told_text : Names → EntryPair → Told → List ℕ
told_text names p (Never c) = never_text names p c
told_text names p (Asks tests) = tests_text names p tests

-- empty if the verdict with additions is the same
abbrev pub adding_text : Names → EntryPair → Option Told → List ℕ
adding_text names p None = []
adding_text names p (Some t) = told_text names p t

-- the first line and the last one

abbrev pub first_line : List ℕ
first_line = written (codes "ADDITIONS 1")

abbrev pub last_line : List ℕ
last_line = written (codes "END ADDITIONS")
