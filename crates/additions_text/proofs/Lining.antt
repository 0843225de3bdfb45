-- The lines of tests, or the line for none.
use Rattle.std.proofs.Common.{◌≡◌, ℕ, List, [], ◌∷◌, length, map, refl, arith}
use Rattle.pair_tests.specs.declared.pair.Test.{Test}
use Rattle.analysis_text.specs.declared.names.Names.{Names}
use Rattle.analysis_text.specs.Lines.{text_of}
use Rattle.conflicts_meaning.specs.declared.rows.EntryPair.{EntryPair}
use Rattle.additions_text.specs.Lines.{always_text, test_line, tests_text}

pub always_told : (names : Names) (p : EntryPair) (tests : List Test) (text : List ℕ) → length tests ≡ 0
    → text ≡ always_text p → text ≡ tests_text names p tests
always_told names p [] text none is = is
always_told names p (t ∷ tests) text none is = absurd (omega (arith, none))

pub tests_told : (names : Names) (p : EntryPair) (tests : List Test) (text : List ℕ) → (length tests ≡ 0 → ⊥)
    → text ≡ text_of (map (test_line names p) tests) → text ≡ tests_text names p tests
tests_told names p [] text some is = absurd (some refl)
tests_told names p (t ∷ tests) text some is = is
