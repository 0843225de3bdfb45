-- Lines of text in which letters stand for numbers.
--
-- All that the language writes is in capitals, so small letters are free: `n` stands for the number
-- of calls, `i` for the number of a block and its signal, and `j` for the number after it.
use Rattle.std.specs.Prelude.{ℕ, ◌+◌, nat_eq, List, [], ◌∷◌, ◌++◌, if◌then◌else◌}
use Rattle.std.specs.Fmt.{decimal}
use Rattle.std.specs.List.{flat_map}

-- lines, each of which ends with LF
abbrev pub text_of : List (List ℕ) → List ℕ
text_of lines = flat_map (λ line. line ++ 10 ∷ []) lines

-- what a byte of a pattern stands for, with n calls and at the number i
abbrev pub meant : ℕ → ℕ → ℕ → List ℕ
meant n i b =
    (if nat_eq b 110 then decimal n else
    (if nat_eq b 105 then decimal i else
    (if nat_eq b 106 then decimal (i + 1) else
    b ∷ [])))

-- the text of a pattern
abbrev pub filled : ℕ → ℕ → List ℕ → List ℕ
filled n i pattern = flat_map (meant n i) pattern
