-- The lines of a text.
use Rattle.std.specs.Prelude.{ℕ, List, [], ◌∷◌, ◌++◌, nat_eq, if◌then◌else◌}
use Rattle.std.specs.List.{onto_first}

-- a line with its LF
abbrev pub ended : List ℕ → List ℕ
ended line = line ++ 10 ∷ []

-- the lines of a text, each with its LF, and what follows the last LF
unfoldable pub lines_in : List ℕ → List (List ℕ)
lines_in [] = [] ∷ []
lines_in (b ∷ rest) =
    (if nat_eq b 10 then (b ∷ []) ∷ lines_in rest else onto_first b (lines_in rest))
