-- A row of numbers that stand in two bytes each, until one is too large for that: then all stand in
-- four bytes each.
use Rattle.std.specs.Prelude.{ℕ, List, [], ◌∷◌}

-- the numbers of a row: those of four bytes, where there are any, else those of two
abbrev pub told : List ℕ → List ℕ → List ℕ
told narrow [] = narrow
told narrow (n ∷ ns) = n ∷ ns
