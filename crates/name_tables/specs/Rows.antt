-- Rows that have names, and where a name stands among them.
use Rattle.std.specs.Prelude.{ℕ, Bool, nat_eq, List, map, Option, position, AllPairs, ◌≢◌}
use Rattle.std.specs.Cmp.Lexicographic.{pointwise}
use Rattle.name_tables.specs.declared.row.Row.{Row}

-- the names of the rows
abbrev pub names_of : List Row → List (List ℕ)
names_of rows = map (λ r. r.name.now) rows

-- the codes of the rows
abbrev pub codes_of : List Row → List ℕ
codes_of rows = map (λ r. r.code) rows

-- whether two names have the same bytes
abbrev pub same_bytes : List ℕ → List ℕ → Bool
same_bytes a b = pointwise nat_eq a b

-- the place of the first of the names that is this name, counted from 0
abbrev pub place_of : List (List ℕ) → List ℕ → Option ℕ
place_of names name = position (λ n. same_bytes n name) names

-- no two of the names are the same
abbrev pub NamesDiffer : List (List ℕ) → Type 0
NamesDiffer names = AllPairs (λ a b. a ≢ b) names
