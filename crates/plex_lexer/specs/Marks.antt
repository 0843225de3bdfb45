-- The marks, numbered `;` `,` `(` `)` `=` `+` `-` `*` `/` `<` `>` `<=` `>=` `<>` from 0.
use Rattle.std.specs.Prelude.{ℕ, Bool, true, false, ◌&&◌, nat_eq, List, [], ◌∷◌, Option, Some, None}
use Rattle.std.specs.Prelude.{codes, position, if◌then◌else◌}

-- the number of a mark of one byte
unfoldable pub single_mark : ℕ → Option ℕ
single_mark b = position (λ m. nat_eq m b) (codes ";,()=+-*/<>")

-- the number of a mark of two bytes: `<=` `>=` `<>`
abbrev pub double_mark : ℕ → List ℕ → Option ℕ
double_mark b [] = None
double_mark b (c ∷ rest) =
    (if nat_eq b 60 && nat_eq c 61 then Some 11 else
    (if nat_eq b 62 && nat_eq c 61 then Some 12 else
    (if nat_eq b 60 && nat_eq c 62 then Some 13 else None)))

-- the longer of two marks, where there are both, and whether it has two bytes
abbrev pub longer : Option ℕ → Option ℕ → Option (ℕ × Bool)
longer (Some double) single = Some (double, true)
longer None (Some single) = Some (single, false)
longer None None = None

-- the longest mark that begins at the byte b, which those of rest follow
abbrev pub mark_of : ℕ → List ℕ → Option (ℕ × Bool)
mark_of b rest = longer (double_mark b rest) (single_mark b)
