-- Where the cells stand in the table of words.
--
-- Behind each cell as many words stay free as the table has slots, which hold nothing: their number
-- is known to all who know which table it is, and to each step in it.
use Rattle.std.specs.Prelude.{ℕ, ◌+◌, ◌*◌, List, ◌∷◌, replicate}

-- The table's word of the cell w, where so many words stay free behind each. In front of the cells
-- there is room for one more. So the place of the number of cells is the number of the table's
-- words.
unfoldable pub place : ℕ → ℕ → ℕ
place free w = (w + 1) * (free + 1)

-- a word of this value, and the words that stay free behind it
abbrev pub line : ℕ → ℕ → List ℕ
line free value = value ∷ replicate free 0
