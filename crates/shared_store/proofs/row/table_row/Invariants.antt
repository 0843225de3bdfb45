use Rattle.std.proofs.Common.{◌≡◌, ◌∷◌, flat_map, take}
use Rattle.shared_store.specs.Places.{line}
use Rattle.shared_store.proofs.row.table_row.Given as goal

-- the 0 and the words so far
abbrev pub invariant-loop-word : goal.invariant-loop-word
invariant-loop-word l = l.row.items ≡ flat_map (line l.free) (0 ∷ take l.word-index l.words)
