use Rattle.std.proofs.Common.{◌≡◌, ◌∷◌, ◌++◌, take}
use Rattle.shared_store.proofs.row.push_word.Given as goal

-- the word, and those behind it so far
abbrev pub invariant-loop-next : goal.invariant-loop-next
invariant-loop-next l = l.row.items ≡ l.fn.row.items ++ l.word ∷ take l.next-index l.behind
