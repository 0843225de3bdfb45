use Rattle.std.specs.List.{AllByRecursion}
use Rattle.std.proofs.Common.{ℕ, ◌<◌, ◌^◌, take, vec_capacity, vec_len}
use Rattle.run_books.proofs.Numbered.{Put}
use Rattle.run_books.proofs.event_bytes.put_words.Given as goal

abbrev pub invariant-loop-word : goal.invariant-loop-word
invariant-loop-word l = Put l.fn.bytes.items l.bytes.items (take l.word-index l.words) (vec_len l.fn.bytes)
    (vec_len l.bytes) l.word-index (vec_capacity l.fn.bytes) (vec_capacity l.bytes)
    × AllByRecursion (λ (v : ℕ). v < 2 ^ 32) (take l.word-index l.words)
