use Rattle.std.proofs.Common.{take, vec_capacity, vec_len}
use Rattle.run_books.proofs.Numbered.{Put}
use Rattle.run_books.proofs.event_bytes.put_all.Given as goal

abbrev pub invariant-loop-number : goal.invariant-loop-number
invariant-loop-number l = Put l.fn.bytes.items l.bytes.items (take l.number-index l.numbers) (vec_len l.fn.bytes)
    (vec_len l.bytes) l.number-index (vec_capacity l.fn.bytes) (vec_capacity l.bytes)
