use Rattle.std.proofs.Common.{reverse}
use Rattle.run_books.proofs.Numbered.{Valued}
use Rattle.run_books.proofs.event_bytes.read_values.Given as goal

abbrev pub invariant-loop : goal.invariant-loop
invariant-loop l = Valued (reverse l.fn.bytes.items) (reverse l.bytes.items) l.values l.many l.counter
