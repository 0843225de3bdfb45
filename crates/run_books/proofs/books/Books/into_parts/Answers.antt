use Rattle.std.proofs.Common.{length, ap, arith}
use Rattle.run_books.specs.Lines.{Timetable}
use Rattle.run_books.proofs.Lined.{arrived_length}
use Rattle.run_books.proofs.books.Books.into_parts.Goals as goal

pub overflow_cast-result : goal.overflow_cast-result
overflow_cast-result c =
    let parts = c.into_parts-lines in
    let many = arrived_length parts.result.0 parts.result.1 parts.ensures.within in
    let all = ap (λ (t : Timetable). length t.arrived) parts.ensures.timetable in
    let few = c.self.invariant.lines in
    let len = c.len.ensures in
    omega (arith, many, all, few, len)
