use Rattle.std.proofs.Common.{◌≤◌, reverse, arith}
use Rattle.run_books.proofs.Numbered.{left_more}
use Rattle.run_books.proofs.event_bytes.+read_number.Goals as goal

pub returns-clause-left : goal.returns-clause-left
returns-clause-left t c =
    let high : 128 ≤ c.in-Some.byte = omega (arith, c.if-byte-lt128.false) in
    left_more (reverse c.args.bytes.now.items) (reverse c.read_byte.new.bytes.items)
    (reverse c.read_number-higher.new.bytes.items) c.in-Some.byte c.in-Some.ensures.items high
    c.read_number-higher.ensures.left
