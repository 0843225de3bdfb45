use Rattle.std.proofs.Common.{◌≤◌, arith}
use Rattle.run_books.proofs.Numbered.{length_last, length_more, put_last, put_more, some_bytes}
use Rattle.run_books.proofs.event_bytes.+put_number.Goals as goal

pub push_reserved-requires : goal.push_reserved-requires
push_reserved-requires t c = omega (arith, c.requires.room, some_bytes c.args.number)

pub returns-then-number-lt128-clause-items : goal.returns-then-number-lt128-clause-items
returns-then-number-lt128-clause-items t c = put_last c.args.bytes.now.items c.push_reserved.new.self.items
    c.args.number c.if-number-lt128.true c.push_reserved.ensures.items

pub returns-then-number-lt128-clause-len : goal.returns-then-number-lt128-clause-len
returns-then-number-lt128-clause-len t c = omega (arith, c.push_reserved.ensures.len, length_last c.args.number c.if-number-lt128.true)

pub push_reserved-requires-2 : goal.push_reserved-requires-2
push_reserved-requires-2 t c = omega (arith, c.requires.room, some_bytes c.args.number)

pub put_number-requires : goal.put_number-requires
put_number-requires t c =
    let high : 128 ≤ c.args.number = omega (arith, c.if-number-lt128.false) in
    omega (arith, c.requires.room, c.push_reserved-2.ensures.len, c.push_reserved-2.ensures.capacity, length_more c.args.number high)

pub returns-clause-items : goal.returns-clause-items
returns-clause-items t c =
    let high : 128 ≤ c.args.number = omega (arith, c.if-number-lt128.false) in
    put_more c.args.bytes.now.items c.push_reserved-2.new.self.items c.put_number.new.bytes.items c.args.number high
    c.push_reserved-2.ensures.items c.put_number.ensures.items

pub returns-clause-len : goal.returns-clause-len
returns-clause-len t c =
    let high : 128 ≤ c.args.number = omega (arith, c.if-number-lt128.false) in
    omega (arith, c.push_reserved-2.ensures.len, c.put_number.ensures.len, length_more c.args.number high)
