use Rattle.std.proofs.Common.{◌≤◌, reverse, arith}
use Rattle.run_books.proofs.Numbered.{valued_end, valued_more}
use Rattle.run_books.proofs.event_bytes.read_values.Goals as goal

pub loop-preserved : goal.loop-preserved
loop-preserved c =
    valued_more (reverse c.args.bytes.now.items) (reverse c.loop.bytes.items) (reverse c.read_word.new.bytes.items)
    c.loop.values c.push.new.self c.read_word.result c.args.many c.loop.counter
    c.loop-test.true c.read_word.ensures.number c.read_word.ensures.left c.push.ensures c.loop.invariant

pub push-requires : goal.push-requires
push-requires c = omega (arith, c.requires, c.loop.invariant.counted, c.loop-test.true)

pub returns-clause-values : goal.returns-clause-values
returns-clause-values c =
    let past : c.args.many ≤ c.loop.counter = omega (arith, c.loop-test.false) in
    (valued_end (reverse c.args.bytes.now.items) (reverse c.loop.bytes.items) c.loop.values c.args.many c.loop.counter past c.loop.invariant).0

pub returns-clause-left : goal.returns-clause-left
returns-clause-left c =
    let past : c.args.many ≤ c.loop.counter = omega (arith, c.loop-test.false) in
    (valued_end (reverse c.args.bytes.now.items) (reverse c.loop.bytes.items) c.loop.values c.args.many c.loop.counter past c.loop.invariant).1
