use Rattle.std.proofs.Common.{vec_capacity, vec_len}
use Rattle.run_books.proofs.Numbered.{put_step}
use Rattle.run_books.proofs.event_bytes.put_all.Goals as goal

pub loop-number-preserved : goal.loop-number-preserved
loop-number-preserved c =
    put_step c.args.bytes.now.items c.loop-number.bytes.items c.put_number.new.bytes.items c.args.numbers.now
    (vec_len c.args.bytes.now) (vec_len c.loop-number.bytes) (vec_len c.put_number.new.bytes)
    c.loop-number.number-index
    (vec_capacity c.args.bytes.now) (vec_capacity c.loop-number.bytes) (vec_capacity c.put_number.new.bytes)
    c.loop-number-test.true c.put_number.ensures.items c.put_number.ensures.len c.put_number.ensures.few
    c.put_number.ensures.capacity c.loop-number.invariant
