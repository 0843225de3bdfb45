use Rattle.std.proofs.Common.{vec_capacity, vec_len}
use Rattle.run_books.proofs.Numbered.{narrow_step, put_step}
use Rattle.run_books.proofs.event_bytes.put_words.Goals as goal

pub loop-word-preserved : goal.loop-word-preserved
loop-word-preserved c = (
  put_step c.args.bytes.now.items c.loop-word.bytes.items c.put_word.new.bytes.items c.args.words.now
      (vec_len c.args.bytes.now) (vec_len c.loop-word.bytes) (vec_len c.put_word.new.bytes) c.loop-word.word-index
      (vec_capacity c.args.bytes.now) (vec_capacity c.loop-word.bytes) (vec_capacity c.put_word.new.bytes)
      c.loop-word-test.true c.put_word.ensures.items c.put_word.ensures.len c.put_word.ensures.few
      c.put_word.ensures.capacity c.loop-word.invariant.0,
  narrow_step c.args.words.now c.loop-word.word-index c.loop-word-test.true c.put_word.ensures.narrow c.loop-word.invariant.1,
)
