use Rattle.std.proofs.Common.{arith}
use Rattle.load_maker.specs.Exchange.{block_text}
use Rattle.load_maker.proofs.Rounds.{grown_more, grown_end}
use Rattle.load_maker.proofs.exchange.add_blocks.Goals as goal

pub loop-i-preserved : goal.loop-i-preserved
loop-i-preserved c = grown_more (block_text c.args.n) c.args.text.now 1 c.loop-i.i c.loop-i.text c.add_block.new.text
    c.loop-i.invariant (omega arith) c.in_ok-add_block.ensures

pub returns : goal.returns
returns c = grown_end (block_text c.args.n) c.args.text.now 1 c.loop-i.i 9 c.loop-i.text c.loop-i.invariant (omega arith) (omega arith)
