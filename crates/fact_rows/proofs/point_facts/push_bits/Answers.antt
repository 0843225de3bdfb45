use Rattle.std.proofs.Common.{arith}
use Rattle.fact_rows.proofs.Pushing.{word_begin, word_end, word_more}
use Rattle.fact_rows.proofs.point_facts.push_bits.Goals as goal

pub loop-bit-init : goal.loop-bit-init
loop-bit-init c = word_begin c.args.entry c.args.key c.args.word c.args.first c.args.facts.now.items (omega (arith, c.ranges.word.fits)) c.requires.some

pub loop-bit-preserved : goal.loop-bit-preserved
loop-bit-preserved c = word_more c.args.entry c.args.key c.args.word c.args.first c.loop-bit.bit c.args.facts.now.items
    c.loop-bit.facts.items _ c.loop-bit.invariant c.in_ok-push_bit.ensures

pub returns : goal.returns
returns c = word_end c.args.entry c.args.key c.args.word c.args.first c.loop-bit.bit c.args.facts.now.items
    c.loop-bit.facts.items (omega (arith, c.ranges.word.fits)) c.loop-bit-test.false c.loop-bit.invariant
