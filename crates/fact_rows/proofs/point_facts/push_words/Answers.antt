use Rattle.std.proofs.Common.{arith}
use Rattle.fact_rows.proofs.Pushing.{words_begin, words_end, words_more, words_none}
use Rattle.fact_rows.proofs.point_facts.push_words.Goals as goal

pub loop-place-init : goal.loop-place-init
loop-place-init c = words_begin c.args.entry c.args.key c.args.words.now c.args.facts.now.items

pub loop-place-preserved-then-words-place-eq0 : goal.loop-place-preserved-then-words-place-eq0
loop-place-preserved-then-words-place-eq0 c = words_none c.args.entry c.args.key c.args.words.now c.loop-place.place
    c.args.facts.now.items c.loop-place.facts.items c.loop-place.invariant c.if-words-place-eq0.true

pub loop-place-preserved : goal.loop-place-preserved
loop-place-preserved c = words_more c.args.entry c.args.key c.args.words.now c.loop-place.place c.args.facts.now.items
    c.loop-place.facts.items _ c.loop-place.invariant c.in_ok-push_bits.ensures

pub returns : goal.returns
returns c = words_end c.args.entry c.args.key c.args.words.now c.loop-place.place c.args.facts.now.items
    c.loop-place.facts.items (omega arith) c.loop-place.invariant
