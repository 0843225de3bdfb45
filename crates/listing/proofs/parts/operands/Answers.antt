use Rattle.std.proofs.Common.{◌≡◌, length, arith, sym, ◌∙◌}
use Rattle.std.proofs.lemmas.Bool.{eqb-true}
use Rattle.listing.proofs.Words.{goes_bad, goes_full}
use Rattle.listing.proofs.parts.operands.Goals as goal

pub returns-then-is_full : goal.returns-then-is_full
returns-then-is_full c =
    let full : length c.loop-word.operands.items ≡ 4 = eqb-true (length c.loop-word.operands.items) 4 (sym c.is_full.ensures.value ∙ c.if-is_full.true) in
    goes_full c.args.bytes.now c.loop-word.rest.now c.in-Some.word.now c.in-Some.after.now c.loop-word.operands.items
    c.loop-word.invariant c.in-Some.ensures (omega (arith, full))

pub returns-in-None : goal.returns-in-None
returns-in-None c =
    goes_bad c.args.bytes.now c.loop-word.rest.now c.in-Some.word.now c.in-Some.after.now c.loop-word.operands.items
    c.loop-word.invariant c.in-Some.ensures c.in-None.ensures
