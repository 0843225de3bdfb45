use Rattle.std.proofs.Common.{◌≤◌, length, get_or, ap, ◌∙◌, rules}
use Rattle.std.proofs.lemmas.Grind.{common_steps}
use Rattle.std.proofs.lemmas.List.{get_or_default}
use Rattle.block_change.specs.Carried.{carried_chain}
use Rattle.block_change.proofs.Chaining.{chains_end, chains_more, next_live, next_some}
use Rattle.block_change.proofs.books.carry_each.Goals as goal

pub put_reserved-requires-clause-some : goal.put_reserved-requires-clause-some
put_reserved-requires-clause-some c =
    let n = get_or c.args.numbers.now c.loop-number.number-index 0 in
    next_some c.args.old.now c.args.new.now.exchange.now c.args.chains.now c.loop-number.chains c.args.numbers.now
    c.loop-number.number-index n c.requires.numbers c.loop-number-test.true
    (get_or_default c.args.numbers.now c.loop-number.number-index 0 n c.loop-number-test.true) c.chain.ensures.sound
    c.loop-number.invariant

pub put_reserved-requires-clause-live : goal.put_reserved-requires-clause-live
put_reserved-requires-clause-live c =
    let n = get_or c.args.numbers.now c.loop-number.number-index 0 in
    next_live c.args.old.now c.args.new.now.exchange.now c.args.chains.now c.loop-number.chains c.reserve.new.self
    c.args.numbers.now c.loop-number.number-index n c.requires.numbers c.loop-number-test.true
    (get_or_default c.args.numbers.now c.loop-number.number-index 0 n c.loop-number-test.true) c.chain.ensures.sound
    c.reserve.ensures.dead c.loop-number.invariant

pub loop-number-preserved : goal.loop-number-preserved
loop-number-preserved c =
    let n = get_or c.args.numbers.now c.loop-number.number-index 0 in
    chains_more c.args.old.now c.args.new.now.exchange.now c.args.chains.now c.loop-number.chains c.reserve.new.self
    c.put_reserved.new.self c.args.numbers.now c.loop-number.number-index n c.carried_chain-chain.result
    c.requires.numbers c.loop-number-test.true
    (get_or_default c.args.numbers.now c.loop-number.number-index 0 n c.loop-number-test.true) c.chain.ensures.sound
    (c.carried_chain-chain.ensures ∙ ap (carried_chain c.args.old.now c.args.new.now.exchange.now)
    c.chain.ensures.chain) c.reserve.ensures.chains c.reserve.ensures.dead c.put_reserved.ensures.chains
    c.put_reserved.ensures.dead c.loop-number.invariant

pub returns-clause-chains : goal.returns-clause-chains
returns-clause-chains c =
    let past : length c.args.numbers.now ≤ c.loop-number.number-index = search (rules, common_steps) in
    chains_end c.args.old.now c.args.new.now.exchange.now c.args.chains.now c.loop-number.chains c.args.numbers.now
    c.loop-number.number-index c.requires.numbers past c.loop-number.invariant
