use Rattle.std.proofs.Common.{subst}
use Rattle.additions_text.specs.Lists.{AreLists}
use Rattle.additions_text.proofs.Listing.{lists_begin, lists_end, lists_more}
use Rattle.additions_text.proofs.lists.lists_of.Goals as goal

pub loop-number-init : goal.loop-number-init
loop-number-init c = (lists_begin c.args.means.now.exchange.now c.args.asked c.new-lists.result c.new-lists.ensures, c.requires.own)

pub loop-number-preserved : goal.loop-number-preserved
loop-number-preserved c = (
  lists_more c.args.means.now.exchange.now c.args.asked c.loop-number.number c.in_ok-list.list c.loop-number.lists
      c.push.new.self c.in_ok-list.ensures.list c.in_ok-push.ensures c.loop-number.invariant.0,
  c.in_ok-list.ensures.own,
)

pub returns : goal.returns
returns c =
    subst (λ n. AreLists c.args.means.now.exchange.now c.args.asked n c.loop-number.lists) c.len-number-end.ensures
    (lists_end c.args.means.now.exchange.now c.args.asked c.loop-number.number c.len-number-end.result
    c.loop-number.lists c.loop-number.auto.number-end c.loop-number-test.false c.loop-number.invariant.0)
