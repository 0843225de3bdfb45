use Rattle.std.proofs.Common.{◌∙◌}
use Rattle.entry_accesses.proofs.Opened.{whole_is}
use Rattle.entry_accesses.proofs.opening.with_opened.Goals as goal

pub returns-clause-whole : goal.returns-clause-whole
returns-clause-whole c =
    whole_is c.args.exchange.now c.args.found c.in_order-direct.result c.as_slice-2.result.now c.in_ok-all.all
    c.push_opened.new.all c.in_order.result c.in_order-direct.ensures.same c.as_slice-2.ensures
    (c.in_ok-all.ensures ∙ c.as_slice.ensures) c.in_ok-push_opened.ensures c.in_order.ensures.same
