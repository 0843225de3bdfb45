use Rattle.std.proofs.Common.{map, sym, subst}
use Rattle.std.specs.List.Sorted.{IsStrictlySortedBy}
use Rattle.std.specs.Ordering.{nat_cmp}
use Rattle.flow_table.specs.Texts.{seen}
use Rattle.entry_additions.proofs.Exact.{are_only}
use Rattle.entry_additions.proofs.added.added_in.Goals as goal

pub push_alone-requires : goal.push_alone-requires
push_alone-requires c = subst (IsStrictlySortedBy nat_cmp) (sym c.as_slice.ensures) c.in_order-others.ensures.rising

pub returns : goal.returns
returns c =
    are_only c.args.exchange.now (map seen c.args.places.now) c.args.rows.now c.args.kind c.new-found.result
    c.push_others.new.others c.in_order-others.result c.as_slice.result.now c.new-added.result
    c.push_alone.new.added c.in_order.result c.args.accesses.now
    c.new-found.ensures c.in_ok-push_others.ensures c.in_order-others.ensures c.as_slice.ensures c.new-added.ensures
    c.in_ok-push_alone.ensures c.in_order.ensures
