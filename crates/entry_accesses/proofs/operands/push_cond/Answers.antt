use Rattle.std.proofs.Common.{map, subst}
use Rattle.exchange_model.specs.Inside.{joined, relation_exprs}
use Rattle.entry_accesses.specs.Operands.{HasNames, names_in}
use Rattle.entry_accesses.proofs.operands.push_cond.Goals as goal

pub returns : goal.returns
returns c = subst (λ rss. HasNames c.args.names.now c.push_choices.new.names
    (names_in (joined (map relation_exprs rss)))) c.as_slice.ensures c.in_ok-push_choices.ensures
