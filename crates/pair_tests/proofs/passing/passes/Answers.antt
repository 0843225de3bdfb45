use Rattle.std.proofs.Common.{sym, ◌∙◌}
use Rattle.pair_tests.proofs.Holding.{conflicting}
use Rattle.pair_tests.proofs.passing.passes.Goals as goal

pub returns-then-is_some : goal.returns-then-is_some
returns-then-is_some c =
    conflicting c.args.a.now c.args.b.now c.args.first.now c.args.later.now c.first_conflict.result
    (sym c.is_some.ensures ∙ c.if-is_some.true) c.first_conflict.ensures
