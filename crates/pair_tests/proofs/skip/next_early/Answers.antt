use Rattle.std.proofs.Common.{sym, ◌∙◌}
use Rattle.pair_tests.proofs.Skipping.{late_passed}
use Rattle.pair_tests.proofs.skip.next_early.Goals as goal

pub returns : goal.returns
returns c = late_passed c.args.ones.now c.in-Some.one c.behind.result c.args.first c.args.place c.passed.result
    c.requires.order (sym c.access_at.ensures ∙ c.in-Some.is) (sym c.comes_late.ensures ∙ c.if-not-comes_late.false)
    c.behind.ensures c.passed.ensures
