use Rattle.std.proofs.Common.{◌↔◌, IsTrue, subst}
use Rattle.pair_tests.specs.Pairs.{Passes}
use Rattle.interference_check.specs.Pairs.{OfPair}
use Rattle.interference_check.proofs.Tabling.{by_told, has_tests, shown_tells}
use Rattle.interference_check.proofs.table.PairTable.passes.Goals as goal

pub pass_by-requires : goal.pass_by-requires
pass_by-requires c =
    has_tests c.args.self.now c.args.first.now.job.entry c.args.later.now.job.entry c.as_slice.result.now c.in-Some.pair
    (shown_tells c.args.self.now c.self.inside.checked.now c.args.first.now.job.entry c.args.later.now.job.entry
    c.tell-told.new.learned.tests c.as_slice.result.now c.in-Some.pair
    c.self.view_is c.as_slice.ensures c.in-Some.ensures.pair)

pub returns-in-Some-clause-exact : goal.returns-in-Some-clause-exact
returns-in-Some-clause-exact c =
    by_told c.args.self.now c.args.first.now c.args.later.now c.as_slice.result.now c.in-Some.pair c.pass_by.result
    (shown_tells c.args.self.now c.self.inside.checked.now c.args.first.now.job.entry c.args.later.now.job.entry
    c.tell-told.new.learned.tests c.as_slice.result.now c.in-Some.pair
    c.self.view_is c.as_slice.ensures c.in-Some.ensures.pair)
    c.pass_by.ensures

pub returns-clause-exact : goal.returns-clause-exact
returns-clause-exact c =
    subst (λ k. OfPair k c.args.first.now.job.entry c.args.later.now.job.entry
    (λ s t. IsTrue c.may_follow.result ↔ Passes s t c.args.first.now c.args.later.now))
    c.self.view_is c.may_follow.ensures.exact
