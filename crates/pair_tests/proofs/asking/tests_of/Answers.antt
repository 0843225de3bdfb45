use Rattle.std.proofs.Common.{◌↔◌}
use Rattle.std.specs.List.{Contains}
use Rattle.std.proofs.lemmas.Result.{IfOk-weaker}
use Rattle.pair_tests.specs.declared.pair.Test.{Test}
use Rattle.pair_tests.specs.Pairs.{IsTest}
use Rattle.pair_tests.proofs.Tested.{exact}
use Rattle.pair_tests.proofs.asking.tests_of.Goals as goal

pub returns-clause-exact : goal.returns-clause-exact
returns-clause-exact c =
    IfOk-weaker c.in_order.result (λ made. (t : Test) → Contains made t ↔ Contains c.push_release.new.tests t)
    (λ made. (t : Test) → Contains made t ↔ IsTest c.args.first.now c.args.later.now t)
    (λ made same. exact c.args.first.now c.args.later.now c.as_slice.result.now c.as_slice-others.result.now
    c.new-tests.result c.push_fields.new.tests c.push_release.new.tests made
    c.as_slice.ensures c.as_slice-others.ensures c.new-tests.ensures c.in_ok-push_fields.ensures c.in_ok-push_release.ensures same)
    c.in_order.ensures.same
