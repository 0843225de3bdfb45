use Rattle.std.proofs.Common.{◌↔◌}
use Rattle.std.specs.List.{Contains}
use Rattle.std.proofs.lemmas.Result.{IfOk-weaker}
use Rattle.pair_tests.specs.declared.pair.Test.{Test}
use Rattle.pair_tests.specs.Pairs.{IsTest}
use Rattle.interference_check.specs.Pairs.{OfPair}
use Rattle.interference_check.proofs.pairs.tests.Goals as goal

pub returns-clause-exact : goal.returns-clause-exact
returns-clause-exact c =
    IfOk-weaker c.tests_of.result (λ tests. (t : Test) → Contains tests t ↔ IsTest c.summary.result.now c.summary-2.result.now t)
    (λ tests. OfPair c.args.checked.now c.args.first c.args.later (λ s t. (test : Test) → Contains tests test ↔ IsTest s t test))
    (λ tests exact. record {
      one = c.summary.result.now;
      other = c.summary-2.result.now;
      of_first = c.summary.ensures.it;
      of_later = c.summary-2.ensures.it;
      holds = exact;
    })
    c.tests_of.ensures.exact
