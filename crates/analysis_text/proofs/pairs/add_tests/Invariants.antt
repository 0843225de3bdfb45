use Rattle.std.proofs.Common.{drop, map}
use Rattle.analysis_text.specs.Lines.{if_line}
use Rattle.analysis_text.proofs.Left.{Left}
use Rattle.analysis_text.proofs.pairs.add_tests.Given as goal

abbrev pub invariant-loop-test : goal.invariant-loop-test
invariant-loop-test l = Left l.fn.text l.text (map (if_line l.names l.number l.other) (drop l.test-index l.tests))
    (map (if_line l.names l.number l.other) l.tests)
