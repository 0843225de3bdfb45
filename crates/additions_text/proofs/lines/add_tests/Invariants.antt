use Rattle.std.proofs.Common.{drop, map}
use Rattle.analysis_text.proofs.Left.{Left}
use Rattle.additions_text.specs.Lines.{test_line}
use Rattle.additions_text.proofs.lines.add_tests.Given as goal

abbrev pub invariant-loop-test : goal.invariant-loop-test
invariant-loop-test l = Left l.fn.text l.text (map (test_line l.names l.pair) (drop l.test-index l.tests)) (map (test_line l.names l.pair) l.tests)
