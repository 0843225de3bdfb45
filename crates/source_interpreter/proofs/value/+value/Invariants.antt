use Rattle.std.proofs.Common.{◌≡◌, drop, map}
use Rattle.source_meaning.specs.Value.{expr_value, term_value, sum_value, product_value, summand_of}
use Rattle.source_meaning.specs.Value.{multiplier_of, answer_of}
use Rattle.source_interpreter.specs.Kept.{AreTermsOfText, AreFactorsOfText}
use Rattle.source_interpreter.proofs.value.+value.Given as goal

abbrev pub invariant-value_of-loop-term : goal.invariant-value_of-loop-term
invariant-value_of-loop-term l = record {
  left : answer_of (sum_value (map summand_of (drop l.term-index l.term-items)) l.sum l.view) ≡ answer_of (expr_value l.e l.view);
  kept : AreTermsOfText (drop l.term-index l.term-items);
}

abbrev pub invariant-value_of_term-loop-joined : goal.invariant-value_of_term-loop-joined
invariant-value_of_term-loop-joined l = record {
  left : answer_of (product_value (map multiplier_of (drop l.joined-index l.joined-items)) l.product l.view) ≡ answer_of (term_value l.term l.view);
  kept : AreFactorsOfText (drop l.joined-index l.joined-items);
}
