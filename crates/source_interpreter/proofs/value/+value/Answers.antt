use Rattle.std.proofs.Common.{rules, arith, ◌≡◌}
use Rattle.std.proofs.lemmas.Grind.{common_steps}
use Rattle.exchange_model.specs.declared.expr.Factor.{the_lemmas}
use Rattle.exchange_model.specs.declared.expr.Expr.{out-Expr}
use Rattle.exchange_model.specs.declared.expr.Term.{out-Term}
use Rattle.source_interpreter.proofs.Rounds.{terms_begin, factors_begin, factor_reference}
use Rattle.source_interpreter.proofs.Texts.{terms_of, factors_of, bracket_of, reference_below}
use Rattle.source_interpreter.proofs.value.+value.Goals as goal

pub value_of-loop-term-init : goal.value_of-loop-term-init
value_of-loop-term-init t c =
    let is : c.as_slice-term-items.result.now ≡ (out-Expr c.args.e.now).terms = search rules in
    record {
      left = terms_begin c.args.e.now c.args.view.now c.as_slice-term-items.result.now is;
      kept = terms_of c.args.e.now c.as_slice-term-items.result.now c.requires is;
    }

pub value_of_factor-value_of-requires : goal.value_of_factor-value_of-requires
value_of_factor-value_of-requires t c = (
  first_of (search (rules, the_lemmas), grind (the_lemmas, arith, common_steps)),
  bracket_of c.args.factor.now c.in-Bracket.e c.requires c.in-Bracket.is,
)

pub value_of_factor-reference-requires : goal.value_of_factor-reference-requires
value_of_factor-reference-requires t c = reference_below c.args.factor.now c.in-Reference.block c.requires c.in-Reference.is

pub value_of_term-loop-joined-init : goal.value_of_term-loop-joined-init
value_of_term-loop-joined-init t c =
    let is : c.as_slice-joined-items.result.now ≡ (out-Term c.args.term.now).factors = search rules in
    record {
      left = factors_begin c.args.term.now c.args.view.now c.as_slice-joined-items.result.now is;
      kept = factors_of c.args.term.now c.as_slice-joined-items.result.now c.requires is;
    }

pub value_of_factor-returns-in-Reference : goal.value_of_factor-returns-in-Reference
value_of_factor-returns-in-Reference t c = factor_reference c.args.factor.now c.in-Reference.block c.reference.result
    c.args.view.now c.in-Reference.is c.reference.ensures
