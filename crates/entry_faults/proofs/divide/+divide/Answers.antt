use Rattle.std.proofs.Common.{rules, ◌≡◌, ◌∙◌, ap, sym, map}
use Rattle.std.specs.List.{list_any}
use Rattle.exchange_model.specs.declared.expr.Expr.{out-Expr}
use Rattle.exchange_model.specs.declared.expr.Term.{out-Term}
use Rattle.exchange_model.specs.declared.expr.Factor.{out-Factor}
use Rattle.exchange_model.specs.declared.expr.Factor.TheOpen as layer
use Rattle.exchange_model.specs.declared.expr.Factor.TheVariants as factor
use Rattle.entry_summary.specs.Faults.{may_divide_by_zero}
use Rattle.entry_summary.specs.Divides.{joins_badly, term_divides}
use Rattle.entry_summary.proofs.Dividing.{expr_out, term_out, inside_is}
use Rattle.entry_faults.proofs.Dividing.{any_more, any_found, any_none}
use Rattle.entry_faults.proofs.divide.+divide.Goals as goal

pub may_divide_by_zero-loop-term-init : goal.may_divide_by_zero-loop-term-init
may_divide_by_zero-loop-term-init t c =
    let is : c.as_slice-term-items.result.now ≡ (out-Expr c.args.e.now).terms = search rules in
    ap (λ l. list_any (λ t. t) (map term_divides l)) is ∙ sym (expr_out c.args.e.now)

pub may_divide_by_zero-loop-term-preserved : goal.may_divide_by_zero-loop-term-preserved
may_divide_by_zero-loop-term-preserved t c = any_more term_divides c.as_slice-term-items.result.now
    c.loop-term.term-index c.term-item.result c.term_divides.result (may_divide_by_zero c.args.e.now)
    c.loop-term-test.true c.term-item.is c.term_divides.ensures c.if-term_divides.false c.loop-term.invariant

pub may_divide_by_zero-returns-then-term_divides : goal.may_divide_by_zero-returns-then-term_divides
may_divide_by_zero-returns-then-term_divides t c = any_found term_divides c.as_slice-term-items.result.now
    c.loop-term.term-index c.term-item.result c.term_divides.result (may_divide_by_zero c.args.e.now)
    c.loop-term-test.true c.term-item.is c.term_divides.ensures c.if-term_divides.true c.loop-term.invariant

pub may_divide_by_zero-returns : goal.may_divide_by_zero-returns
may_divide_by_zero-returns t c = any_none term_divides c.as_slice-term-items.result.now c.loop-term.term-index
    (may_divide_by_zero c.args.e.now) c.loop-term-test.false c.loop-term.invariant

pub term_divides-loop-joined-init : goal.term_divides-loop-joined-init
term_divides-loop-joined-init t c =
    let is : c.as_slice-joined-items.result.now ≡ (out-Term c.args.term.now).factors = search rules in
    ap (λ l. list_any (λ j. j) (map joins_badly l)) is ∙ sym (term_out c.args.term.now)

pub term_divides-loop-joined-preserved : goal.term_divides-loop-joined-preserved
term_divides-loop-joined-preserved t c = any_more joins_badly c.as_slice-joined-items.result.now
    c.loop-joined.joined-index c.joined-item.result c.joined_divides.result (term_divides c.args.term.now)
    c.loop-joined-test.true c.joined-item.is c.joined_divides.ensures c.if-joined_divides.false c.loop-joined.invariant

pub term_divides-returns-then-joined_divides : goal.term_divides-returns-then-joined_divides
term_divides-returns-then-joined_divides t c = any_found joins_badly c.as_slice-joined-items.result.now
    c.loop-joined.joined-index c.joined-item.result c.joined_divides.result (term_divides c.args.term.now)
    c.loop-joined-test.true c.joined-item.is c.joined_divides.ensures c.if-joined_divides.true c.loop-joined.invariant

pub term_divides-returns : goal.term_divides-returns
term_divides-returns t c = any_none joins_badly c.as_slice-joined-items.result.now c.loop-joined.joined-index
    (term_divides c.args.term.now) c.loop-joined-test.false c.loop-joined.invariant

pub factor_divides-returns-in-Bracket : goal.factor_divides-returns-in-Bracket
factor_divides-returns-in-Bracket t c = c.may_divide_by_zero.ensures
    ∙ inside_is c.args.factor.now (layer.Bracket c.in-Bracket.inside)
    (ap out-Factor c.in-Bracket.is ∙ factor.outs-Bracket c.in-Bracket.inside)

pub factor_divides-returns-in-Number : goal.factor_divides-returns-in-Number
factor_divides-returns-in-Number t c = inside_is c.args.factor.now (layer.Number c.in-Number.field-0)
    (ap out-Factor c.in-Number.is ∙ factor.outs-Number c.in-Number.field-0)

pub factor_divides-returns-in-Variable : goal.factor_divides-returns-in-Variable
factor_divides-returns-in-Variable t c = inside_is c.args.factor.now (layer.Variable c.in-Variable.field-0)
    (ap out-Factor c.in-Variable.is ∙ factor.outs-Variable c.in-Variable.field-0)

pub factor_divides-returns-in-Temporary : goal.factor_divides-returns-in-Temporary
factor_divides-returns-in-Temporary t c = inside_is c.args.factor.now (layer.Temporary c.in-Temporary.field-0)
    (ap out-Factor c.in-Temporary.is ∙ factor.outs-Temporary c.in-Temporary.field-0)

pub factor_divides-returns-in-Field : goal.factor_divides-returns-in-Field
factor_divides-returns-in-Field t c = inside_is c.args.factor.now
    (layer.Field c.in-Field.file c.in-Field.field c.in-Field.pointer)
    (ap out-Factor c.in-Field.is ∙ factor.outs-Field c.in-Field.file c.in-Field.field c.in-Field.pointer)

pub factor_divides-returns-in-Reference : goal.factor_divides-returns-in-Reference
factor_divides-returns-in-Reference t c = inside_is c.args.factor.now (layer.Reference c.in-Reference.field-0)
    (ap out-Factor c.in-Reference.is ∙ factor.outs-Reference c.in-Reference.field-0)
