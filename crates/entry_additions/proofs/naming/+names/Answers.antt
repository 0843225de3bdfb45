use Rattle.std.proofs.Common.{rules, ◌≡◌, ◌∙◌, ap, sym, map}
use Rattle.std.specs.List.{list_any}
use Rattle.exchange_model.specs.declared.expr.Expr.{out-Expr}
use Rattle.exchange_model.specs.declared.expr.Term.{out-Term}
use Rattle.entry_faults.proofs.Dividing.{any_more, any_found, any_none}
use Rattle.entry_additions.specs.Naming.{expr_names, joined_names, named_of, term_names}
use Rattle.entry_additions.proofs.Named.{expr_out, term_out, of_variable, of_bracket, of_number}
use Rattle.entry_additions.proofs.Named.{of_temporary, of_field, of_reference}
use Rattle.entry_additions.proofs.naming.+names.Goals as goal

pub term_names-loop-joined-init : goal.term_names-loop-joined-init
term_names-loop-joined-init t c =
    let is : c.as_slice-joined-items.result.now ≡ (out-Term c.args.term.now).factors = search rules in
    ap (λ l. list_any (λ t. t) (map (joined_names (named_of c.args.of)) l)) is ∙ sym (term_out (named_of c.args.of) c.args.term.now)

pub term_names-loop-joined-preserved : goal.term_names-loop-joined-preserved
term_names-loop-joined-preserved t c =
    any_more (joined_names (named_of c.args.of)) c.as_slice-joined-items.result.now c.loop-joined.joined-index
    c.joined-item.result c.factor_names.result (term_names (named_of c.args.of) c.args.term.now)
    c.loop-joined-test.true c.joined-item.is
    c.factor_names.ensures c.if-factor_names.false c.loop-joined.invariant

pub term_names-returns-then-factor_names : goal.term_names-returns-then-factor_names
term_names-returns-then-factor_names t c =
    any_found (joined_names (named_of c.args.of)) c.as_slice-joined-items.result.now c.loop-joined.joined-index
    c.joined-item.result c.factor_names.result (term_names (named_of c.args.of) c.args.term.now)
    c.loop-joined-test.true c.joined-item.is
    c.factor_names.ensures c.if-factor_names.true c.loop-joined.invariant

pub term_names-returns : goal.term_names-returns
term_names-returns t c = any_none (joined_names (named_of c.args.of)) c.as_slice-joined-items.result.now
    c.loop-joined.joined-index (term_names (named_of c.args.of) c.args.term.now) c.loop-joined-test.false
    c.loop-joined.invariant

pub expr_names-loop-term-init : goal.expr_names-loop-term-init
expr_names-loop-term-init t c =
    let is : c.as_slice-term-items.result.now ≡ (out-Expr c.args.e.now).terms = search rules in
    ap (λ l. list_any (λ t. t) (map (term_names (named_of c.args.of)) l)) is ∙ sym (expr_out (named_of c.args.of) c.args.e.now)

pub expr_names-loop-term-preserved : goal.expr_names-loop-term-preserved
expr_names-loop-term-preserved t c =
    any_more (term_names (named_of c.args.of)) c.as_slice-term-items.result.now c.loop-term.term-index
    c.term-item.result c.term_names.result (expr_names (named_of c.args.of) c.args.e.now) c.loop-term-test.true
    c.term-item.is
    c.term_names.ensures c.if-term_names.false c.loop-term.invariant

pub expr_names-returns-then-term_names : goal.expr_names-returns-then-term_names
expr_names-returns-then-term_names t c =
    any_found (term_names (named_of c.args.of)) c.as_slice-term-items.result.now c.loop-term.term-index
    c.term-item.result c.term_names.result (expr_names (named_of c.args.of) c.args.e.now) c.loop-term-test.true
    c.term-item.is
    c.term_names.ensures c.if-term_names.true c.loop-term.invariant

pub expr_names-returns : goal.expr_names-returns
expr_names-returns t c = any_none (term_names (named_of c.args.of)) c.as_slice-term-items.result.now
    c.loop-term.term-index (expr_names (named_of c.args.of) c.args.e.now) c.loop-term-test.false c.loop-term.invariant

pub factor_names-returns-in-Variable : goal.factor_names-returns-in-Variable
factor_names-returns-in-Variable t c = c.is_variable.ensures ∙ of_variable (named_of c.args.of) c.args.factor.now c.in-Variable.named c.in-Variable.is

pub factor_names-returns-in-Bracket : goal.factor_names-returns-in-Bracket
factor_names-returns-in-Bracket t c = c.expr_names.ensures ∙ of_bracket (named_of c.args.of) c.args.factor.now c.in-Bracket.inside c.in-Bracket.is

pub factor_names-returns-in-Number : goal.factor_names-returns-in-Number
factor_names-returns-in-Number t c = of_number (named_of c.args.of) c.args.factor.now c.in-Number.field-0 c.in-Number.is

pub factor_names-returns-in-Temporary : goal.factor_names-returns-in-Temporary
factor_names-returns-in-Temporary t c = of_temporary (named_of c.args.of) c.args.factor.now c.in-Temporary.field-0 c.in-Temporary.is

pub factor_names-returns-in-Field : goal.factor_names-returns-in-Field
factor_names-returns-in-Field t c = c.is_field.ensures
    ∙ of_field (named_of c.args.of) c.args.factor.now c.in-Field.file c.in-Field.field c.in-Field.pointer c.in-Field.is

pub factor_names-returns-in-Reference : goal.factor_names-returns-in-Reference
factor_names-returns-in-Reference t c = of_reference (named_of c.args.of) c.args.factor.now c.in-Reference.field-0 c.in-Reference.is
