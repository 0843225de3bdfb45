use Rattle.std.proofs.Common.{[], ◌∷◌}
use Rattle.source_meaning.specs.Named.{NamedVariable, NamedField, named_in, named_in_term}
use Rattle.source_meaning.specs.Named.{named_in_joined}
use Rattle.entry_accesses.specs.declared.operands.Operand.TheVariants as operand
use Rattle.entry_accesses.proofs.Naming.{names_more, names_end, one_name, no_names, factor_as}
use Rattle.entry_accesses.proofs.Naming.{variable_named, field_named, bracket_named, number_named}
use Rattle.entry_accesses.proofs.Naming.{temporary_named, reference_named}
use Rattle.entry_accesses.proofs.operands.+names.Goals as goal

pub push_terms-loop-term-preserved : goal.push_terms-loop-term-preserved
push_terms-loop-term-preserved t c = names_more named_in_term c.args.terms.now c.loop-term.term-index c.term-item.result
    c.args.names.now c.loop-term.names c.push_term.new.names c.loop-term-test.true c.term-item.is
    c.in_ok-push_term.ensures c.loop-term.invariant

pub push_terms-returns : goal.push_terms-returns
push_terms-returns t c = names_end named_in_term c.args.terms.now c.loop-term.term-index c.args.names.now
    c.loop-term.names c.loop-term-test.false c.loop-term.invariant

pub push_factors-loop-joined-preserved : goal.push_factors-loop-joined-preserved
push_factors-loop-joined-preserved t c = names_more named_in_joined c.args.factors.now c.loop-joined.joined-index
    c.joined-item.result c.args.names.now c.loop-joined.names c.push_factor.new.names c.loop-joined-test.true
    c.joined-item.is c.in_ok-push_factor.ensures c.loop-joined.invariant

pub push_factors-returns : goal.push_factors-returns
push_factors-returns t c = names_end named_in_joined c.args.factors.now c.loop-joined.joined-index c.args.names.now
    c.loop-joined.names c.loop-joined-test.false c.loop-joined.invariant

pub push_factor-returns-in_ok-push-in-Variable : goal.push_factor-returns-in_ok-push-in-Variable
push_factor-returns-in_ok-push-in-Variable t c =
    factor_as c.args.factor.now (NamedVariable c.in-Variable.variable ∷ []) c.args.names.now c.push.new.self
    (variable_named c.args.factor.now c.in-Variable.variable c.in-Variable.is)
    (one_name c.args.names.now c.push.new.self (operand.Variable c.in-Variable.variable)
    c.in_ok-push-in-Variable.ensures)

pub push_factor-returns-in_ok-push-in-Field : goal.push_factor-returns-in_ok-push-in-Field
push_factor-returns-in_ok-push-in-Field t c =
    factor_as c.args.factor.now (NamedField c.in-Field.file c.in-Field.field c.in-Field.pointer ∷ []) c.args.names.now
    c.push-in-Field.new.self (field_named c.args.factor.now c.in-Field.file c.in-Field.field c.in-Field.pointer
    c.in-Field.is) (one_name c.args.names.now c.push-in-Field.new.self
    (operand.Field c.in-Field.file c.in-Field.field c.in-Field.pointer) c.in_ok-push-in-Field.ensures)

pub push_factor-returns-in_ok-push_expr-in-Bracket : goal.push_factor-returns-in_ok-push_expr-in-Bracket
push_factor-returns-in_ok-push_expr-in-Bracket t c =
    factor_as c.args.factor.now (named_in c.in-Bracket.inside) c.args.names.now c.push_expr.new.names
    (bracket_named c.args.factor.now c.in-Bracket.inside c.in-Bracket.is) c.in_ok-push_expr-in-Bracket.ensures

pub push_factor-returns-in-Number : goal.push_factor-returns-in-Number
push_factor-returns-in-Number t c = factor_as c.args.factor.now [] c.args.names.now c.args.names.now
    (number_named c.args.factor.now c.in-Number.field-0 c.in-Number.is) (no_names c.args.names.now)

pub push_factor-returns-in-Temporary : goal.push_factor-returns-in-Temporary
push_factor-returns-in-Temporary t c = factor_as c.args.factor.now [] c.args.names.now c.args.names.now
    (temporary_named c.args.factor.now c.in-Temporary.field-0 c.in-Temporary.is) (no_names c.args.names.now)

pub push_factor-returns-in-Reference : goal.push_factor-returns-in-Reference
push_factor-returns-in-Reference t c = factor_as c.args.factor.now [] c.args.names.now c.args.names.now
    (reference_named c.args.factor.now c.in-Reference.field-0 c.in-Reference.is) (no_names c.args.names.now)
