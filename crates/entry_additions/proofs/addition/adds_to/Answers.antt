use Rattle.std.proofs.Common.{◌≡◌, ◌∙◌, ap, rules}
use Rattle.exchange_model.specs.declared.expr.Expr.{out-Expr}
use Rattle.exchange_model.specs.declared.stmt.StmtKind.{out-StmtKind}
use Rattle.exchange_model.specs.declared.stmt.StmtKind.TheVariants as statement
use Rattle.entry_accesses.proofs.Numbering.{field_has, variable_has}
use Rattle.entry_accesses.proofs.Using.{set_field_numbered, set_variable_numbered}
use Rattle.entry_additions.proofs.Summing.{field_said}
use Rattle.entry_additions.proofs.addition.adds_to.Goals as goal

pub variable-own-requires : goal.variable-own-requires
variable-own-requires c =
    variable_has c.args.exchange.now c.args.numbers.now c.args.block c.in-SetVariable.variable c.requires.numbers
    (set_variable_numbered c.args.exchange.now c.args.block c.in-SetVariable.variable c.in-SetVariable.value
    (out-StmtKind c.args.statement.now) c.kept.ensures c.requires.of_block
    (ap out-StmtKind c.in-SetVariable.is ∙ statement.outs-SetVariable c.in-SetVariable.variable
    c.in-SetVariable.value))

pub field-own-requires : goal.field-own-requires
field-own-requires c =
    field_has c.args.exchange.now c.args.numbers.now c.args.block c.in-SetField.file c.in-SetField.field c.in-SetField.pointer c.requires.numbers
    (set_field_numbered c.args.exchange.now c.args.block c.in-SetField.file c.in-SetField.field c.in-SetField.pointer
    c.in-SetField.value (out-StmtKind c.args.statement.now) c.kept.ensures c.requires.of_block
    (ap out-StmtKind c.in-SetField.is ∙ statement.outs-SetField c.in-SetField.file c.in-SetField.field
    c.in-SetField.pointer c.in-SetField.value))

pub returns-in-SetField : goal.returns-in-SetField
returns-in-SetField c =
    let terms_are : c.as_slice-in-SetField.result.now ≡ (out-Expr c.in-SetField.value).terms = search rules in
    field_said c.args.exchange.now c.args.block c.args.kind c.args.number (out-StmtKind c.args.statement.now)
    c.in-SetField.file c.in-SetField.field c.in-SetField.pointer c.in-SetField.value
    c.is_of_fields.result c.is_sum-in-SetField.result c.field-own.result c.width_of_field.result c.as_slice-in-SetField.result.now
    (ap out-StmtKind c.in-SetField.is ∙ statement.outs-SetField c.in-SetField.file c.in-SetField.field c.in-SetField.pointer c.in-SetField.value)
    c.is_of_fields.ensures (c.field-own.ensures c.args.exchange.now c.requires.numbers) c.width_of_field.ensures terms_are c.is_sum-in-SetField.ensures
