use Rattle.std.proofs.Common.{◌∙◌, ◌++◌, ◌∷◌, [], false, ap}
use Rattle.exchange_model.specs.declared.stmt.StmtKind.{out-StmtKind}
use Rattle.exchange_model.specs.declared.stmt.StmtKind.TheOpen as layer
use Rattle.exchange_model.specs.declared.stmt.StmtKind.TheVariants as kind
use Rattle.flow_points.specs.declared.fact.Value.TheVariants.{Any}
use Rattle.flow_points.specs.declared.flow.Source.TheVariants.{Is}
use Rattle.entry_accesses.specs.declared.uses.Use.TheVariants as use_of
use Rattle.entry_accesses.proofs.Numbering.{field_has}
use Rattle.entry_accesses.proofs.Using.{set_variable_numbered, set_field_numbered, search_numbered}
use Rattle.entry_accesses.proofs.Using.{done_as, done_none}
use Rattle.entry_accesses.proofs.uses.push_done.Goals as goal

pub push_operand-requires-clause-numbered : goal.push_operand-requires-clause-numbered
push_operand-requires-clause-numbered c =
    set_variable_numbered c.args.here.now.exchange.now c.args.here.now.block c.in-SetVariable.variable
    c.in-SetVariable.value (out-StmtKind c.args.kind.now) c.kept.ensures c.requires.of_block
    (ap out-StmtKind c.in-SetVariable.is ∙ kind.outs-SetVariable c.in-SetVariable.variable c.in-SetVariable.value)

pub push_operand-requires-in-SetField-clause-numbered : goal.push_operand-requires-in-SetField-clause-numbered
push_operand-requires-in-SetField-clause-numbered c =
    set_field_numbered c.args.here.now.exchange.now c.args.here.now.block c.in-SetField.file c.in-SetField.field
    c.in-SetField.pointer c.in-SetField.value (out-StmtKind c.args.kind.now) c.kept.ensures c.requires.of_block
    (ap out-StmtKind c.in-SetField.is ∙ kind.outs-SetField c.in-SetField.file c.in-SetField.field
    c.in-SetField.pointer c.in-SetField.value)

pub field-number-requires : goal.field-number-requires
field-number-requires c =
    field_has c.args.here.now.exchange.now c.args.here.now.numbers.now c.args.here.now.block c.in-ForFirst.file
    c.in-ForFirst.field c.in-ForFirst.temp c.requires.numbers
    (search_numbered c.args.here.now.exchange.now c.args.here.now.block c.in-ForFirst.temp c.in-ForFirst.file
    c.in-ForFirst.field c.in-ForFirst.rel c.in-ForFirst.value c.in-ForFirst.label (out-StmtKind c.args.kind.now)
    c.kept.ensures c.requires.of_block (ap out-StmtKind c.in-ForFirst.is
    ∙ kind.outs-ForFirst c.in-ForFirst.temp c.in-ForFirst.file c.in-ForFirst.field c.in-ForFirst.rel
    c.in-ForFirst.value c.in-ForFirst.label))

pub returns-in_ok-push_operand-in-SetVariable : goal.returns-in_ok-push_operand-in-SetVariable
returns-in_ok-push_operand-in-SetVariable c =
    done_as c.args.here.now.exchange.now c.args.here.now.block c.args.kind.now
    (layer.SetVariable c.in-SetVariable.variable c.in-SetVariable.value) c.args.uses.now c.push_operand.new.uses
    (ap out-StmtKind c.in-SetVariable.is ∙ kind.outs-SetVariable c.in-SetVariable.variable c.in-SetVariable.value)
    c.in_ok-push_operand-in-SetVariable.ensures

pub returns-in_ok-push_operand-in-SetField : goal.returns-in_ok-push_operand-in-SetField
returns-in_ok-push_operand-in-SetField c =
    done_as c.args.here.now.exchange.now c.args.here.now.block c.args.kind.now
    (layer.SetField c.in-SetField.file c.in-SetField.field c.in-SetField.pointer c.in-SetField.value)
    c.args.uses.now c.push_operand-in-SetField.new.uses
    (ap out-StmtKind c.in-SetField.is ∙ kind.outs-SetField c.in-SetField.file c.in-SetField.field
    c.in-SetField.pointer c.in-SetField.value) c.in_ok-push_operand-in-SetField.ensures

pub returns-in_ok-push_search-in-ForFirst : goal.returns-in_ok-push_search-in-ForFirst
returns-in_ok-push_search-in-ForFirst c =
    done_as c.args.here.now.exchange.now c.args.here.now.block c.args.kind.now
    (layer.ForFirst c.in-ForFirst.temp c.in-ForFirst.file c.in-ForFirst.field c.in-ForFirst.rel c.in-ForFirst.value
    c.in-ForFirst.label) c.args.uses.now c.push_search.new.uses
    (ap out-StmtKind c.in-ForFirst.is ∙ kind.outs-ForFirst c.in-ForFirst.temp c.in-ForFirst.file c.in-ForFirst.field
    c.in-ForFirst.rel c.in-ForFirst.value c.in-ForFirst.label)
    (c.in_ok-push_search-in-ForFirst.ensures ∙ ap (λ n. c.args.uses.now ++ use_of.Field false n (Is Any) ∷ [])
    (c.field-number.ensures c.args.here.now.exchange.now c.requires.numbers))

pub returns-in_ok-push-in-Seize : goal.returns-in_ok-push-in-Seize
returns-in_ok-push-in-Seize c =
    done_as c.args.here.now.exchange.now c.args.here.now.block c.args.kind.now
    (layer.Seize c.in-Seize.temp c.in-Seize.file c.in-Seize.label) c.args.uses.now c.push.new.self
    (ap out-StmtKind c.in-Seize.is ∙ kind.outs-Seize c.in-Seize.temp c.in-Seize.file c.in-Seize.label)
    c.in_ok-push-in-Seize.ensures

pub returns-in_ok-push-in-Free : goal.returns-in_ok-push-in-Free
returns-in_ok-push-in-Free c =
    done_as c.args.here.now.exchange.now c.args.here.now.block c.args.kind.now
    (layer.Free c.in-Free.temp c.in-Free.file) c.args.uses.now c.push-in-Free.new.self
    (ap out-StmtKind c.in-Free.is ∙ kind.outs-Free c.in-Free.temp c.in-Free.file) c.in_ok-push-in-Free.ensures

pub returns-in_default : goal.returns-in_default
returns-in_default c = done_none c.args.here.now.exchange.now c.args.here.now.block c.args.kind.now c.args.uses.now
    c.in_default.not-SetVariable c.in_default.not-SetField c.in_default.not-ForFirst c.in_default.not-Seize
    c.in_default.not-Free
