use Rattle.std.proofs.Common.{ap, ◌∙◌}
use Rattle.exchange_model.specs.declared.stmt.StmtKind.{out-StmtKind}
use Rattle.exchange_model.specs.declared.stmt.StmtKind.TheOpen as layer
use Rattle.exchange_model.specs.declared.stmt.StmtKind.TheVariants as kind
use Rattle.flow_table.proofs.Wayfaring.{exprs_in}
use Rattle.entry_faults.proofs.asks.width_question.Goals as goal

pub wide_question-requires : goal.wide_question-requires
wide_question-requires c = (exprs_in c.args.exchange.now c.args.block c.args.kind.now
    (layer.SetVariable c.in-SetVariable.variable c.in-SetVariable.value) c.kept.ensures c.requires
    (ap out-StmtKind c.in-SetVariable.is ∙ kind.outs-SetVariable c.in-SetVariable.variable c.in-SetVariable.value)).0

pub field_question-requires : goal.field_question-requires
field_question-requires c = (exprs_in c.args.exchange.now c.args.block c.args.kind.now
    (layer.SetField c.in-SetField.file c.in-SetField.field c.in-SetField.pointer c.in-SetField.value) c.kept.ensures
    c.requires (ap out-StmtKind c.in-SetField.is
    ∙ kind.outs-SetField c.in-SetField.file c.in-SetField.field c.in-SetField.pointer c.in-SetField.value)).0
