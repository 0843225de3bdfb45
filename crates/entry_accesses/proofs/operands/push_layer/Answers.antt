use Rattle.std.proofs.Common.{◌∙◌, ap, subst}
use Rattle.exchange_model.specs.declared.stmt.StmtKind.{out-StmtKind}
use Rattle.exchange_model.specs.declared.stmt.StmtKind.TheOpen as layer
use Rattle.exchange_model.specs.declared.stmt.StmtKind.TheVariants as kind
use Rattle.entry_accesses.specs.Operands.{HasNames, names_in}
use Rattle.entry_accesses.proofs.Naming.{layer_as, layer_none, layer_names_none}
use Rattle.entry_accesses.proofs.operands.push_layer.Goals as goal

pub returns-in_ok-push_alone-in-SetTemp : goal.returns-in_ok-push_alone-in-SetTemp
returns-in_ok-push_alone-in-SetTemp c =
    layer_as c.args.kind.now (layer.SetTemp c.in-SetTemp.temp c.in-SetTemp.value) c.args.names.now
    c.push_alone.new.names (ap out-StmtKind c.in-SetTemp.is
    ∙ kind.outs-SetTemp c.in-SetTemp.temp c.in-SetTemp.value) c.in_ok-push_alone-in-SetTemp.ensures

pub returns-in_ok-push_alone-in-SetVariable : goal.returns-in_ok-push_alone-in-SetVariable
returns-in_ok-push_alone-in-SetVariable c =
    layer_as c.args.kind.now (layer.SetVariable c.in-SetVariable.variable c.in-SetVariable.value) c.args.names.now
    c.push_alone-in-SetVariable.new.names (ap out-StmtKind c.in-SetVariable.is
    ∙ kind.outs-SetVariable c.in-SetVariable.variable c.in-SetVariable.value)
    c.in_ok-push_alone-in-SetVariable.ensures

pub returns-in_ok-push_alone-in-SetField : goal.returns-in_ok-push_alone-in-SetField
returns-in_ok-push_alone-in-SetField c =
    layer_as c.args.kind.now (layer.SetField c.in-SetField.file c.in-SetField.field c.in-SetField.pointer
    c.in-SetField.value) c.args.names.now c.push_alone-in-SetField.new.names
    (ap out-StmtKind c.in-SetField.is ∙ kind.outs-SetField c.in-SetField.file c.in-SetField.field
    c.in-SetField.pointer c.in-SetField.value) c.in_ok-push_alone-in-SetField.ensures

pub returns-in_ok-push_cond-in-IfGoto : goal.returns-in_ok-push_cond-in-IfGoto
returns-in_ok-push_cond-in-IfGoto c =
    layer_as c.args.kind.now (layer.IfGoto c.in-IfGoto.cond c.in-IfGoto.label) c.args.names.now c.push_cond.new.names
    (ap out-StmtKind c.in-IfGoto.is ∙ kind.outs-IfGoto c.in-IfGoto.cond c.in-IfGoto.label)
    c.in_ok-push_cond-in-IfGoto.ensures

pub returns-in_ok-push_cond-in-If : goal.returns-in_ok-push_cond-in-If
returns-in_ok-push_cond-in-If c =
    layer_as c.args.kind.now (layer.If c.in-If.cond c.in-If.yes c.in-If.no) c.args.names.now c.push_cond-in-If.new.names
    (ap out-StmtKind c.in-If.is ∙ kind.outs-If c.in-If.cond c.in-If.yes c.in-If.no) c.in_ok-push_cond-in-If.ensures

pub returns-in_ok-push_alone-in-Case : goal.returns-in_ok-push_alone-in-Case
returns-in_ok-push_alone-in-Case c =
    layer_as c.args.kind.now (layer.Case c.in-Case.value c.in-Case.whens c.in-Case.otherwise) c.args.names.now
    c.push_alone-in-Case.new.names (ap out-StmtKind c.in-Case.is
    ∙ kind.outs-Case c.in-Case.value c.in-Case.whens c.in-Case.otherwise) c.in_ok-push_alone-in-Case.ensures

pub returns-in_ok-push_both-in-On : goal.returns-in_ok-push_both-in-On
returns-in_ok-push_both-in-On c =
    layer_as c.args.kind.now (layer.On c.in-On.temp c.in-On.from c.in-On.upto c.in-On.body) c.args.names.now
    c.push_both.new.names (ap out-StmtKind c.in-On.is
    ∙ kind.outs-On c.in-On.temp c.in-On.from c.in-On.upto c.in-On.body) c.in_ok-push_both-in-On.ensures

pub returns-in_ok-push_alone-in-ForFirst : goal.returns-in_ok-push_alone-in-ForFirst
returns-in_ok-push_alone-in-ForFirst c =
    layer_as c.args.kind.now (layer.ForFirst c.in-ForFirst.temp c.in-ForFirst.file c.in-ForFirst.field c.in-ForFirst.rel
    c.in-ForFirst.value c.in-ForFirst.label) c.args.names.now c.push_alone-in-ForFirst.new.names
    (ap out-StmtKind c.in-ForFirst.is ∙ kind.outs-ForFirst c.in-ForFirst.temp c.in-ForFirst.file c.in-ForFirst.field
    c.in-ForFirst.rel c.in-ForFirst.value c.in-ForFirst.label) c.in_ok-push_alone-in-ForFirst.ensures

pub returns-in_ok-push_exprs-in-Send : goal.returns-in_ok-push_exprs-in-Send
returns-in_ok-push_exprs-in-Send c =
    layer_as c.args.kind.now (layer.Send c.in-Send.signal c.in-Send.to c.in-Send.values c.in-Send.fresh)
    c.args.names.now c.push_exprs.new.names
    (ap out-StmtKind c.in-Send.is ∙ kind.outs-Send c.in-Send.signal c.in-Send.to c.in-Send.values c.in-Send.fresh)
    (subst (λ es. HasNames c.args.names.now c.push_exprs.new.names (names_in es)) c.as_slice.ensures
    c.in_ok-push_exprs-in-Send.ensures)

pub returns-in_ok-push_exprs-in-Return : goal.returns-in_ok-push_exprs-in-Return
returns-in_ok-push_exprs-in-Return c =
    layer_as c.args.kind.now (layer.Return c.in-Return.answer c.in-Return.values) c.args.names.now
    c.push_exprs-in-Return.new.names (ap out-StmtKind c.in-Return.is
    ∙ kind.outs-Return c.in-Return.answer c.in-Return.values)
    (subst (λ es. HasNames c.args.names.now c.push_exprs-in-Return.new.names (names_in es))
    c.as_slice-in-Return.ensures c.in_ok-push_exprs-in-Return.ensures)

pub returns-in_default : goal.returns-in_default
returns-in_default c =
    layer_none c.args.kind.now c.args.names.now
    (layer_names_none c.args.kind.now c.in_default.not-SetTemp c.in_default.not-SetVariable c.in_default.not-SetField
    c.in_default.not-IfGoto c.in_default.not-If c.in_default.not-Case c.in_default.not-On c.in_default.not-ForFirst
    c.in_default.not-Send c.in_default.not-Return)
