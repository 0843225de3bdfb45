use Rattle.std.proofs.Common.{◌∙◌, ◌++◌, [], ◌∷◌, map, ap, sym, refl, subst, Some, slice_get}
use Rattle.std.specs.List.{AllByRecursion}
use Rattle.exchange_model.specs.declared.stmt.StmtKind.{out-StmtKind}
use Rattle.exchange_model.specs.declared.stmt.StmtKind.TheOpen as layer
use Rattle.exchange_model.specs.declared.stmt.StmtKind.TheVariants as kind
use Rattle.source_meaning.specs.Rests.{first_point}
use Rattle.flow_points.specs.declared.fact.Value.TheVariants.{Any}
use Rattle.flow_points.specs.declared.flow.Source.TheVariants.{Is}
use Rattle.flow_points.specs.declared.flow.Passing.TheVariants.{Kept, Sets, Answers}
use Rattle.flow_points.specs.Sources.{expr_source}
use Rattle.flow_table.specs.declared.way.Ends.TheVariants as ends
use Rattle.flow_table.specs.Alone.{IsExprIn}
use Rattle.flow_table.specs.Ways.{listed, to_next, to_points, choice_points, send_ways, layer_ways}
use Rattle.flow_table.proofs.Wayfaring.{made, exprs_in}
use Rattle.flow_table.proofs.ways.ways_of.Goals as goal

pub sets-requires : goal.sets-requires
sets-requires c = (exprs_in c.args.exchange.now c.args.block c.args.kind.now
    (layer.SetTemp c.in-SetTemp.temp c.in-SetTemp.value) c.kept.ensures c.requires
    (ap out-StmtKind c.in-SetTemp.is ∙ kind.outs-SetTemp c.in-SetTemp.temp c.in-SetTemp.value)).0

pub sends-requires : goal.sends-requires
sends-requires c =
    subst (AllByRecursion IsExprIn) (sym c.as_slice-in-Send.ensures)
    (exprs_in c.args.exchange.now c.args.block c.args.kind.now
    (layer.Send c.in-Send.signal c.in-Send.to c.in-Send.values c.in-Send.fresh) c.kept.ensures c.requires
    (ap out-StmtKind c.in-Send.is ∙ kind.outs-Send c.in-Send.signal c.in-Send.to c.in-Send.values c.in-Send.fresh))

pub returns-requires : goal.returns-requires
returns-requires c =
    subst (AllByRecursion IsExprIn) (sym c.as_slice-in-Return.ensures)
    (exprs_in c.args.exchange.now c.args.block c.args.kind.now (layer.Return c.in-Return.answer c.in-Return.values)
    c.kept.ensures c.requires (ap out-StmtKind c.in-Return.is
    ∙ kind.outs-Return c.in-Return.answer c.in-Return.values))

pub returns-in-Enter : goal.returns-in-Enter
returns-in-Enter c = made c.args.exchange.now c.args.block c.args.point c.args.next c.args.kind.now
    (layer.Enter c.in-Enter.signal c.in-Enter.temps)
    (layer_ways c.args.exchange.now c.args.block c.args.point c.args.next
    (layer.Enter c.in-Enter.signal c.in-Enter.temps)) c.takes.result
    (ap out-StmtKind c.in-Enter.is ∙ kind.outs-Enter c.in-Enter.signal c.in-Enter.temps) refl c.takes.ensures

pub returns-in-SetTemp : goal.returns-in-SetTemp
returns-in-SetTemp c = made c.args.exchange.now c.args.block c.args.point c.args.next c.args.kind.now
    (layer.SetTemp c.in-SetTemp.temp c.in-SetTemp.value)
    (layer_ways c.args.exchange.now c.args.block c.args.point c.args.next
    (layer.SetTemp c.in-SetTemp.temp c.in-SetTemp.value)) c.sets.result
    (ap out-StmtKind c.in-SetTemp.is ∙ kind.outs-SetTemp c.in-SetTemp.temp c.in-SetTemp.value) refl c.sets.ensures

pub returns-in-SetVariable : goal.returns-in-SetVariable
returns-in-SetVariable c = made c.args.exchange.now c.args.block c.args.point c.args.next c.args.kind.now
    (layer.SetVariable c.in-SetVariable.variable c.in-SetVariable.value)
    (layer_ways c.args.exchange.now c.args.block c.args.point c.args.next
    (layer.SetVariable c.in-SetVariable.variable c.in-SetVariable.value)) c.one_way.result
    (ap out-StmtKind c.in-SetVariable.is ∙ kind.outs-SetVariable c.in-SetVariable.variable c.in-SetVariable.value) refl
    c.one_way.ensures

pub returns-in-SetField : goal.returns-in-SetField
returns-in-SetField c = made c.args.exchange.now c.args.block c.args.point c.args.next c.args.kind.now
    (layer.SetField c.in-SetField.file c.in-SetField.field c.in-SetField.pointer c.in-SetField.value)
    (layer_ways c.args.exchange.now c.args.block c.args.point c.args.next
    (layer.SetField c.in-SetField.file c.in-SetField.field c.in-SetField.pointer c.in-SetField.value))
    c.one_way-in-SetField.result (ap out-StmtKind c.in-SetField.is
    ∙ kind.outs-SetField c.in-SetField.file c.in-SetField.field c.in-SetField.pointer c.in-SetField.value) refl
    c.one_way-in-SetField.ensures

pub returns-in-Goto : goal.returns-in-Goto
returns-in-Goto c = made c.args.exchange.now c.args.block c.args.point c.args.next c.args.kind.now
    (layer.Goto c.in-Goto.label) (to_next Kept c.label_point.result ∷ []) c.one_way-in-Goto.result
    (ap out-StmtKind c.in-Goto.is ∙ kind.outs-Goto c.in-Goto.label)
    (ap (λ o. to_next Kept o ∷ []) c.label_point.ensures) c.one_way-in-Goto.ensures

pub returns-in-IfGoto : goal.returns-in-IfGoto
returns-in-IfGoto c = made c.args.exchange.now c.args.block c.args.point c.args.next c.args.kind.now
    (layer.IfGoto c.in-IfGoto.cond c.in-IfGoto.label)
    (to_points Kept (listed c.label_point-in-IfGoto.result ++ listed c.args.next) ∷ []) c.either.result
    (ap out-StmtKind c.in-IfGoto.is ∙ kind.outs-IfGoto c.in-IfGoto.cond c.in-IfGoto.label)
    (ap (λ o. to_points Kept (listed o ++ listed c.args.next) ∷ []) c.label_point-in-IfGoto.ensures) c.either.ensures

pub returns-in-If : goal.returns-in-If
returns-in-If c = made c.args.exchange.now c.args.block c.args.point c.args.next c.args.kind.now
    (layer.If c.in-If.cond c.in-If.yes c.in-If.no)
    (to_points Kept (listed c.first_of-first.result ++ listed c.first_of-other.result) ∷ []) c.either-in-If.result
    (ap out-StmtKind c.in-If.is ∙ kind.outs-If c.in-If.cond c.in-If.yes c.in-If.no)
    (λ i. to_points Kept (listed ((c.first_of-first.ensures ∙ ap (λ b. first_point b c.args.next) c.as_slice.ensures) i)
    ++ listed ((c.first_of-other.ensures ∙ ap (λ b. first_point b c.args.next) c.as_slice-in-If.ensures) i)) ∷ [])
    c.either-in-If.ensures

pub returns-in-Case : goal.returns-in-Case
returns-in-Case c = made c.args.exchange.now c.args.block c.args.point c.args.next c.args.kind.now
    (layer.Case c.in-Case.value c.in-Case.whens c.in-Case.otherwise)
    (to_points Kept (choice_points c.as_slice-in-Case-2.result.now c.args.next
    ++ listed c.first_of-other-in-Case.result) ∷ []) c.choices.result
    (ap out-StmtKind c.in-Case.is ∙ kind.outs-Case c.in-Case.value c.in-Case.whens c.in-Case.otherwise)
    (λ i. to_points Kept (choice_points (c.as_slice-in-Case-2.ensures i) c.args.next
    ++ listed ((c.first_of-other-in-Case.ensures ∙ ap (λ b. first_point b c.args.next) c.as_slice-in-Case.ensures) i))
    ∷ []) c.choices.ensures

pub returns-in-On : goal.returns-in-On
returns-in-On c = made c.args.exchange.now c.args.block c.args.point c.args.next c.args.kind.now
    (layer.On c.in-On.temp c.in-On.from c.in-On.upto c.in-On.body)
    (to_next (Sets c.in-On.temp (Is Any)) c.first_of-first-in-On.result ∷ to_next Kept c.args.next ∷ [])
    c.sets_or_goes.result (ap out-StmtKind c.in-On.is
    ∙ kind.outs-On c.in-On.temp c.in-On.from c.in-On.upto c.in-On.body)
    (ap (λ o. to_next (Sets c.in-On.temp (Is Any)) o ∷ to_next Kept c.args.next ∷ [])
    (c.first_of-first-in-On.ensures ∙ ap (λ b. first_point b (Some c.args.point)) c.as_slice-in-On.ensures))
    c.sets_or_goes.ensures

pub returns-in-ForFirst : goal.returns-in-ForFirst
returns-in-ForFirst c = made c.args.exchange.now c.args.block c.args.point c.args.next c.args.kind.now
    (layer.ForFirst c.in-ForFirst.temp c.in-ForFirst.file c.in-ForFirst.field c.in-ForFirst.rel c.in-ForFirst.value
    c.in-ForFirst.label) (to_next (Sets c.in-ForFirst.temp (Is Any)) c.label_point-in-ForFirst.result
    ∷ to_next Kept c.args.next ∷ []) c.sets_or_goes-in-ForFirst.result
    (ap out-StmtKind c.in-ForFirst.is ∙ kind.outs-ForFirst c.in-ForFirst.temp c.in-ForFirst.file c.in-ForFirst.field
    c.in-ForFirst.rel c.in-ForFirst.value c.in-ForFirst.label)
    (ap (λ o. to_next (Sets c.in-ForFirst.temp (Is Any)) o ∷ to_next Kept c.args.next ∷ [])
    c.label_point-in-ForFirst.ensures) c.sets_or_goes-in-ForFirst.ensures

pub returns-in-Send : goal.returns-in-Send
returns-in-Send c = made c.args.exchange.now c.args.block c.args.point c.args.next c.args.kind.now
    (layer.Send c.in-Send.signal c.in-Send.to c.in-Send.values c.in-Send.fresh)
    (send_ways c.args.exchange.now (slice_get c.args.exchange.now.signals c.in-Send.signal) c.args.next c.in-Send.signal
    c.in-Send.to c.as_slice-in-Send.result.now) c.sends.result
    (ap out-StmtKind c.in-Send.is ∙ kind.outs-Send c.in-Send.signal c.in-Send.to c.in-Send.values c.in-Send.fresh)
    (ap (λ vs. send_ways c.args.exchange.now (slice_get c.args.exchange.now.signals c.in-Send.signal) c.args.next
    c.in-Send.signal c.in-Send.to vs) c.as_slice-in-Send.ensures) c.sends.ensures

pub returns-in-Retrieve : goal.returns-in-Retrieve
returns-in-Retrieve c = made c.args.exchange.now c.args.block c.args.point c.args.next c.args.kind.now
    (layer.Retrieve c.in-Retrieve.answer c.in-Retrieve.temps)
    (layer_ways c.args.exchange.now c.args.block c.args.point c.args.next
    (layer.Retrieve c.in-Retrieve.answer c.in-Retrieve.temps)) c.retrieves.result
    (ap out-StmtKind c.in-Retrieve.is ∙ kind.outs-Retrieve c.in-Retrieve.answer c.in-Retrieve.temps) refl
    c.retrieves.ensures

pub returns-in-Return : goal.returns-in-Return
returns-in-Return c = made c.args.exchange.now c.args.block c.args.point c.args.next c.args.kind.now
    (layer.Return c.in-Return.answer c.in-Return.values)
    (record {
      how = Answers (map expr_source c.as_slice-in-Return.result.now);
      ends = ends.Retrieves c.in-Return.answer;
    } ∷ []) c.returns.result
    (ap out-StmtKind c.in-Return.is ∙ kind.outs-Return c.in-Return.answer c.in-Return.values)
    (ap (λ vs. record { how = Answers (map expr_source vs); ends = ends.Retrieves c.in-Return.answer } ∷ [])
    c.as_slice-in-Return.ensures) c.returns.ensures

pub returns-in-Transfer : goal.returns-in-Transfer
returns-in-Transfer c = made c.args.exchange.now c.args.block c.args.point c.args.next c.args.kind.now
    (layer.Transfer c.in-Transfer.signal c.in-Transfer.to)
    (layer_ways c.args.exchange.now c.args.block c.args.point c.args.next
    (layer.Transfer c.in-Transfer.signal c.in-Transfer.to)) c.transfers.result
    (ap out-StmtKind c.in-Transfer.is ∙ kind.outs-Transfer c.in-Transfer.signal c.in-Transfer.to) refl
    c.transfers.ensures

pub returns-in-Seize : goal.returns-in-Seize
returns-in-Seize c = made c.args.exchange.now c.args.block c.args.point c.args.next c.args.kind.now
    (layer.Seize c.in-Seize.temp c.in-Seize.file c.in-Seize.label)
    (to_next (Sets c.in-Seize.temp (Is Any)) c.args.next ∷ to_next Kept c.label_point-in-Seize.result ∷ [])
    c.sets_or_goes-in-Seize.result (ap out-StmtKind c.in-Seize.is
    ∙ kind.outs-Seize c.in-Seize.temp c.in-Seize.file c.in-Seize.label)
    (ap (λ o. to_next (Sets c.in-Seize.temp (Is Any)) c.args.next ∷ to_next Kept o ∷ []) c.label_point-in-Seize.ensures)
    c.sets_or_goes-in-Seize.ensures

pub returns-in-Free : goal.returns-in-Free
returns-in-Free c = made c.args.exchange.now c.args.block c.args.point c.args.next c.args.kind.now
    (layer.Free c.in-Free.temp c.in-Free.file)
    (layer_ways c.args.exchange.now c.args.block c.args.point c.args.next (layer.Free c.in-Free.temp c.in-Free.file))
    c.one_way-in-Free.result (ap out-StmtKind c.in-Free.is ∙ kind.outs-Free c.in-Free.temp c.in-Free.file) refl
    c.one_way-in-Free.ensures
