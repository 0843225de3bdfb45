use Rattle.std.proofs.Common.{rules, arith, ap, ◌∙◌, Some, None}
use Rattle.std.proofs.lemmas.Grind.{common_steps}
use Rattle.plex_ast.specs.declared.stmt.StmtKind.{out-StmtKind}
use Rattle.plex_ast.specs.declared.stmt.StmtKind.TheOpen as layer
use Rattle.plex_ast.specs.declared.stmt.StmtKind.TheVariants as kind
use Rattle.block_resolver.specs.Tables.{env_in}
use Rattle.resolved_block.proofs.Turns.{kind_is}
use Rattle.block_resolver.proofs.statements.+statements.Goals as goal

pub make_kind-returns-in_ok-value-in-Assign-clause-made : goal.make_kind-returns-in_ok-value-in-Assign-clause-made
make_kind-returns-in_ok-value-in-Assign-clause-made t c =
    rw (kind_is (env_in c.args.names.now) c.args.kind.now (layer.Assign c.in-Assign.name c.in-Assign.value)
    c.args.point.now (ap out-StmtKind c.in-Assign.is ∙ kind.outs-Assign c.in-Assign.name c.in-Assign.value))
    (first_of (search (rules, common_steps), grind (arith, common_steps)))

pub make_kind-returns-in_ok-value-in-Assign-clause-next : goal.make_kind-returns-in_ok-value-in-Assign-clause-next
make_kind-returns-in_ok-value-in-Assign-clause-next t c =
    rw (kind_is (env_in c.args.names.now) c.args.kind.now (layer.Assign c.in-Assign.name c.in-Assign.value)
    c.args.point.now (ap out-StmtKind c.in-Assign.is ∙ kind.outs-Assign c.in-Assign.name c.in-Assign.value))
    (first_of (search (rules, common_steps), grind (arith, common_steps)))

pub make_kind-returns-in_ok-value-in-SetField-clause-made : goal.make_kind-returns-in_ok-value-in-SetField-clause-made
make_kind-returns-in_ok-value-in-SetField-clause-made t c =
    rw (kind_is (env_in c.args.names.now) c.args.kind.now
    (layer.SetField c.in-SetField.name c.in-SetField.pointer c.in-SetField.value) c.args.point.now
    (ap out-StmtKind c.in-SetField.is ∙ kind.outs-SetField c.in-SetField.name c.in-SetField.pointer
    c.in-SetField.value)) (first_of (search (rules, common_steps), grind (arith, common_steps)))

pub make_kind-returns-in_ok-value-in-SetField-clause-next : goal.make_kind-returns-in_ok-value-in-SetField-clause-next
make_kind-returns-in_ok-value-in-SetField-clause-next t c =
    rw (kind_is (env_in c.args.names.now) c.args.kind.now
    (layer.SetField c.in-SetField.name c.in-SetField.pointer c.in-SetField.value) c.args.point.now
    (ap out-StmtKind c.in-SetField.is ∙ kind.outs-SetField c.in-SetField.name c.in-SetField.pointer
    c.in-SetField.value)) (first_of (search (rules, common_steps), grind (arith, common_steps)))

pub make_kind-returns-in-Goto-clause-made : goal.make_kind-returns-in-Goto-clause-made
make_kind-returns-in-Goto-clause-made t c =
    rw (kind_is (env_in c.args.names.now) c.args.kind.now (layer.Goto c.in-Goto.label) c.args.point.now
    (ap out-StmtKind c.in-Goto.is ∙ kind.outs-Goto c.in-Goto.label))
    (first_of (search (rules, common_steps), grind (arith, common_steps)))

pub make_kind-returns-in-Goto-clause-next : goal.make_kind-returns-in-Goto-clause-next
make_kind-returns-in-Goto-clause-next t c =
    rw (kind_is (env_in c.args.names.now) c.args.kind.now (layer.Goto c.in-Goto.label) c.args.point.now
    (ap out-StmtKind c.in-Goto.is ∙ kind.outs-Goto c.in-Goto.label))
    (first_of (search (rules, common_steps), grind (arith, common_steps)))

pub make_kind-returns-in_ok-cond-in-IfGoto-clause-made : goal.make_kind-returns-in_ok-cond-in-IfGoto-clause-made
make_kind-returns-in_ok-cond-in-IfGoto-clause-made t c =
    rw (kind_is (env_in c.args.names.now) c.args.kind.now (layer.IfGoto c.in-IfGoto.cond c.in-IfGoto.label)
    c.args.point.now (ap out-StmtKind c.in-IfGoto.is ∙ kind.outs-IfGoto c.in-IfGoto.cond c.in-IfGoto.label))
    (first_of (search (rules, common_steps), grind (arith, common_steps)))

pub make_kind-returns-in_ok-cond-in-IfGoto-clause-next : goal.make_kind-returns-in_ok-cond-in-IfGoto-clause-next
make_kind-returns-in_ok-cond-in-IfGoto-clause-next t c =
    rw (kind_is (env_in c.args.names.now) c.args.kind.now (layer.IfGoto c.in-IfGoto.cond c.in-IfGoto.label)
    c.args.point.now (ap out-StmtKind c.in-IfGoto.is ∙ kind.outs-IfGoto c.in-IfGoto.cond c.in-IfGoto.label))
    (first_of (search (rules, common_steps), grind (arith, common_steps)))

pub make_kind-returns-in_ok-made-in-None-clause-made : goal.make_kind-returns-in_ok-made-in-None-clause-made
make_kind-returns-in_ok-made-in-None-clause-made t c =
    rw (kind_is (env_in c.args.names.now) c.args.kind.now (layer.If c.in-If.cond c.in-If.first None) c.args.point.now
    (ap out-StmtKind c.in-If.is ∙ kind.outs-If c.in-If.cond c.in-If.first c.in-If.other
    ∙ ap (λ o. layer.If c.in-If.cond c.in-If.first o) c.in-None.is))
    (first_of (search (rules, common_steps), grind (arith, common_steps)))

pub make_kind-returns-in_ok-made-in-None-clause-next : goal.make_kind-returns-in_ok-made-in-None-clause-next
make_kind-returns-in_ok-made-in-None-clause-next t c =
    rw (kind_is (env_in c.args.names.now) c.args.kind.now (layer.If c.in-If.cond c.in-If.first None) c.args.point.now
    (ap out-StmtKind c.in-If.is ∙ kind.outs-If c.in-If.cond c.in-If.first c.in-If.other
    ∙ ap (λ o. layer.If c.in-If.cond c.in-If.first o) c.in-None.is))
    (first_of (search (rules, common_steps), grind (arith, common_steps)))

pub make_kind-returns-in_ok-made-in-Some-clause-made : goal.make_kind-returns-in_ok-made-in-Some-clause-made
make_kind-returns-in_ok-made-in-Some-clause-made t c =
    rw (kind_is (env_in c.args.names.now) c.args.kind.now (layer.If c.in-If.cond c.in-If.first (Some c.in-Some.stmts))
    c.args.point.now (ap out-StmtKind c.in-If.is ∙ kind.outs-If c.in-If.cond c.in-If.first c.in-If.other
    ∙ ap (λ o. layer.If c.in-If.cond c.in-If.first o) c.in-Some.is))
    (first_of (search (rules, common_steps), grind (arith, common_steps)))

pub make_kind-returns-in_ok-made-in-Some-clause-next : goal.make_kind-returns-in_ok-made-in-Some-clause-next
make_kind-returns-in_ok-made-in-Some-clause-next t c =
    rw (kind_is (env_in c.args.names.now) c.args.kind.now (layer.If c.in-If.cond c.in-If.first (Some c.in-Some.stmts))
    c.args.point.now (ap out-StmtKind c.in-If.is ∙ kind.outs-If c.in-If.cond c.in-If.first c.in-If.other
    ∙ ap (λ o. layer.If c.in-If.cond c.in-If.first o) c.in-Some.is))
    (first_of (search (rules, common_steps), grind (arith, common_steps)))

pub make_kind-returns-in_ok-made-in-Case-clause-made : goal.make_kind-returns-in_ok-made-in-Case-clause-made
make_kind-returns-in_ok-made-in-Case-clause-made t c =
    rw (kind_is (env_in c.args.names.now) c.args.kind.now
    (layer.Case c.in-Case.value c.in-Case.whens c.in-Case.otherwise) c.args.point.now
    (ap out-StmtKind c.in-Case.is ∙ kind.outs-Case c.in-Case.value c.in-Case.whens c.in-Case.otherwise))
    (first_of (search (rules, common_steps), grind (arith, common_steps)))

pub make_kind-returns-in_ok-made-in-Case-clause-next : goal.make_kind-returns-in_ok-made-in-Case-clause-next
make_kind-returns-in_ok-made-in-Case-clause-next t c =
    rw (kind_is (env_in c.args.names.now) c.args.kind.now
    (layer.Case c.in-Case.value c.in-Case.whens c.in-Case.otherwise) c.args.point.now
    (ap out-StmtKind c.in-Case.is ∙ kind.outs-Case c.in-Case.value c.in-Case.whens c.in-Case.otherwise))
    (first_of (search (rules, common_steps), grind (arith, common_steps)))

pub make_kind-returns-in_ok-made-in-On-clause-made : goal.make_kind-returns-in_ok-made-in-On-clause-made
make_kind-returns-in_ok-made-in-On-clause-made t c =
    rw (kind_is (env_in c.args.names.now) c.args.kind.now (layer.On c.in-On.name c.in-On.from c.in-On.upto c.in-On.body)
    c.args.point.now (ap out-StmtKind c.in-On.is
    ∙ kind.outs-On c.in-On.name c.in-On.from c.in-On.upto c.in-On.body))
    (first_of (search (rules, common_steps), grind (arith, common_steps)))

pub make_kind-returns-in_ok-made-in-On-clause-next : goal.make_kind-returns-in_ok-made-in-On-clause-next
make_kind-returns-in_ok-made-in-On-clause-next t c =
    rw (kind_is (env_in c.args.names.now) c.args.kind.now (layer.On c.in-On.name c.in-On.from c.in-On.upto c.in-On.body)
    c.args.point.now (ap out-StmtKind c.in-On.is
    ∙ kind.outs-On c.in-On.name c.in-On.from c.in-On.upto c.in-On.body))
    (first_of (search (rules, common_steps), grind (arith, common_steps)))

pub make_kind-returns-in_ok-value-in-ForFirst-clause-made : goal.make_kind-returns-in_ok-value-in-ForFirst-clause-made
make_kind-returns-in_ok-value-in-ForFirst-clause-made t c =
    rw (kind_is (env_in c.args.names.now) c.args.kind.now
    (layer.ForFirst c.in-ForFirst.name c.in-ForFirst.file c.in-ForFirst.field c.in-ForFirst.rel c.in-ForFirst.value
    c.in-ForFirst.label) c.args.point.now (ap out-StmtKind c.in-ForFirst.is
    ∙ kind.outs-ForFirst c.in-ForFirst.name c.in-ForFirst.file c.in-ForFirst.field c.in-ForFirst.rel
    c.in-ForFirst.value c.in-ForFirst.label)) (first_of (search (rules, common_steps), grind (arith, common_steps)))

pub make_kind-returns-in_ok-value-in-ForFirst-clause-next : goal.make_kind-returns-in_ok-value-in-ForFirst-clause-next
make_kind-returns-in_ok-value-in-ForFirst-clause-next t c =
    rw (kind_is (env_in c.args.names.now) c.args.kind.now
    (layer.ForFirst c.in-ForFirst.name c.in-ForFirst.file c.in-ForFirst.field c.in-ForFirst.rel c.in-ForFirst.value
    c.in-ForFirst.label) c.args.point.now (ap out-StmtKind c.in-ForFirst.is
    ∙ kind.outs-ForFirst c.in-ForFirst.name c.in-ForFirst.file c.in-ForFirst.field c.in-ForFirst.rel
    c.in-ForFirst.value c.in-ForFirst.label)) (first_of (search (rules, common_steps), grind (arith, common_steps)))

pub make_kind-returns-in_ok-values-in-Send-clause-made : goal.make_kind-returns-in_ok-values-in-Send-clause-made
make_kind-returns-in_ok-values-in-Send-clause-made t c =
    rw (kind_is (env_in c.args.names.now) c.args.kind.now
    (layer.Send c.in-Send.signal c.in-Send.reference c.in-Send.values c.in-Send.fresh) c.args.point.now
    (ap out-StmtKind c.in-Send.is ∙ kind.outs-Send c.in-Send.signal c.in-Send.reference c.in-Send.values
    c.in-Send.fresh)) (first_of (search (rules, common_steps), grind (arith, common_steps)))

pub make_kind-returns-in_ok-values-in-Send-clause-next : goal.make_kind-returns-in_ok-values-in-Send-clause-next
make_kind-returns-in_ok-values-in-Send-clause-next t c =
    rw (kind_is (env_in c.args.names.now) c.args.kind.now
    (layer.Send c.in-Send.signal c.in-Send.reference c.in-Send.values c.in-Send.fresh) c.args.point.now
    (ap out-StmtKind c.in-Send.is ∙ kind.outs-Send c.in-Send.signal c.in-Send.reference c.in-Send.values
    c.in-Send.fresh)) (first_of (search (rules, common_steps), grind (arith, common_steps)))

pub make_kind-returns-in_ok-temps-in-Retrieve-clause-made : goal.make_kind-returns-in_ok-temps-in-Retrieve-clause-made
make_kind-returns-in_ok-temps-in-Retrieve-clause-made t c =
    rw (kind_is (env_in c.args.names.now) c.args.kind.now (layer.Retrieve c.in-Retrieve.signal c.in-Retrieve.list)
    c.args.point.now (ap out-StmtKind c.in-Retrieve.is
    ∙ kind.outs-Retrieve c.in-Retrieve.signal c.in-Retrieve.list))
    (first_of (search (rules, common_steps), grind (arith, common_steps)))

pub make_kind-returns-in_ok-temps-in-Retrieve-clause-next : goal.make_kind-returns-in_ok-temps-in-Retrieve-clause-next
make_kind-returns-in_ok-temps-in-Retrieve-clause-next t c =
    rw (kind_is (env_in c.args.names.now) c.args.kind.now (layer.Retrieve c.in-Retrieve.signal c.in-Retrieve.list)
    c.args.point.now (ap out-StmtKind c.in-Retrieve.is
    ∙ kind.outs-Retrieve c.in-Retrieve.signal c.in-Retrieve.list))
    (first_of (search (rules, common_steps), grind (arith, common_steps)))

pub make_kind-returns-in_ok-values-in-Return-clause-made : goal.make_kind-returns-in_ok-values-in-Return-clause-made
make_kind-returns-in_ok-values-in-Return-clause-made t c =
    rw (kind_is (env_in c.args.names.now) c.args.kind.now (layer.Return c.in-Return.signal c.in-Return.values)
    c.args.point.now (ap out-StmtKind c.in-Return.is ∙ kind.outs-Return c.in-Return.signal c.in-Return.values))
    (first_of (search (rules, common_steps), grind (arith, common_steps)))

pub make_kind-returns-in_ok-values-in-Return-clause-next : goal.make_kind-returns-in_ok-values-in-Return-clause-next
make_kind-returns-in_ok-values-in-Return-clause-next t c =
    rw (kind_is (env_in c.args.names.now) c.args.kind.now (layer.Return c.in-Return.signal c.in-Return.values)
    c.args.point.now (ap out-StmtKind c.in-Return.is ∙ kind.outs-Return c.in-Return.signal c.in-Return.values))
    (first_of (search (rules, common_steps), grind (arith, common_steps)))

pub make_kind-returns-in-Transfer-clause-made : goal.make_kind-returns-in-Transfer-clause-made
make_kind-returns-in-Transfer-clause-made t c =
    rw (kind_is (env_in c.args.names.now) c.args.kind.now (layer.Transfer c.in-Transfer.signal c.in-Transfer.reference)
    c.args.point.now (ap out-StmtKind c.in-Transfer.is
    ∙ kind.outs-Transfer c.in-Transfer.signal c.in-Transfer.reference))
    (first_of (search (rules, common_steps), grind (arith, common_steps)))

pub make_kind-returns-in-Transfer-clause-next : goal.make_kind-returns-in-Transfer-clause-next
make_kind-returns-in-Transfer-clause-next t c =
    rw (kind_is (env_in c.args.names.now) c.args.kind.now (layer.Transfer c.in-Transfer.signal c.in-Transfer.reference)
    c.args.point.now (ap out-StmtKind c.in-Transfer.is
    ∙ kind.outs-Transfer c.in-Transfer.signal c.in-Transfer.reference))
    (first_of (search (rules, common_steps), grind (arith, common_steps)))

pub make_kind-returns-in-Seize-clause-made : goal.make_kind-returns-in-Seize-clause-made
make_kind-returns-in-Seize-clause-made t c =
    rw (kind_is (env_in c.args.names.now) c.args.kind.now (layer.Seize c.in-Seize.name c.in-Seize.file c.in-Seize.label)
    c.args.point.now (ap out-StmtKind c.in-Seize.is
    ∙ kind.outs-Seize c.in-Seize.name c.in-Seize.file c.in-Seize.label))
    (first_of (search (rules, common_steps), grind (arith, common_steps)))

pub make_kind-returns-in-Seize-clause-next : goal.make_kind-returns-in-Seize-clause-next
make_kind-returns-in-Seize-clause-next t c =
    rw (kind_is (env_in c.args.names.now) c.args.kind.now (layer.Seize c.in-Seize.name c.in-Seize.file c.in-Seize.label)
    c.args.point.now (ap out-StmtKind c.in-Seize.is
    ∙ kind.outs-Seize c.in-Seize.name c.in-Seize.file c.in-Seize.label))
    (first_of (search (rules, common_steps), grind (arith, common_steps)))

pub make_kind-returns-in-Free-clause-made : goal.make_kind-returns-in-Free-clause-made
make_kind-returns-in-Free-clause-made t c =
    rw (kind_is (env_in c.args.names.now) c.args.kind.now (layer.Free c.in-Free.name c.in-Free.file) c.args.point.now
    (ap out-StmtKind c.in-Free.is ∙ kind.outs-Free c.in-Free.name c.in-Free.file))
    (first_of (search (rules, common_steps), grind (arith, common_steps)))

pub make_kind-returns-in-Free-clause-next : goal.make_kind-returns-in-Free-clause-next
make_kind-returns-in-Free-clause-next t c =
    rw (kind_is (env_in c.args.names.now) c.args.kind.now (layer.Free c.in-Free.name c.in-Free.file) c.args.point.now
    (ap out-StmtKind c.in-Free.is ∙ kind.outs-Free c.in-Free.name c.in-Free.file))
    (first_of (search (rules, common_steps), grind (arith, common_steps)))

pub make_kind-returns-in-Exit-clause-made : goal.make_kind-returns-in-Exit-clause-made
make_kind-returns-in-Exit-clause-made t c =
    rw (kind_is (env_in c.args.names.now) c.args.kind.now layer.Exit c.args.point.now
    (ap out-StmtKind c.in-Exit.is ∙ kind.outs-Exit))
    (first_of (search (rules, common_steps), grind (arith, common_steps)))

pub make_kind-returns-in-Exit-clause-next : goal.make_kind-returns-in-Exit-clause-next
make_kind-returns-in-Exit-clause-next t c =
    rw (kind_is (env_in c.args.names.now) c.args.kind.now layer.Exit c.args.point.now
    (ap out-StmtKind c.in-Exit.is ∙ kind.outs-Exit))
    (first_of (search (rules, common_steps), grind (arith, common_steps)))
