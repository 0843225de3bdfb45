use Rattle.std.proofs.Common.{rules, ◌∙◌, ap}
use Rattle.std.proofs.lemmas.Grind.{common_steps}
use Rattle.plex_ast.specs.declared.stmt.StmtKind.{out-StmtKind}
use Rattle.plex_ast.specs.declared.stmt.StmtKind.TheOpen as layer
use Rattle.plex_ast.specs.declared.stmt.StmtKind.TheVariants as kind
use Rattle.text_walk.proofs.Choices.{kind_is}
use Rattle.text_walk.proofs.statements.+stmts.Goals as goal

pub walk_kind-returns-in_ok-walk_expr-in-Assign : goal.walk_kind-returns-in_ok-walk_expr-in-Assign
walk_kind-returns-in_ok-walk_expr-in-Assign t c = kind_is _ _ _ _ _ (ap out-StmtKind c.in-Assign.is ∙ kind.outs-Assign _ _) (search (rules, common_steps))

pub walk_kind-returns-in_ok-walk_expr-in-SetField : goal.walk_kind-returns-in_ok-walk_expr-in-SetField
walk_kind-returns-in_ok-walk_expr-in-SetField t c = kind_is _ _ _ _ _
    (ap out-StmtKind c.in-SetField.is ∙ kind.outs-SetField _ _ _) (search (rules, common_steps))

pub walk_kind-returns-in_ok-push_label-in-Goto : goal.walk_kind-returns-in_ok-push_label-in-Goto
walk_kind-returns-in_ok-push_label-in-Goto t c = kind_is _ _ _ _ _ (ap out-StmtKind c.in-Goto.is ∙ kind.outs-Goto _) (search (rules, common_steps))

pub walk_kind-returns-in_ok-push_label-in-IfGoto : goal.walk_kind-returns-in_ok-push_label-in-IfGoto
walk_kind-returns-in_ok-push_label-in-IfGoto t c = kind_is _ _ _ _ _ (ap out-StmtKind c.in-IfGoto.is ∙ kind.outs-IfGoto _ _) (search (rules, common_steps))

pub walk_kind-returns-in-None : goal.walk_kind-returns-in-None
walk_kind-returns-in-None t c = kind_is _ _ _ _ _
    (ap out-StmtKind c.in-If.is ∙ kind.outs-If _ _ _
    ∙ ap (λ other. layer.If c.in-If.cond c.in-If.first other) c.in-None.is) (search (rules, common_steps))

pub walk_kind-returns-in_ok-walk_body-in-Some : goal.walk_kind-returns-in_ok-walk_body-in-Some
walk_kind-returns-in_ok-walk_body-in-Some t c = kind_is _ _ _ _ _
    (ap out-StmtKind c.in-If.is ∙ kind.outs-If _ _ _
    ∙ ap (λ other. layer.If c.in-If.cond c.in-If.first other) c.in-Some.is) (search (rules, common_steps))

pub walk_kind-returns-in_ok-walk_body-in-Case : goal.walk_kind-returns-in_ok-walk_body-in-Case
walk_kind-returns-in_ok-walk_body-in-Case t c = kind_is _ _ _ _ _ (ap out-StmtKind c.in-Case.is ∙ kind.outs-Case _ _ _) (search (rules, common_steps))

pub walk_kind-returns-in_ok-walk_body-in-On : goal.walk_kind-returns-in_ok-walk_body-in-On
walk_kind-returns-in_ok-walk_body-in-On t c = kind_is _ _ _ _ _ (ap out-StmtKind c.in-On.is ∙ kind.outs-On _ _ _ _) (search (rules, common_steps))

pub walk_kind-returns-in_ok-push_label-in-ForFirst : goal.walk_kind-returns-in_ok-push_label-in-ForFirst
walk_kind-returns-in_ok-push_label-in-ForFirst t c = kind_is _ _ _ _ _
    (ap out-StmtKind c.in-ForFirst.is ∙ kind.outs-ForFirst _ _ _ _ _ _) (search (rules, common_steps))

pub walk_kind-returns-in_ok-walk_values-in-Send : goal.walk_kind-returns-in_ok-walk_values-in-Send
walk_kind-returns-in_ok-walk_values-in-Send t c = kind_is _ _ _ _ _ (ap out-StmtKind c.in-Send.is ∙ kind.outs-Send _ _ _ _) (search (rules, common_steps))

pub walk_kind-returns-in_ok-walk_names-in-Retrieve : goal.walk_kind-returns-in_ok-walk_names-in-Retrieve
walk_kind-returns-in_ok-walk_names-in-Retrieve t c = kind_is _ _ _ _ _
    (ap out-StmtKind c.in-Retrieve.is ∙ kind.outs-Retrieve _ _) (search (rules, common_steps))

pub walk_kind-returns-in_ok-walk_values-in-Return : goal.walk_kind-returns-in_ok-walk_values-in-Return
walk_kind-returns-in_ok-walk_values-in-Return t c = kind_is _ _ _ _ _ (ap out-StmtKind c.in-Return.is ∙ kind.outs-Return _ _) (search (rules, common_steps))

pub walk_kind-returns-in_ok-walk_reference-in-Transfer : goal.walk_kind-returns-in_ok-walk_reference-in-Transfer
walk_kind-returns-in_ok-walk_reference-in-Transfer t c = kind_is _ _ _ _ _
    (ap out-StmtKind c.in-Transfer.is ∙ kind.outs-Transfer _ _) (search (rules, common_steps))

pub walk_kind-returns-in_ok-push_label-in-Seize : goal.walk_kind-returns-in_ok-push_label-in-Seize
walk_kind-returns-in_ok-push_label-in-Seize t c = kind_is _ _ _ _ _ (ap out-StmtKind c.in-Seize.is ∙ kind.outs-Seize _ _ _) (search (rules, common_steps))

pub walk_kind-returns-in_ok-push_held-in-Free : goal.walk_kind-returns-in_ok-push_held-in-Free
walk_kind-returns-in_ok-push_held-in-Free t c = kind_is _ _ _ _ _ (ap out-StmtKind c.in-Free.is ∙ kind.outs-Free _ _) (search (rules, common_steps))

pub walk_kind-returns-in-Exit : goal.walk_kind-returns-in-Exit
walk_kind-returns-in-Exit t c = kind_is _ _ _ _ _ (ap out-StmtKind c.in-Exit.is ∙ kind.outs-Exit) (search (rules, common_steps))
