use Rattle.std.proofs.Common.{rules, ◌∙◌, ap}
use Rattle.std.proofs.lemmas.Grind.{common_steps}
use Rattle.exchange_model.specs.declared.stmt.StmtKind.{out-StmtKind}
use Rattle.exchange_model.specs.declared.stmt.StmtKind.TheVariants as kind
use Rattle.front_end.proofs.PointSteps.{kind_added, two_added, none_added}
use Rattle.front_end.proofs.points.+points.Goals as goal

pub add_kind-returns-in_ok-add_points-in-If-2 : goal.add_kind-returns-in_ok-add_points-in-If-2
add_kind-returns-in_ok-add_points-in-If-2 t c = kind_added _ _ _ _ _ (ap out-StmtKind c.in-If.is ∙ kind.outs-If _ _ _) (search (rules, common_steps, two_added))

pub add_kind-returns-in_ok-add_points-in-Case : goal.add_kind-returns-in_ok-add_points-in-Case
add_kind-returns-in_ok-add_points-in-Case t c = kind_added _ _ _ _ _
    (ap out-StmtKind c.in-Case.is ∙ kind.outs-Case _ _ _) (search (rules, common_steps, two_added))

pub add_kind-returns-in_ok-add_points-in-On : goal.add_kind-returns-in_ok-add_points-in-On
add_kind-returns-in_ok-add_points-in-On t c = kind_added _ _ _ _ _ (ap out-StmtKind c.in-On.is ∙ kind.outs-On _ _ _ _) (search (rules, common_steps))

pub add_kind-returns-in_default : goal.add_kind-returns-in_default
add_kind-returns-in_default t c = none_added _ _ _ c.in_default.not-If c.in_default.not-Case c.in_default.not-On
