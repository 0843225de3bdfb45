use Rattle.std.proofs.Common.{rules, ◌∙◌, ap}
use Rattle.std.proofs.lemmas.Grind.{common_steps}
use Rattle.plex_ast.specs.declared.expr.Added.{out-Added}
use Rattle.plex_ast.specs.declared.expr.Added.TheVariants as added
use Rattle.plex_ast.specs.declared.expr.Multiplied.{out-Multiplied}
use Rattle.plex_ast.specs.declared.expr.Multiplied.TheVariants as multiplied
use Rattle.plex_ast.specs.declared.expr.FactorKind.{out-FactorKind}
use Rattle.plex_ast.specs.declared.expr.FactorKind.TheVariants as factor
use Rattle.text_walk.proofs.Choices.{added_is, multiplied_is, factor_is}
use Rattle.text_walk.proofs.expressions.+exprs.Goals as goal

pub walk_added-returns-in_ok-walk_term-in-Plus : goal.walk_added-returns-in_ok-walk_term-in-Plus
walk_added-returns-in_ok-walk_term-in-Plus t c = added_is _ _ _ _ _ (ap out-Added c.in-Plus.is ∙ added.outs-Plus _) (search (rules, common_steps))

pub walk_added-returns-in_ok-walk_term-in-Minus : goal.walk_added-returns-in_ok-walk_term-in-Minus
walk_added-returns-in_ok-walk_term-in-Minus t c = added_is _ _ _ _ _ (ap out-Added c.in-Minus.is ∙ added.outs-Minus _) (search (rules, common_steps))

pub walk_multiplied-returns-in_ok-walk_factor-in-Times : goal.walk_multiplied-returns-in_ok-walk_factor-in-Times
walk_multiplied-returns-in_ok-walk_factor-in-Times t c = multiplied_is _ _ _ _ _
    (ap out-Multiplied c.in-Times.is ∙ multiplied.outs-Times _) (search (rules, common_steps))

pub walk_multiplied-returns-in_ok-walk_factor-in-Over : goal.walk_multiplied-returns-in_ok-walk_factor-in-Over
walk_multiplied-returns-in_ok-walk_factor-in-Over t c = multiplied_is _ _ _ _ _
    (ap out-Multiplied c.in-Over.is ∙ multiplied.outs-Over _) (search (rules, common_steps))

pub walk_multiplied-returns-in_ok-walk_factor-in-Mod : goal.walk_multiplied-returns-in_ok-walk_factor-in-Mod
walk_multiplied-returns-in_ok-walk_factor-in-Mod t c = multiplied_is _ _ _ _ _
    (ap out-Multiplied c.in-Mod.is ∙ multiplied.outs-Mod _) (search (rules, common_steps))

pub walk_factor_kind-returns-in_ok-push-in-Number : goal.walk_factor_kind-returns-in_ok-push-in-Number
walk_factor_kind-returns-in_ok-push-in-Number t c = factor_is _ _ _ _ _ (ap out-FactorKind c.in-Number.is ∙ factor.outs-Number _) (search (rules, common_steps))

pub walk_factor_kind-returns-in_ok-push_read-in-Name : goal.walk_factor_kind-returns-in_ok-push_read-in-Name
walk_factor_kind-returns-in_ok-push_read-in-Name t c = factor_is _ _ _ _ _ (ap out-FactorKind c.in-Name.is ∙ factor.outs-Name _) (search (rules, common_steps))

pub walk_factor_kind-returns-in_ok-push_use-in-Field : goal.walk_factor_kind-returns-in_ok-push_use-in-Field
walk_factor_kind-returns-in_ok-push_use-in-Field t c = factor_is _ _ _ _ _
    (ap out-FactorKind c.in-Field.is ∙ factor.outs-Field _ _) (search (rules, common_steps))

pub walk_factor_kind-returns-in_ok-walk_expr-in-Bracket : goal.walk_factor_kind-returns-in_ok-walk_expr-in-Bracket
walk_factor_kind-returns-in_ok-walk_expr-in-Bracket t c = factor_is _ _ _ _ _
    (ap out-FactorKind c.in-Bracket.is ∙ factor.outs-Bracket _) (search (rules, common_steps))

pub walk_factor_kind-returns-in_ok-push_block-in-Reference : goal.walk_factor_kind-returns-in_ok-push_block-in-Reference
walk_factor_kind-returns-in_ok-push_block-in-Reference t c = factor_is _ _ _ _ _
    (ap out-FactorKind c.in-Reference.is ∙ factor.outs-Reference _) (search (rules, common_steps))
