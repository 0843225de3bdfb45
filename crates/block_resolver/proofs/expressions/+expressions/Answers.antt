use Rattle.std.proofs.Common.{rules, arith, ap, ◌∙◌}
use Rattle.std.proofs.lemmas.Grind.{common_steps}
use Rattle.plex_ast.specs.declared.expr.Added.{out-Added}
use Rattle.plex_ast.specs.declared.expr.Added.TheOpen as layer
use Rattle.plex_ast.specs.declared.expr.Added.TheVariants as added
use Rattle.plex_ast.specs.declared.expr.Multiplied.{out-Multiplied}
use Rattle.plex_ast.specs.declared.expr.Multiplied.TheVariants as multiplied
use Rattle.plex_ast.specs.declared.expr.FactorKind.{out-FactorKind}
use Rattle.plex_ast.specs.declared.expr.FactorKind.TheVariants as factor
use Rattle.block_resolver.specs.Tables.{env_in}
use Rattle.resolved_block.proofs.Layers.{added_is, multiplied_is, factor_kind_is}
use Rattle.block_resolver.proofs.expressions.+expressions.Goals as goal

pub make_added-returns-in_ok-factors-in-Plus : goal.make_added-returns-in_ok-factors-in-Plus
make_added-returns-in_ok-factors-in-Plus t c =
    rw (added_is (env_in c.args.names.now) c.args.added.now (layer.Plus c.in-Plus.term)
    (ap out-Added c.in-Plus.is ∙ added.outs-Plus c.in-Plus.term))
    (first_of (search (rules, common_steps), grind (arith, common_steps)))

pub make_added-returns-in_ok-factors-in-Minus : goal.make_added-returns-in_ok-factors-in-Minus
make_added-returns-in_ok-factors-in-Minus t c =
    rw (added_is (env_in c.args.names.now) c.args.added.now (layer.Minus c.in-Minus.term)
    (ap out-Added c.in-Minus.is ∙ added.outs-Minus c.in-Minus.term))
    (first_of (search (rules, common_steps), grind (arith, common_steps)))

pub make_multiplied-returns-in_ok-factor-in-Times : goal.make_multiplied-returns-in_ok-factor-in-Times
make_multiplied-returns-in_ok-factor-in-Times t c =
    rw (multiplied_is (env_in c.args.names.now) c.args.multiplied.now (layer.Times c.in-Times.f)
    (ap out-Multiplied c.in-Times.is ∙ multiplied.outs-Times c.in-Times.f))
    (first_of (search (rules, common_steps), grind (arith, common_steps)))

pub make_multiplied-returns-in_ok-factor-in-Over : goal.make_multiplied-returns-in_ok-factor-in-Over
make_multiplied-returns-in_ok-factor-in-Over t c =
    rw (multiplied_is (env_in c.args.names.now) c.args.multiplied.now (layer.Over c.in-Over.f)
    (ap out-Multiplied c.in-Over.is ∙ multiplied.outs-Over c.in-Over.f))
    (first_of (search (rules, common_steps), grind (arith, common_steps)))

pub make_multiplied-returns-in_ok-factor-in-Mod : goal.make_multiplied-returns-in_ok-factor-in-Mod
make_multiplied-returns-in_ok-factor-in-Mod t c =
    rw (multiplied_is (env_in c.args.names.now) c.args.multiplied.now (layer.Mod c.in-Mod.f)
    (ap out-Multiplied c.in-Mod.is ∙ multiplied.outs-Mod c.in-Mod.f))
    (first_of (search (rules, common_steps), grind (arith, common_steps)))

pub make_factor_kind-returns-in-Number : goal.make_factor_kind-returns-in-Number
make_factor_kind-returns-in-Number t c =
    rw (factor_kind_is (env_in c.args.names.now) c.args.kind.now (layer.Number c.in-Number.number)
    (ap out-FactorKind c.in-Number.is ∙ factor.outs-Number c.in-Number.number))
    (first_of (search (rules, common_steps), grind (arith, common_steps)))

pub make_factor_kind-returns-in-Name : goal.make_factor_kind-returns-in-Name
make_factor_kind-returns-in-Name t c =
    rw (factor_kind_is (env_in c.args.names.now) c.args.kind.now (layer.Name c.in-Name.name)
    (ap out-FactorKind c.in-Name.is ∙ factor.outs-Name c.in-Name.name))
    (first_of (search (rules, common_steps), grind (arith, common_steps)))

pub make_factor_kind-returns-in-Field : goal.make_factor_kind-returns-in-Field
make_factor_kind-returns-in-Field t c =
    rw (factor_kind_is (env_in c.args.names.now) c.args.kind.now (layer.Field c.in-Field.name c.in-Field.pointer)
    (ap out-FactorKind c.in-Field.is ∙ factor.outs-Field c.in-Field.name c.in-Field.pointer))
    (first_of (search (rules, common_steps), grind (arith, common_steps)))

pub make_factor_kind-returns-in_ok-inner-in-Bracket : goal.make_factor_kind-returns-in_ok-inner-in-Bracket
make_factor_kind-returns-in_ok-inner-in-Bracket t c =
    rw (factor_kind_is (env_in c.args.names.now) c.args.kind.now (layer.Bracket c.in-Bracket.held)
    (ap out-FactorKind c.in-Bracket.is ∙ factor.outs-Bracket c.in-Bracket.held))
    (first_of (search (rules, common_steps), grind (arith, common_steps)))

pub make_factor_kind-returns-in-Reference : goal.make_factor_kind-returns-in-Reference
make_factor_kind-returns-in-Reference t c =
    rw (factor_kind_is (env_in c.args.names.now) c.args.kind.now (layer.Reference c.in-Reference.block)
    (ap out-FactorKind c.in-Reference.is ∙ factor.outs-Reference c.in-Reference.block))
    (first_of (search (rules, common_steps), grind (arith, common_steps)))
