use Rattle.std.proofs.Common.{refl, sym, ◌∙◌, ap, get_or}
use Rattle.std.proofs.lemmas.List.{get_or_default}
use Rattle.text_rules.specs.declared.rule.LinkRule.TheVariants as rule
use Rattle.text_rules.specs.Links.{broken, all_rules}
use Rattle.rule_checks.specs.Tables.{links_in}
use Rattle.rule_checks.proofs.RuleSteps.{rules_begin, rules_step, rules_hit, rules_end}
use Rattle.rule_checks.proofs.links.Before.rule_at.Goals as goal

pub loop-rule-init : goal.loop-rule-init
loop-rule-init c = rules_begin (λ r k e. broken r k e.note) all_rules (links_in c.args.self.now c.args.links.now) c.args.event.now all_rules refl

pub returns-then-is_broken : goal.returns-then-is_broken
returns-then-is_broken c =
    let r = get_or all_rules c.loop-rule.rule-index rule.NoReceiver in
    rules_hit (λ r k e. broken r k e.note) all_rules (links_in c.args.self.now c.args.links.now) c.args.event.now
    all_rules c.loop-rule.rule-index r c.loop-rule-test.true
    (get_or_default all_rules c.loop-rule.rule-index _ _ c.loop-rule-test.true)
    (ap (broken r (links_in c.args.self.now c.args.links.now)) (sym c.kind-kind.ensures) ∙ sym c.is_broken.ensures ∙ c.if-is_broken.true) c.loop-rule.invariant

pub loop-rule-preserved : goal.loop-rule-preserved
loop-rule-preserved c =
    let r = get_or all_rules c.loop-rule.rule-index rule.NoReceiver in
    rules_step (λ r k e. broken r k e.note) all_rules (links_in c.args.self.now c.args.links.now) c.args.event.now
    all_rules c.loop-rule.rule-index r c.loop-rule-test.true
    (get_or_default all_rules c.loop-rule.rule-index _ _ c.loop-rule-test.true)
    (ap (broken r (links_in c.args.self.now c.args.links.now)) (sym c.kind-kind.ensures) ∙ sym c.is_broken.ensures ∙ c.if-is_broken.false) c.loop-rule.invariant

pub returns : goal.returns
returns c = rules_end (λ r k e. broken r k e.note) all_rules (links_in c.args.self.now c.args.links.now)
    c.args.event.now all_rules c.loop-rule.rule-index c.loop-rule-test.false c.loop-rule.invariant
