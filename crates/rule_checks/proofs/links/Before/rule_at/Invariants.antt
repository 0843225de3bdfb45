use Rattle.text_rules.specs.Links.{broken, all_rules}
use Rattle.rule_checks.specs.Tables.{links_in}
use Rattle.rule_checks.proofs.RuleSteps.{Left}
use Rattle.rule_checks.proofs.links.Before.rule_at.Given as goal

abbrev pub invariant-loop-rule : goal.invariant-loop-rule
invariant-loop-rule l = Left (λ r k e. broken r k e.note) all_rules (links_in l.self l.links) l.event l.rule-items l.rule-index
