use Rattle.text_rules.specs.Blocks.{broken, all_rules}
use Rattle.rule_checks.specs.Tables.{known_in}
use Rattle.rule_checks.proofs.RuleSteps.{Left}
use Rattle.rule_checks.proofs.blocks.Tables.rule_at.Given as goal

abbrev pub invariant-loop-rule : goal.invariant-loop-rule
invariant-loop-rule l = Left (λ r k e. broken r k e.note) all_rules (known_in l.self l.around) l.event l.rule-items l.rule-index
