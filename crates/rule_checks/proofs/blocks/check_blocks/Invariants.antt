use Rattle.first_fault.proofs.Told.{PartsPassed}
use Rattle.text_rules.specs.Blocks.{broken, all_rules, known_in_part}
use Rattle.text_rules.specs.Texts.{line_of}
use Rattle.rule_checks.proofs.blocks.check_blocks.Given as goal

abbrev pub invariant-loop-part : goal.invariant-loop-part
invariant-loop-part l = PartsPassed (λ r k e. broken r k e.note) all_rules line_of (known_in_part l.signals.kinds.now l.blocks.blocks.now) l.parts l.part-index
