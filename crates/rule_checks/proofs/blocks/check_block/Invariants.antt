use Rattle.std.proofs.Common.{◌≡◌, take}
use Rattle.first_fault.proofs.Told.{Passed}
use Rattle.text_rules.specs.Blocks.{broken, all_rules, known_of}
use Rattle.rule_checks.specs.Tables.{known_in}
use Rattle.text_rules.specs.Texts.{line_of}
use Rattle.rule_checks.proofs.blocks.check_block.Given as goal

abbrev pub invariant-loop-event : goal.invariant-loop-event
invariant-loop-event l = record {
  known : known_in l.tables l.around ≡ known_of l.around.signals.now.kinds.now l.around.blocks.now.blocks.now l.events (take l.event-index l.events);
  passed : Passed (λ r k e. broken r k e.note) all_rules line_of
      (known_of l.around.signals.now.kinds.now l.around.blocks.now.blocks.now l.events) l.events l.event-index;
}
