use Rattle.std.proofs.Common.{◌≡◌, take, ◌++◌}
use Rattle.exchange_model.specs.Inside.{joined}
use Rattle.first_fault.proofs.Told.{Passed, PartsPassed}
use Rattle.signal_types.specs.Found.{kind_in}
use Rattle.text_rules.specs.Links.{known_of, known_in_part, block_of, amounts_in, broken, all_rules}
use Rattle.rule_checks.specs.Tables.{links_in, amounts_of}
use Rattle.text_rules.specs.Texts.{line_of}
use Rattle.rule_checks.proofs.links.check_links.Given as goal

abbrev pub invariant-loop-part : goal.invariant-loop-part
invariant-loop-part l = record {
  counted : amounts_of l.counted ≡ amounts_in (kind_in l.signals.kinds.now) (joined (take l.part l.parts));
  passed : PartsPassed (λ r k e. broken r k e.note) all_rules line_of (known_in_part l.signals.kinds.now l.blocks.blocks.now) l.parts l.part;
}

abbrev pub invariant-loop-event : goal.invariant-loop-event
invariant-loop-event l = record {
  known : links_in l.before l.links ≡ known_of l.signals.kinds.now l.blocks.blocks.now
      (block_of l.blocks.blocks.now l.part) (joined (take l.part l.parts) ++ take l.event-index l.event-items)
      (take l.event-index l.event-items);
  passed : Passed (λ r k e. broken r k e.note) all_rules line_of
      (known_in_part l.signals.kinds.now l.blocks.blocks.now (take l.part l.parts) l.event-items) l.event-items
      l.event-index;
}
